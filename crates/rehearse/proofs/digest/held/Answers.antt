-- `held` is `held_of`. Assumes nothing.
use Rattle.std.proofs.Common.{◌∙◌}
use Rattle.rehearse.proofs.digest.held.Goals as goal

pub returns : goal.returns
returns c =
    c.queued.ensures ∙ rw (c.pending.ensures, c.digest-records.ensures, c.digest.ensures, c.digest-given.ensures)
