-- `queued` is `queued_of`: the parts of both streams. Assumes nothing.
use Rattle.std.proofs.Common.{◌∙◌}
use Rattle.rehearse.proofs.digest.queued.Goals as goal

pub returns : goal.returns
returns c =
    c.part.ensures ∙ rw (c.part-sum.ensures, c.number-playback.ensures, c.number-capture.ensures)
