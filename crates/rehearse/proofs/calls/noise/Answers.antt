-- `noise` is `noised_of`. Assumes nothing.
use Rattle.rehearse.proofs.calls.noise.Goals as goal

pub returns : goal.returns
returns c =
    rw c.fill.ensures
