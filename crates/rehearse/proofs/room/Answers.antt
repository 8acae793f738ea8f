-- `room` has its length by the law, which does not count a million elements. Assumes nothing.
use Rattle.rehearse.proofs.Steps.{zeros-length}
use Rattle.rehearse.proofs.room.Goals as goal

pub returns : goal.returns
returns c =
    zeros-length 1310720
