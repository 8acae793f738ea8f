-- `clock::accrue` meets its contract: seconds past the limit change nothing, and the limit on the whole frames is the limit on the frame time.
-- Assumes nothing.
use Rattle.clock.proofs.Laws.{accrued}
use Rattle.clock.proofs.accrue.Goals as goal

pub returns : goal.returns
returns c =
    rw (c.min.ensures, c.from.ensures, c.min-seconds.ensures, c.part_of_second-part.ensures) (accrued _ _ _)
