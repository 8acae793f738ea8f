-- `clock::Clock::advance` meets its contract: the ticks of the whole seconds and those of the rest are the ticks of the whole time.
-- Assumes nothing.
use Rattle.clock.proofs.Laws.{advanced}
use Rattle.clock.proofs.Clock.advance.Goals as goal

pub returns : goal.returns
returns c =
    rw (c.from.ensures, c.part_of_second-part.ensures) (advanced _ _)
