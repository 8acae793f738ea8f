-- `unchanged` meets its contract. Assumes nothing.
use borrow.Author.Rules.{rules}
use Rattle.device.specs.Machines.{answer_of}
use Rattle.read.specs.Reads.{status_of}
use Rattle.advance.proofs.unchanged.Goals as goal

pub returns : goal.returns
unfolding answer_of status_of
returns c =
    rw c.status_of-s.ensures
