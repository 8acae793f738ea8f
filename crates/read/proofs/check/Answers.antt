-- `check` meets its contract.
use borrow.Author.Rules.{rules}
use Rattle.device.specs.Machines.{check_of}
use Rattle.read.proofs.check.Goals as goal

pub returns-then-is_short : goal.returns-then-is_short
unfolding check_of
returns-then-is_short c =
    search rules

pub returns-then-valid-2 : goal.returns-then-valid-2
unfolding check_of
returns-then-valid-2 c =
    search rules

pub returns-else-valid : goal.returns-else-valid
unfolding check_of
returns-else-valid c =
    search rules
