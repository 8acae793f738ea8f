-- `valid` meets its contract: each test of the record is one of the device.
use borrow.Author.Rules.{rules}
use Rattle.read.proofs.Records.{valid_there}
use Rattle.read.proofs.valid.Goals as goal

pub returns-then-get-eq-IDENTITY : goal.returns-then-get-eq-IDENTITY
returns-then-get-eq-IDENTITY c =
    rw (valid_there c.args.device.now c.args.lists.now) (search rules)

pub returns-else-get-eq-IDENTITY : goal.returns-else-get-eq-IDENTITY
returns-else-get-eq-IDENTITY c =
    rw (valid_there c.args.device.now c.args.lists.now) (search rules)
