-- `corollaries` meets its contract.
use Rattle.book.proofs.Theorem.{saves, restorable, near}
use Rattle.book.proofs.Consequences.{once, told}
use Rattle.book.proofs.Shown.{declined, turned, advanced}
use Rattle.book.proofs.corollaries.Goals as goal

pub returns : goal.returns
returns c =
    record { once = once; told = told; turned = turned; advanced = advanced; declined = declined; saves = saves; restorable = restorable; near = near }
