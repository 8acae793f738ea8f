-- `corollaries_bytes` meets its contract.
use Rattle.lent_book.proofs.Theorem.{once, advanced, saves, near}
use Rattle.lent_book.proofs.corollaries_bytes.Goals as goal

pub returns : goal.returns
returns c =
    record { once = once; advanced = advanced; saves = saves; near = near }
