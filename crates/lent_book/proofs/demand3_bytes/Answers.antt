-- `demand3_bytes` meets its contract.
use Rattle.lent_book.proofs.Theorem.{opens, agrees, spaced, few-ever}
use Rattle.lent_book.proofs.demand3_bytes.Goals as goal

pub returns : goal.returns
returns c =
    record { opens = opens; agrees = agrees; spaced = spaced; few = few-ever }
