-- `demand3` meets its contract: the starts, and the parts of the claim.
use Rattle.book.proofs.Theorem.{opens, agrees, spaced, few-ever}
use Rattle.book.proofs.demand3.Goals as goal

pub returns : goal.returns
returns c =
    record { opens = opens; agrees = agrees; spaced = spaced; few = few-ever }
