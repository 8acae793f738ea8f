-- `corollaries_bytes` meets its contract: the formula, that it is met, and other calls between.
use Rattle.lent_catchup.proofs.Theorem.{gone, exact}
use Rattle.lent_catchup.proofs.Between.{among, over}
use Rattle.lent_catchup.proofs.corollaries_bytes.Goals as goal

pub returns : goal.returns
returns c =
    record { counted = λ i own plays. record { gone = gone i own plays; exact = exact i own plays; among = among i own plays; over = over i own plays } }
