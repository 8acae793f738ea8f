-- `corollaries` meets its contract: the formula, that it is met, and what it comes to.
use mathlib.Core.Path.{refl}
use Rattle.catchup.proofs.Theorem.{gone, exact, among, over-among, sounds}
use Rattle.catchup.proofs.corollaries.Goals as goal

pub returns : goal.returns
returns c =
    record { counted = λ i own plays. record { gone = gone i own plays; exact = exact i own plays; among = among i own plays; over = over-among i own plays }; sounds = sounds; most = (refl, refl) }
