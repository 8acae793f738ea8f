-- `catch_up` meets its contract: the parts of the claim.
use Rattle.catchup.proofs.Theorem.{each, over, moved, lasts}
use Rattle.catchup.proofs.catch_up.Goals as goal

pub returns : goal.returns
returns c =
    record { every = λ i own plays. record { each = each i own plays; over = over i own plays; moved = moved i own plays; lasts = lasts i own plays } }
