-- `catch_up_bytes` meets its contract: the parts of the claim.
use Rattle.lent_catchup.proofs.Theorem.{each, over, moved, lasts}
use Rattle.lent_catchup.proofs.catch_up_bytes.Goals as goal

pub returns : goal.returns
returns c =
    record { every = λ i own plays. record { each = each i own plays; over = over i own plays; moved = moved i own plays; lasts = lasts i own plays } }
