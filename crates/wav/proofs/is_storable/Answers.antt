-- `wav::is_storable` meets its contract: its tests are the definition's.
-- Assumes nothing.
use Rattle.wav.proofs.is_storable.Goals as goal

pub returns : goal.returns
returns c =
    rw c.supported.ensures
