-- `wav::header` meets its contract: four stores into what all headers have alike.
-- Assumes nothing.
use Rattle.wav.proofs.Headers.{header-stored}
use Rattle.wav.proofs.header.Goals as goal

pub returns : goal.returns
returns c =
    rw (c.put-4.ensures, c.put-3.ensures, c.put-2.ensures, c.put.ensures) (header-stored _ _)
