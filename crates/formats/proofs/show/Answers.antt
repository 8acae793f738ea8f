-- `formats::show` meets its contract: it writes the line of a word that the device takes, and no byte for any other.
-- Assumes nothing.
use Rattle.formats.specs.Line.{shown_of}
use Rattle.formats.proofs.Written.{appends-none}
use Rattle.formats.proofs.show.Goals as goal

pub returns-in-Some : goal.returns-in-Some
unfolding shown_of
returns-in-Some g c =
    rw (← c.decode.ensures, c.in-Some.is, ← c.line-text.ensures) c.write_all.ensures.bytes

pub returns-in-None : goal.returns-in-None
unfolding shown_of
returns-in-None g c =
    rw (← c.decode.ensures, c.in-None.is) (appends-none _)
