-- `port_wav::read` is crate wav's call, whose answer is packed into one number. Assumes nothing.
use mathlib.Core.Path.{ap}
use Rattle.port_wav.specs.Calls.{filled_of, read_of}
use Rattle.port_wav.proofs.read.Goals as goal

pub returns : goal.returns
unfolding read_of
returns c =
    rw c.fill_reply.ensures (ap filled_of c.read.ensures)
