-- `port_wav::write` is crate wav's call, whose answer is packed into one number. Assumes nothing.
use mathlib.Core.Path.{ap}
use Rattle.port_wav.specs.Calls.{filled_of, write_of}
use Rattle.port_wav.proofs.write.Goals as goal

pub returns : goal.returns
unfolding write_of
returns c =
    rw c.fill_reply.ensures (ap filled_of c.write.ensures)
