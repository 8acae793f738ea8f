-- `move_bytes` meets its contract: one copy, out of memory or into it; the other list stays. Assumes nothing.
use mathlib.Core.Path.{refl}
use Rattle.pieces.proofs.Laws.{captured, played}
use Rattle.pieces.proofs.move_bytes.Goals as goal

pub returns-then-capture : goal.returns-then-capture
returns-then-capture c =
    let a = c.args in
    let write = c.write in
    rw c.if-capture.true
    record { memory_after = captured a.memory.now a.at a.pcm.now a.done a.n c.requires.0 c.requires.1 write.result write.new.memory write.ensures; pcm_after = refl }

pub returns-else-capture : goal.returns-else-capture
returns-else-capture c =
    let a = c.args in
    let read = c.read in
    rw c.if-capture.false
    record { memory_after = refl; pcm_after = played a.memory.now a.at a.pcm.now a.done a.n c.requires.0 c.requires.1 read.result read.new.into read.ensures }
