-- `read_full` meets its contract: each read goes on behind the one before. Assumes nothing.
use Rattle.std.proofs.Common.{rules}
use Rattle.replay.proofs.Read.{read-more}
use Rattle.replay.proofs.read_full.Goals as goal

pub loop-done-preserved : goal.loop-done-preserved
loop-done-preserved g c =
    let l = c.loop-done in
    let read = c.in_ok-count.ensures in
    record { within = search rules; read = read-more _ _ _ l.room c.read.new.buf l.done _ l.invariant.within read.bound.0 l.invariant.read read.bytes.0 }
