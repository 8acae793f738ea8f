-- `run` meets its contract: a file that fills the room may go on behind it, and any other was read to its end. Assumes nothing.
use Rattle.std.proofs.Common.{arith}
use Rattle.replay.proofs.Read.{run-short, run-long}
use Rattle.replay.proofs.run.Goals as goal

pub returns-then-count-eq-ROOM : goal.returns-then-count-eq-ROOM
returns-then-count-eq-ROOM g c =
    let read = c.in_ok-count.ensures in
    run-long _ _ _ c.read_full.new.room c.in_ok-count.count read.upper_bound _ _ read.bytes c.if-count-eq-ROOM.true c.write_all.ensures.bytes

pub returns : goal.returns
returns g c =
    let read = c.in_ok-count.ensures in
    let written = c.in_ok-tally.ensures in
    run-short _ _ _ c.read_full.new.room c.in_ok-count.count read.upper_bound _ _ _ read.bytes (read.ended (omega arith)) (omega arith) written.written _ written.value c.print.ensures
