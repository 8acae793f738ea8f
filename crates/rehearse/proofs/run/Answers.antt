-- `run` meets its contract: what was read is as much of the file as fits into the room. Assumes nothing.
use Rattle.std.proofs.Common.{sym, ◌∙◌}
use Rattle.rehearse.specs.Printed.{output_of}
use Rattle.rehearse.proofs.Read.{run-done}
use Rattle.rehearse.proofs.run.Goals as goal

pub returns : goal.returns
unfolding output_of
returns g c =
    let read = c.in_ok-count.ensures in
    run-done 1310720 c.read_full.new.room (c.read_full.auto.room ∙ sym c.room-data.ensures) c.in_ok-count.count read.upper_bound _ _ _ _ _ read.bytes read.ended _ c.rehearse-tally.ensures c.print.ensures
