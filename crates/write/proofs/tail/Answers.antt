-- `tail` meets its contract: the control bits, the flush, the streams. Assumes nothing.
use Rattle.settle.specs.Settle.{ports}
use Rattle.write.proofs.Writing.{tail-done}
use Rattle.write.proofs.tail.Goals as goal

pub returns : goal.returns
returns c =
    let a = c.args in
    tail-done a.old.now (ports a.hda a.host) c.controlled-ports.result c.settle.result c.flush.new.regs
    c.controlled-ports.ensures c.flush.ensures c.settle.ensures
