-- `written` meets its contract: the bytes, then the alignment. Assumes nothing.
use Rattle.write.proofs.Writing.{written-done}
use Rattle.write.proofs.written.Goals as goal

pub returns : goal.returns
returns c =
    let w = c.write-hda in
    let a = c.args in
    written-done a.hda a.offset a.bytes.now w.new.regs c.align.new.regs w.result w.ensures c.align.ensures
