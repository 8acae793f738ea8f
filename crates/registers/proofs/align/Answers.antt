-- A turn of the loop is one of the definition's, and so is its end.
use Rattle.std.proofs.Common.{sym, ◌∙◌, arith}
use Rattle.stream.specs.Box.{streams}
use Rattle.registers.specs.Writes.{align_stream_of, align_of}
use Rattle.registers.proofs.Turns.{each_turn, each_done}
use Rattle.registers.proofs.align.Goals as goal

pub loop-index-preserved : goal.loop-index-preserved
loop-index-preserved c =
    let l = c.loop-index in
    sym (each_turn align_stream_of streams l.index l.regs (omega arith)) ∙ l.invariant

pub returns : goal.returns
unfolding align_of
returns c =
    let l = c.loop-index in
    sym (each_done align_stream_of streams l.index l.regs (omega arith)) ∙ l.invariant
