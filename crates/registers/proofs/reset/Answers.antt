-- A turn of the loop is one of the definition's, and so is its end.
use Rattle.std.proofs.Common.{sym, ap, ◌∙◌, arith, ◌+◌, ◌-◌}
use Rattle.word.specs.Each.{each_of, always}
use Rattle.stream.specs.Box.{streams}
use Rattle.registers.specs.Reset.{reset_stream_of, reset_of}
use Rattle.registers.proofs.Turns.{each_turn, each_done}
use Rattle.registers.proofs.reset.Goals as goal

pub loop-index-preserved : goal.loop-index-preserved
loop-index-preserved c =
    let l = c.loop-index in
    ap (each_of always reset_stream_of (streams - (l.index + 1)) (l.index + 1)) c.reset_stream.ensures
    ∙ sym (each_turn reset_stream_of streams l.index l.regs (omega arith))
    ∙ l.invariant

pub returns : goal.returns
unfolding reset_of
returns c =
    let l = c.loop-index in
    sym (each_done reset_stream_of streams l.index l.regs (omega arith)) ∙ l.invariant ∙ rw (c.put-3.ensures, c.put-2.ensures, c.put.ensures)
