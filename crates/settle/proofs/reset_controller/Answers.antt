-- A turn of the loop is one of the definition's, and so is its end.
use Rattle.std.proofs.Common.{◌+◌, ◌-◌, sym, ap, ◌∙◌, arith}
use Rattle.word.specs.Each.{each_of, always}
use Rattle.stream.specs.Box.{streams}
use Rattle.stream.specs.Streams.{fresh_of}
use Rattle.registers.proofs.Turns.{each_turn, each_done}
use Rattle.settle.specs.Settle.{ports, with_channel, reset_at, reset_controller_of}
use Rattle.settle.proofs.reset_controller.Goals as goal

pub loop-index-preserved : goal.loop-index-preserved
unfolding fresh_of
loop-index-preserved c =
    let l = c.loop-index in
    let e = ap (with_channel (ports l.d l.h) l.index) c.reset-reset.ensures in
    ap (each_of always reset_at (streams - (l.index + 1)) (l.index + 1)) e
    ∙ sym (each_turn reset_at streams l.index (ports l.d l.h) (omega arith))
    ∙ l.invariant

pub returns : goal.returns
unfolding reset_controller_of
returns c =
    let l = c.loop-index in
    sym (each_done reset_at streams l.index (ports l.d l.h) (omega arith)) ∙ l.invariant ∙ rw c.cleared-d.ensures
