-- A turn of the loop is one of the definition's, and so is its end.
use Rattle.std.proofs.Common.{◌+◌, ◌-◌, sym, ap, ◌∙◌, arith}
use Rattle.word.specs.Each.{each_of, always}
use Rattle.stream.specs.Box.{streams}
use Rattle.stream.specs.Streams.{fresh_of}
use Rattle.registers.proofs.Turns.{each_turn, each_done}
use Rattle.settle.specs.Settle.{ports, with_channel, settle_at, settle_of}
use Rattle.settle.proofs.settle.Goals as goal

pub loop-index-preserved : goal.loop-index-preserved
unfolding fresh_of
loop-index-preserved c =
    let l = c.loop-index in
    let e = ap (with_channel (ports l.d l.h) l.index) c.settle-settled.ensures in
    ap (each_of always (settle_at c.args.old.now) (streams - (l.index + 1)) (l.index + 1)) e
    ∙ sym (each_turn (settle_at c.args.old.now) streams l.index (ports l.d l.h) (omega arith))
    ∙ l.invariant

pub returns : goal.returns
unfolding settle_of
returns c =
    let l = c.loop-index in
    sym (each_done (settle_at c.args.old.now) streams l.index (ports l.d l.h) (omega arith)) ∙ l.invariant
