-- `pieces` meets its contract. The invariant: the pieces from here leave what all of them leave, with fuel enough for what is left of the
-- period. The measure is what is left. Assumes nothing.
use mathlib.Core.Path.{refl, sym, ◌∙◌}
use native.Mathlib.Omega.{arith}
use Rattle.plan.proofs.Laws.{went_well, was_stopped}
use Rattle.pieces.specs.Pieces.{state_of, step_out}
use Rattle.pieces.proofs.Turns.{further, pieces_more, pieces-stop, pieces_end}
use Rattle.pieces.proofs.pieces.Goals as goal

pub loop-done-init : goal.loop-done-init
loop-done-init c =
    (omega arith, refl, refl, refl, c.args.count, omega arith, refl)

pub returns-then-is_some : goal.returns-then-is_some
returns-then-is_some c =
    let l = c.loop-done in
    let a = c.args in
    let p = c.piece-step in
    let x = state_of l.s l.list l.memory l.pcm l.done in
    let o = step_out p.result p.new.list p.new.memory p.new.pcm in
    sym (pieces-stop a.g a.count x l.invariant.4 o c.loop-done-test.true l.invariant.5 p.ensures (was_stopped _ (sym c.is_some.ensures ∙ c.if-is_some.true))) ∙ l.invariant.6

pub loop-done-smaller : goal.loop-done-smaller
loop-done-smaller c =
    let l = c.loop-done in
    let a = c.args in
    let p = c.piece-step in
    let x = state_of l.s l.list l.memory l.pcm l.done in
    let o = step_out p.result p.new.list p.new.memory p.new.pcm in
    let f = further a.g a.count x o c.requires.cyclic c.loop-done-test.true p.ensures (went_well _ (sym c.is_some.ensures ∙ c.if-is_some.false)) in
    omega arith

pub loop-done-preserved : goal.loop-done-preserved
loop-done-preserved c =
    let l = c.loop-done in
    let a = c.args in
    let p = c.piece-step in
    let x = state_of l.s l.list l.memory l.pcm l.done in
    let o = step_out p.result p.new.list p.new.memory p.new.pcm in
    let moved = went_well _ (sym c.is_some.ensures ∙ c.if-is_some.false) in
    let f = further a.g a.count x o c.requires.cyclic c.loop-done-test.true p.ensures moved in
    let k = pieces_more a.g a.count x l.invariant.4 o c.loop-done-test.true l.invariant.5 p.ensures moved in (
      f.1,
      p.auto.list ∙ l.invariant.1,
      p.auto.memory ∙ l.invariant.2,
      p.auto.pcm ∙ l.invariant.3,
      k.0,
      omega (arith, k.1, l.invariant.5, f.0),
      sym k.2 ∙ l.invariant.6,
    )

pub returns : goal.returns
returns c =
    let l = c.loop-done in
    let a = c.args in
    sym (pieces_end a.g a.count (state_of l.s l.list l.memory l.pcm l.done) l.invariant.4 c.loop-done-test.false) ∙ l.invariant.6
