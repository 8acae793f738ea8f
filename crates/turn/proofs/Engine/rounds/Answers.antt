-- `Engine::rounds` meets its contract. The invariant: the rounds from here leave what all of them leave, with fuel enough for the frames that are due, and
-- the bounds hold. The measure is the frames due. Assumes nothing.
use mathlib.Core.Path.{refl, sym, ap, ◌∙◌, subst}
use native.Mathlib.Omega.{arith}
use Rattle.turn.specs.Engines.{Work, work_of, due_of, rounds_of}
use Rattle.turn.proofs.Rounds.{rounds-more, rounds-end, rounds-fall, round_keeps, Within, within}
use Rattle.turn.proofs.Engine.rounds.Goals as goal

pub loop-g-init : goal.loop-g-init
loop-g-init c =
    (refl, refl, refl, (c.requires.pending, c.requires.queued), due_of c.args.self, omega arith, refl)

pub round-e-requires : goal.round-e-requires
round-e-requires c =
    let p = c.requires in
    let l = c.loop-g.invariant in
    record { stream = p.stream; pending = l.3.0; queued = l.3.1; limited = p.limited; long = omega (arith, l.0, p.long); space = omega (arith, l.1, p.space) }

pub loop-g-smaller : goal.loop-g-smaller
loop-g-smaller c =
    let l = c.loop-g in
    let r = c.round-e in
    rounds-fall c.args.g (work_of l.e l.list l.part l.memory) (work_of r.result r.new.list r.new.part r.new.memory) (λ z. c.loop-g-test.true (c.frames.ensures ∙ z)) r.ensures

pub loop-g-preserved : goal.loop-g-preserved
loop-g-preserved c =
    let l = c.loop-g in
    let r = c.round-e in
    let g = c.args.g in
    let x = work_of l.e l.list l.part l.memory in
    let k = rounds-more g x l.invariant.4 (λ z. c.loop-g-test.true (c.frames.ensures ∙ z)) l.invariant.5 in
    let less = rounds-fall g x (work_of r.result r.new.list r.new.part r.new.memory) (λ z. c.loop-g-test.true (c.frames.ensures ∙ z)) r.ensures in (
      r.auto.list ∙ l.invariant.0,
      r.auto.part ∙ l.invariant.1,
      r.auto.memory ∙ l.invariant.2,
      subst (λ (y : Work). Within y.engine.stream y.engine.queue y.list) (sym r.ensures) (round_keeps Within within g x l.invariant.3),
      k.0,
      omega (arith, k.1, l.invariant.5, less),
      ap (rounds_of k.0 g) r.ensures ∙ sym k.2 ∙ l.invariant.6,
    )

pub returns : goal.returns
returns c =
    let l = c.loop-g in
    sym (rounds-end c.args.g (work_of l.e l.list l.part l.memory) l.invariant.4 (sym c.frames.ensures ∙ c.loop-g-test.false)) ∙ l.invariant.6
