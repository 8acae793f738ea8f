-- `bounds` meets its contract: each refusal in order, then the answer. Assumes nothing.
use Prim.Native.Nat.{ℕ, ◌≤◌}
use mathlib.Core.Path.{◌≡◌, sym, ap, ◌∙◌}
use native.Mathlib.Omega.{arith}
use lib.ListN.{length}
use Rattle.device.specs.Machines.{Machine, machine}
use Rattle.record.specs.Loads.{device_at}
use Rattle.jitter.specs.declared.Bounded.{Bounded}
use Rattle.jitter.specs.Calls.{bounded_of, Scratch, scratch, bounding_of}
use Rattle.jitter.proofs.Outcomes.{refused-check, refused-times, refused-space, enough, accepted}
use borrow.Author.Rules.{rules}
use Rattle.device.specs.Machines.{check_machine}
use Rattle.refusal.proofs.Laws.{refused, refused-none, number-nonzero}
use Rattle.jitter.proofs.bounds.Goals as goal

pub returns-in-Err : goal.returns-in-Err
returns-in-Err c =
    let a = c.args in
    let x = (machine (device_at c.args.device.now) c.args.host c.args.lists.now c.args.queues.now c.args.memory.now) in
    let s = (scratch c.args.lists2.now c.args.queues2.now c.args.memory2.now) in
    let into = a.into.now in
    let n = c.number.result in
    let same = refused c.check.result (check_machine x) c.check.ensures c.in-Err.refusal c.in-Err.is n c.number.ensures in
    ap (λ (b : Bounded). bounding_of b s into) c.answer.ensures
    ∙ refused-check a.shortest a.longest x s into n same (number-nonzero c.in-Err.refusal n c.number.ensures)

pub returns-then-longest-shortest : goal.returns-then-longest-shortest
returns-then-longest-shortest c =
    let a = c.args in
    let x = (machine (device_at c.args.device.now) c.args.host c.args.lists.now c.args.queues.now c.args.memory.now) in
    let s = (scratch c.args.lists2.now c.args.queues2.now c.args.memory2.now) in
    let into = a.into.now in
    let same = refused-none c.check.result (check_machine x) c.check.ensures c.in_default.field-0 c.in_default.is in
    ap (λ (b : Bounded). bounding_of b s into) (c.answer-then-longest-shortest.ensures ∙ ap (λ (n : ℕ). bounded_of n (device_at a.device.now) 0) c.number-then-longest-shortest.ensures) ∙ refused-times a.shortest a.longest x s into (sym same) (omega arith)

pub returns-then-is_short : goal.returns-then-is_short
returns-then-is_short c =
    let a = c.args in
    let x = (machine (device_at c.args.device.now) c.args.host c.args.lists.now c.args.queues.now c.args.memory.now) in
    let s = (scratch c.args.lists2.now c.args.queues2.now c.args.memory2.now) in
    let into = a.into.now in
    let same = refused-none c.check.result (check_machine x) c.check.ensures c.in_default.field-0 c.in_default.is in
    ap (λ (b : Bounded). bounding_of b s into) (c.answer-then-is_short.ensures ∙ ap (λ (n : ℕ). bounded_of n (device_at a.device.now) 0) c.number-then-is_short.ensures)
    ∙ refused-space a.shortest a.longest x s into (sym same) (omega arith) (sym c.is_short.ensures ∙ c.if-is_short.true)

pub bounds_step-requires : goal.bounds_step-requires
bounds_step-requires c =
    let a = c.args in
    let x = (machine (device_at c.args.device.now) c.args.host c.args.lists.now c.args.queues.now c.args.memory.now) in
    let s = (scratch c.args.lists2.now c.args.queues2.now c.args.memory2.now) in
    let into = a.into.now in
    let same = refused-none c.check.result (check_machine x) c.check.ensures c.in_default.field-0 c.in_default.is in
    let room = enough x s (length into) (sym c.is_short.ensures ∙ c.if-is_short.false) in record {
      shortest_le_longest = (omega arith, room.3);
      spread_needs = record { sized = c.requires.0; device = c.requires.1; passes = sym same; lists = room.0; queues = room.1; memory = room.2 };
    }

pub returns : goal.returns
returns c =
    let a = c.args in
    let x = (machine (device_at c.args.device.now) c.args.host c.args.lists.now c.args.queues.now c.args.memory.now) in
    let s = (scratch c.args.lists2.now c.args.queues2.now c.args.memory2.now) in
    let into = a.into.now in
    let same = refused-none c.check.result (check_machine x) c.check.ensures c.in_default.field-0 c.in_default.is in
    let step = c.bounds_step in
    let zeros = scratch step.new.lists2 step.new.queues2 step.new.memory2 in
    let result = step.new.into in
    ap (λ (b : Bounded). bounding_of b zeros result) c.answer-2.ensures
    ∙ accepted a.shortest a.longest x s into (sym same) (omega arith) (sym c.is_short.ensures ∙ c.if-is_short.false) zeros result step.ensures.memory2_after step.ensures.into_after
