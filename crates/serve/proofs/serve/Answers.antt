-- `serve` meets its contract. The invariant: what the next turn requires holds, and the streams from `index` on leave what all of them leave of the machine as
-- it was where the loop began. Assumes nothing.
use mathlib.Core.Path.{refl, sym, ◌∙◌}
use mathlib.Core.Bool.{false}
use native.Mathlib.Omega.{arith}
use Rattle.word.proofs.Each.{each_step, each-end}
use Rattle.stream.specs.Box.{streams}
use Rattle.device.specs.Machines.{machine}
use Rattle.record.specs.Loads.{device_at}
use Rattle.record.proofs.Theorems.{file-sized}
use Rattle.serve.specs.Serve.{turns_of, turns_answer, goes_on, serve_of}
use Rattle.serve.proofs.Turns.{turn-none, needs-again, serve-step, serve-stop}
use Rattle.serve.proofs.serve.Goals as goal

pub loop-index-init : goal.loop-index-init
loop-index-init c =
    let pre = c.requires in (refl, pre.1, pre.2, streams, refl, refl)

-- the registers stand in the record
pub is_running-requires : goal.is_running-requires
is_running-requires c =
    let l = c.loop-index in (omega (arith, file-sized l.device l.invariant.1 262 (omega arith)), omega arith)

-- a stream that takes no turn
pub loop-index-preserved-then-not-is_running : goal.loop-index-preserved-then-not-is_running
unfolding device_at
loop-index-preserved-then-not-is_running c =
    let l = c.loop-index in
    let d = device_at l.device in
    let x = machine d l.host l.lists l.queues l.memory in
    let none = turn-none _ l.index d l.host l.lists l.queues l.memory (sym c.is_running.ensures ∙ c.if-not-is_running.true) in
    let k = each_step goes_on _ streams l.index l.invariant.3 (turns_of false x) (turns_of false x) l.invariant.4 c.loop-index-test.true none refl in
    (l.invariant.0, l.invariant.1, l.invariant.2, k.0, k.1, sym k.2 ∙ l.invariant.5)

pub turn_at-served-requires : goal.turn_at-served-requires
turn_at-served-requires c =
    let l = c.loop-index in
    (l.invariant.0 ∙ c.requires.0, l.invariant.1, omega arith, sym c.is_running.ensures ∙ c.if-not-is_running.false, l.invariant.2)

pub returns-then-served : goal.returns-then-served
unfolding serve_of
returns-then-served c =
    let l = c.loop-index in
    let t = c.turn_at-served in
    let x = machine (device_at l.device) l.host l.lists l.queues l.memory in
    record { memory_after = serve-stop _ streams l.index x t.result _ _ _ _ c.loop-index-test.true t.ensures.memory_after l.invariant.3 l.invariant.4 c.if-served.true ∙ l.invariant.5; device_after = t.ensures.device_after }

pub loop-index-preserved : goal.loop-index-preserved
loop-index-preserved c =
    let l = c.loop-index in
    let t = c.turn_at-served in
    let device = t.new.device in
    let x = machine (device_at l.device) l.host l.lists l.queues l.memory in
    let k = serve-step _ streams l.index x t.result device t.new.lists t.new.queues t.new.memory c.loop-index-test.true t.ensures.memory_after l.invariant.3 l.invariant.4 c.if-served.false in (
      t.auto.device ∙ l.invariant.0,
      t.ensures.device_after,
      needs-again _ l.index (turns_of false x) (turns_answer t.result device t.new.lists t.new.queues t.new.memory) (omega arith) l.invariant.2 t.ensures.memory_after t.auto.lists t.auto.queues,
      k.0,
      k.1,
      sym k.2 ∙ l.invariant.5,
    )

pub returns : goal.returns
unfolding serve_of
returns c =
    let l = c.loop-index in
    record { memory_after = sym (each-end goes_on _ streams l.index l.invariant.3 _ l.invariant.4 c.loop-index-test.false) ∙ l.invariant.5; device_after = l.invariant.1 }
