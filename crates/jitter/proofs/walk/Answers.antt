-- `walk` meets its contract. The invariant: up to `last`, the numbers are the answer. Assumes nothing.
use Prim.Native.Nat.{◌-◌, ◌≤◌}
use mathlib.Core.Path.{◌≡◌, refl}
use native.Mathlib.Omega.{arith}
use borrow.Author.Rules.{rules}
use Rattle.word.specs.Value.{Bytes}
use Rattle.host.proofs.Held.{queues-held}
use Rattle.device.specs.Machines.{machine}
use Rattle.record.specs.Loads.{device_at}
use Rattle.jitter.specs.Steps.{CaseNeeds, SpreadOf}
use Rattle.jitter.proofs.Cases.{needs-kept, spread-first, spread-next}
use Rattle.jitter.proofs.walk.Goals as goal

pub loop-last-init : goal.loop-last-init
loop-last-init c =
    let a = c.args in
    let k = c.case-first in
    let l = c.last_same-last in
    let bytes : Bytes a.device.now = λ i. (c.type_inv.device i).fits in
    let hosted = queues-held a.host _ c.well_formed.1.0 in (
      needs-kept (machine (device_at a.device.now) a.host a.lists.now a.queues.now a.memory.now) a.device.now a.lists2.now a.queues2.now a.memory2.now _ _ _ c.requires.case_needs k.auto.lists2 k.auto.queues2 k.auto.memory2,
      l.ensures.low,
      l.ensures.high,
      spread-first a.device.now a.lists.now a.queues.now a.memory.now a.host bytes hosted a.lists2.now a.queues2.now a.memory2.now c.requires.case_needs a.shortest a.longest
          l.result _ k.result l.ensures k.ensures refl refl,
    )

pub loop-last-preserved : goal.loop-last-preserved
loop-last-preserved c =
    let a = c.args in
    let k = c.case-found in
    let l = c.last_same-end in
    let o = c.loop-last in
    let bytes : Bytes a.device.now = λ i. (c.type_inv.device i).fits in
    let hosted = queues-held a.host _ c.well_formed.1.0 in (
      needs-kept (machine (device_at a.device.now) a.host a.lists.now a.queues.now a.memory.now) a.device.now o.lists2 o.queues2 o.memory2 _ _ _ o.invariant.0 k.auto.lists2 k.auto.queues2 k.auto.memory2,
      omega (arith, l.ensures.low, o.invariant.1),
      l.ensures.high,
      spread-next a.device.now a.lists.now a.queues.now a.memory.now a.host bytes hosted o.lists2 o.queues2 o.memory2 o.invariant.0 a.shortest a.longest o.last l.result o.spread
          c.widened-spread.result k.result o.invariant.1 o.invariant.3 l.ensures k.ensures c.widened-spread.ensures,
    )

pub returns : goal.returns
returns c =
    let o = c.loop-last in
    let over : o.last ≡ c.args.longest = omega (arith, o.invariant.2) in
    rw (← over) o.invariant.3
