-- `spread_of` meets its contract: what the streams' own parts give is what the whole spaces give. Assumes nothing.
use Prim.Native.Nat.{◌-◌, ◌*◌}
use mathlib.Core.Path.{sym, ◌∙◌, subst}
use native.Mathlib.Omega.{arith}
use lib.ListN.{length, take}
use lib.Seq.{length-take-le}
use Rattle.word.specs.Value.{Bytes}
use Rattle.stream.specs.Streams.{list_size}
use Rattle.stream.specs.Box.{streams}
use Rattle.queue.specs.Queues.{capacity}
use Rattle.host.specs.declared.Host.{Host}
use Rattle.host.proofs.Held.{queues-held}
use Rattle.device.specs.Machines.{Machine, machine}
use Rattle.record.specs.Loads.{device_at}
use Rattle.jitter.specs.Steps.{CaseNeeds, SpreadOf}
use Rattle.jitter.proofs.Outcomes.{needs-long, case-needs, spread-whole}
use borrow.Author.Rules.{rules}
use Rattle.jitter.proofs.spread_of.Goals as goal

pub slice_bounds-walk-end : goal.slice_bounds-walk-end
slice_bounds-walk-end c =
    let a = c.args in
    omega (arith, (needs-long _ a.device.now a.lists2.now a.queues2.now a.memory2.now c.requires.spread_needs).0)

pub slice_bounds-walk-end-2 : goal.slice_bounds-walk-end-2
slice_bounds-walk-end-2 c =
    let a = c.args in
    omega (arith, (needs-long _ a.device.now a.lists2.now a.queues2.now a.memory2.now c.requires.spread_needs).1)

pub walk-requires : goal.walk-requires
walk-requires c =
    let a = c.args in
    let n = c.requires.spread_needs in
    let d = a.device.now in
    let bytes : Bytes d = λ i. (c.type_inv.device i).fits in
    let hosted = queues-held a.host _ c.well_formed.1.0 in
    let cut : Host → Machine = λ k. machine (device_at d) k (take (list_size * streams) a.lists.now) (take (capacity * streams) a.queues.now) a.memory.now in record {
      shortest_le_longest = c.requires.shortest_le_longest;
      case_needs = subst (λ (k : Host). CaseNeeds (cut k) d (take (list_size * streams) a.lists2.now) (take (capacity * streams) a.queues2.now) (take (length a.memory.now - 0) a.memory2.now)) (sym c.switched_off.ensures)
          (case-needs d a.lists.now a.queues.now a.memory.now a.host bytes hosted a.lists2.now a.queues2.now a.memory2.now n _ _ _
          (length-take-le (list_size * streams) a.lists2.now n.lists) (length-take-le (capacity * streams) a.queues2.now n.queues) (length-take-le (length a.memory.now - 0) a.memory2.now (omega (arith, n.memory)) ∙ omega arith));
    }

pub returns : goal.returns
returns c =
    let a = c.args in
    let n = c.requires.spread_needs in
    let d = a.device.now in
    let bytes : Bytes d = λ i. (c.type_inv.device i).fits in
    let hosted = queues-held a.host _ c.well_formed.1.0 in
    let cut : Host → Machine = λ k. machine (device_at d) k (take (list_size * streams) a.lists.now) (take (capacity * streams) a.queues.now) a.memory.now in
    let w = c.walk in
    spread-whole d a.lists.now a.queues.now a.memory.now a.host bytes hosted a.lists2.now a.queues2.now a.memory2.now n w.result a.shortest a.longest
    (subst (λ (k : Host). SpreadOf w.result (cut k) a.shortest a.longest) c.switched_off.ensures w.ensures)
