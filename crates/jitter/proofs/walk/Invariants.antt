-- `walk` meets its contract. The invariant: up to `last`, the numbers are the answer. Assumes nothing.
use Prim.Native.Nat.{◌-◌, ◌≤◌}
use mathlib.Core.Path.{◌≡◌, refl}
use native.Mathlib.Omega.{arith}
use borrow.Author.Rules.{rules}
use Rattle.word.specs.Value.{Bytes}
use Rattle.host.proofs.Held.{queues-held}
use Rattle.device.specs.Machines.{machine}
use Rattle.record.specs.Loads.{device_at}
use Rattle.jitter.specs.Steps.{CaseNeeds, SpreadOf}
use Rattle.jitter.proofs.Cases.{needs-kept, spread-first, spread-next}
use Rattle.jitter.proofs.walk.Given as goal

abbrev pub invariant-loop-last : goal.invariant-loop-last
invariant-loop-last l =
    CaseNeeds (machine (device_at l.device) l.host l.lists l.queues l.memory) l.device l.lists2 l.queues2 l.memory2 × (l.shortest ≤ l.last) × (l.last ≤ l.longest)
    × SpreadOf l.spread (machine (device_at l.device) l.host l.lists l.queues l.memory) l.shortest l.last

abbrev pub decreases-loop-last : goal.decreases-loop-last
decreases-loop-last l =
    l.longest - l.last
