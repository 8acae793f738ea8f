-- `last_same` meets its contract. The invariant: up to `end`, the streams below `index` have as many frames to move. Assumes nothing.
use Prim.Native.Nat.{ℕ, ◌-◌, ◌≤◌, ◌<◌}
use mathlib.Core.Path.{◌≡◌, refl, sym, ap, ◌∙◌}
use native.Mathlib.Omega.{arith}
use borrow.Author.Rules.{rules}
use Rattle.word.specs.Place.{word_at}
use Rattle.stream.specs.declared.Stream.{Stream}
use Rattle.host.specs.Hosts.{queue_at}
use Rattle.registers.specs.Places.{fmt}
use Rattle.record.specs.Loads.{device_at}
use Rattle.record.proofs.Theorems.{stream-loaded}
use Rattle.counts.specs.Counts.{movable_of}
use Rattle.stream.specs.Box.{streams}
use Rattle.jitter.proofs.Cases.{own-regs, lasting-turn}
use Rattle.jitter.proofs.last_same.Given as goal

abbrev pub invariant-loop-index : goal.invariant-loop-index
invariant-loop-index l =
    (l.nanos ≤ l.end) × (l.end ≤ l.longest) × ((j : ℕ) → j < l.index → movable_of (device_at l.device) l.host j l.nanos ≡ movable_of (device_at l.device) l.host j l.end)
