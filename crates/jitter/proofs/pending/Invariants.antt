-- `pending` meets its contract. The invariant: the windows from `index` on make of it what all of them make of it as it was. Assumes nothing.
use Prim.Native.Nat.{ℕ, ◌+◌, ◌-◌, ◌*◌}
use mathlib.Core.Path.{◌≡◌, refl, sym, ap, ◌∙◌}
use native.Mathlib.Omega.{arith}
use lib.ListN.{length}
use Rattle.word.specs.Each.{always, each_of}
use Rattle.word.proofs.Each.{each_step, each-end}
use Rattle.stream.specs.declared.Stream.{Stream}
use Rattle.stream.specs.Streams.{list_size}
use Rattle.stream.specs.Box.{streams}
use Rattle.device.specs.Devices.{stream_at}
use Rattle.record.specs.Loads.{device_at}
use Rattle.record.proofs.Theorems.{stream-loaded}
use Rattle.jitter.specs.Steps.{window_of, windows_of, pending_of}
use borrow.Author.Rules.{rules}
use Rattle.jitter.proofs.pending.Given as goal

abbrev pub invariant-loop-index : goal.invariant-loop-index
invariant-loop-index l =
    (n : ℕ) × (l.index + n ≡ streams)
    × (each_of always (λ (i : ℕ). window_of l.lists (list_size * i) (8 * (stream_at (device_at l.device) i).pending)) n l.index l.into ≡ windows_of (λ (i : ℕ). list_size * i) (λ (i : ℕ). 8 * (stream_at (device_at l.device) i).pending) l.lists l.initial.into)
