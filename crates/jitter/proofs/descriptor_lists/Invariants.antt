-- `descriptor_lists` meets its contract. The invariant: the windows from `index` on make of it what all of them make of it as it was. Assumes nothing.
use Prim.Native.Nat.{ℕ, ◌+◌, ◌-◌}
use mathlib.Core.Path.{◌≡◌, refl, sym, ap, ◌∙◌}
use lib.ListN.{length}
use Rattle.word.specs.Each.{always, each_of}
use Rattle.word.proofs.Each.{each_step, each-end}
use Rattle.stream.specs.Box.{streams}
use Rattle.counts.specs.Counts.{list_at, list_window}
use Rattle.jitter.specs.Steps.{window_of, windows_of}
use borrow.Author.Rules.{rules}
use Rattle.jitter.proofs.descriptor_lists.Given as goal

abbrev pub invariant-loop-index : goal.invariant-loop-index
invariant-loop-index l =
    (n : ℕ) × (l.index + n ≡ streams)
    × (each_of always (λ (i : ℕ). window_of l.memory (list_at l.regs i) list_window) n l.index l.into ≡ windows_of (list_at l.regs) (λ (i : ℕ). list_window) l.memory l.initial.into)
