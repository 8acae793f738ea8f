-- `put_result` meets its contract. The invariant: the rows from `index` on make of the space what all of them make of it as it was. Assumes nothing.
use Prim.Native.Nat.{ℕ, ◌+◌, ◌-◌, ◌*◌}
use mathlib.Core.Path.{◌≡◌, refl, sym, ap, ◌∙◌}
use mathlib.Core.List.{List}
use lib.ListN.{length, get_or}
use Rattle.word.specs.Place.{store_at}
use Rattle.word.specs.Each.{always, each_of}
use Rattle.word.proofs.Each.{each_step, each-end}
use Rattle.stream.specs.Box.{streams}
use Rattle.jitter.specs.declared.Spread.{Spread}
use Rattle.jitter.specs.Calls.{row_size}
use borrow.Author.Rules.{rules}
use Rattle.jitter.proofs.put_result.Given as goal

-- a stream's two counts
abbrev pub row : Spread → ℕ → List ℕ → List ℕ
row r i l = store_at 8 (row_size * i + 8) (get_or r.highest i 0) (store_at 8 (row_size * i) (get_or r.lowest i 0) l)

abbrev pub invariant-loop-index : goal.invariant-loop-index
invariant-loop-index l =
    (n : ℕ) × (l.index + n ≡ streams) × (each_of always (row l.spread) n l.index l.into ≡ each_of always (row l.spread) streams 0 l.initial.into)
