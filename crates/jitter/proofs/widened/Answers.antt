-- `widened` meets its contract: each call of a closure compares the numbers of one stream.
use Prim.Native.Nat.{ℕ, ◌+◌}
use mathlib.Core.Path.{◌≡◌, ap, ◌∙◌}
use mathlib.Core.List.{List}
use native.Mathlib.Omega.{arith}
use borrow.Author.Rules.{rules}
use Rattle.std.specs.Prelude.{min, max}
use lib.ListN.{get_or}
use Rattle.stream.specs.Box.{streams}
use Rattle.record.proofs.Rows.{made_row}
use Rattle.record.proofs.Places.{row_at}
use Rattle.jitter.proofs.widened.Goals as goal

pub returns : goal.returns
returns c =
    let a = c.args.spread in
    let found = c.args.found in
    let least = λ (k : ℕ). min (get_or a.lowest k 0) (get_or found k 0) in
    let greatest = λ (k : ℕ). max (get_or a.highest k 0) (get_or found k 0) in
    let low = made_row _ least _ (λ i y q called. search rules) c.from_fn.result streams c.from_fn.ensures.items in
    let high = made_row _ greatest _ (λ i y q called. search rules) c.from_fn-2.result streams c.from_fn-2.ensures.items in record {
      lowest = λ i few. let place : 0 + i ≡ i = omega arith in ap (λ (l : List ℕ). get_or l i 0) low ∙ row_at 0 least streams 0 i few ∙ ap least place;
      highest = λ i few. let place : 0 + i ≡ i = omega arith in ap (λ (l : List ℕ). get_or l i 0) high ∙ row_at 0 greatest streams 0 i few ∙ ap greatest place;
    }
