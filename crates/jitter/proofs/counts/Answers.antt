-- `counts` meets its contract: each call of the closure finds one count.
use Prim.Native.Nat.{ℕ, ◌+◌, ◌*◌}
use mathlib.Core.Path.{◌≡◌, ap, sym, ◌∙◌}
use mathlib.Core.List.{List}
use native.Mathlib.Omega.{arith}
use borrow.Author.Rules.{rules}
use lib.ListN.{get_or}
use Rattle.stream.specs.declared.Stream.{Stream}
use Rattle.stream.specs.Box.{streams}
use Rattle.record.specs.Loads.{stream_at}
use Rattle.record.proofs.Rows.{made_row}
use Rattle.record.proofs.Places.{row_at}
use Rattle.record.proofs.Theorems.{stream-loaded}
use Rattle.jitter.proofs.counts.Goals as goal

pub returns : goal.returns
returns c =
    let d = c.args.device.now in
    let own = λ (k : ℕ). (stream_at (680 + 34 * k) d).submitted in
    let made = made_row _ own _ (λ i y q called. search rules) c.from_fn.result streams c.from_fn.ensures.items in record {
      each = λ i few.
          let place : 0 + i ≡ i = omega arith in
          ap (λ (l : List ℕ). get_or l i 0) made ∙ row_at 0 own streams 0 i few ∙ ap own place ∙ ap (λ (k : Stream). k.submitted) (sym (stream-loaded d i few));
    }
