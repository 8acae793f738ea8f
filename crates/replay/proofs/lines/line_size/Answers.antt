-- `line_size` meets its contract: `position` gives the first index at which the byte is a line end. Assumes nothing.
use Rattle.std.proofs.Common.{◌≡◌, ℕ, ◌≤◌, Bool, true, false, cond, ltb, length, Some, None, eqb, refl, arith, rules, tests, ltb-false}
use Rattle.std.specs.List.{position_or_len}
use Rattle.std.specs.declared.option.Option.{Option}
use Rattle.std.specs.Option.{unwrap_or}
use Rattle.std.proofs.lemmas.List.Sums.{prefix_len-le-length}
use Rattle.std.proofs.lemmas.Iterator.{YieldsList-from_slice}
use Rattle.std.proofs.lemmas.Iterator.Search.{position_from_yields_List}
use Rattle.replay.proofs.lines.line_size.Goals as goal

size-by : (t : Bool) (size whole : ℕ) → ltb size whole ≡ t → size ≤ whole → unwrap_or (cond t (Some size) None) whole ≡ size
size-by true size whole e h = refl
size-by false size whole e h = omega (arith, ltb-false size whole e)

size-told : (size whole r : ℕ) (o : Option ℕ) → r ≡ unwrap_or o whole → o ≡ cond (ltb size whole) (Some size) None → size ≤ whole → r ≡ size
size-told size whole r o e f h = rw (e, f) (size-by (ltb size whole) size whole refl h)

pub returns-clause-value : goal.returns-clause-value
returns-clause-value c =
    let bytes = c.args.bytes.now in
    let size = position_or_len (λ b. eqb b 10) bytes in
    let found : c.position.result ≡ cond (ltb size (length bytes)) (Some size) None =
    position_from_yields_List _ _ _ _ c.position.ensures.ran (YieldsList-from_slice bytes (cc)) (λ x b q k. search (rules, tests)) in
    size-told _ _ _ _ c.unwrap_or.ensures found (prefix_len-le-length _ bytes)
