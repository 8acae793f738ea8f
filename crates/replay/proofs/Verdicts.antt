-- Laws of the verdict on a line: equal texts, and each verdict from what the calls on the way gave. Assumes nothing.
use Rattle.std.proofs.Common.{◌≡◌, ℕ, ◌-◌, ◌*◌, ◌/◌, ◌%◌, ◌<◌, ◌≤◌, Bool, true, false, cond, eqb, List, [], ◌∷◌, ◌++◌, length, get_or, take, drop, sym, refl, ap, ◌∙◌, arith, length-drop, length-take-le, take_all, eq-eqb, ne_eqb, eqb-true, le-leb}
use lib.Pointwise.{pointwise}
use mathlib.Core.Bool.{false≢true, and-eq-true_iff}
use borrow.Author.Tests.{lt-leb}
use Rattle.replay.specs.declared.verdict.Verdict.{Verdict}
use Rattle.replay.specs.declared.verdict.Verdict.TheVariants.{Same, Differs, Unreadable}
use Rattle.replay.specs.Hex.{from_hex, to_hex}
use Rattle.replay.specs.Answers.{Answered, answered, answer_of}
use Rattle.replay.specs.Verdict.{equal, own_of, verdict_of, readable, line_verdict_of, own_in}

-- `equal` tells whether two texts are the same
pub equal-self : (l : List ℕ) → equal l l ≡ true
equal-self [] = refl
equal-self (x ∷ l) = rw (eq-eqb x x refl) (equal-self l)

pub equal-true : (k l : List ℕ) → equal k l ≡ true → k ≡ l
equal-true [] [] e = refl
equal-true [] (y ∷ l) e = absurd (false≢true e)
equal-true (x ∷ k) [] e = absurd (false≢true e)
equal-true (x ∷ k) (y ∷ l) e =
    let both = (and-eq-true_iff (eqb x y) (equal k l)).0 e in
    rw (eqb-true x y both.0, equal-true k l both.1)

-- so does `==` of slices
pub equal_pointwise : (k l : List ℕ) → pointwise eqb k l ≡ equal k l
equal_pointwise [] [] = refl
equal_pointwise [] (y ∷ l) = refl
equal_pointwise (x ∷ k) [] = refl
equal_pointwise (x ∷ k) (y ∷ l) = rw (equal_pointwise k l)

-- the verdict on a record, from what decoding, answering and encoding give
module _ (letter : ℕ) (text bytes own : List ℕ) (known : Bool) (after : List ℕ)
    (decoded : bytes ≡ from_hex text) (answer : answered known after ≡ answer_of letter bytes) (encoded : own ≡ to_hex after) where
  answer-is : answered known after ≡ answer_of letter (from_hex text)
  answer-is = answer ∙ ap (answer_of letter) decoded

  pub own_is : own ≡ own_of letter text
  unfolding own_of
  own_is = encoded ∙ ap (λ (a : Answered). to_hex a.bytes) answer-is

  known_is : known ≡ (answer_of letter (from_hex text)).known
  known_is = ap (λ (a : Answered). a.known) answer-is

  pub verdict-unreadable : known ≡ false → Unreadable ≡ verdict_of letter text
  unfolding verdict_of
  verdict-unreadable e = rw (← known_is, e)

  pub verdict-known : (same : Bool) → known ≡ true → same ≡ equal text own → cond same Same Differs ≡ verdict_of letter text
  unfolding verdict_of
  verdict-known same e f = rw (← known_is, e, ← own_is, ← f)

-- what a line's length says
module _ (line : List ℕ) where
  even-unreadable : length line % 2 ≡ 0 → readable line ≡ false
  even-unreadable e = rw (ne_eqb (length line % 2) 1 (λ f. omega arith))

  module _ (odd : length line % 2 ≡ 0 → ⊥) where
    odd-eqb : eqb (length line % 2) 1 ≡ true
    odd-eqb = eq-eqb (length line % 2) 1 (omega arith)

    long-unreadable : 4096 < length line → readable line ≡ false
    long-unreadable h = rw (odd-eqb, lt-leb (length line) 4096 h)

    odd-readable : length line ≤ 4096 → readable line ≡ true
    odd-readable h = rw (odd-eqb, le-leb (length line) 4096 h)

-- the verdict on a line, and what is left in the room beside it
module _ (line room : List ℕ) where
  unread : readable line ≡ false → (Unreadable ≡ line_verdict_of line) × (room ≡ own_in line room)
  unfolding line_verdict_of own_in
  unread e = (rw e, rw e)

  pub line-even : length line % 2 ≡ 0 → (Unreadable ≡ line_verdict_of line) × (room ≡ own_in line room)
  line-even e = unread (even-unreadable line e)

  pub line-long : (length line % 2 ≡ 0 → ⊥) → 4096 < length line → (Unreadable ≡ line_verdict_of line) × (room ≡ own_in line room)
  line-long odd h = unread (long-unreadable line odd h)

  pub line-record : (length line % 2 ≡ 0 → ⊥) → length line ≤ 4096 → (v : Verdict) (own : List ℕ) →
      v ≡ verdict_of (get_or line 0 0) (take (length line - 1) (drop 1 line)) → own ≡ own_of (get_or line 0 0) (take (length line - 1) (drop 1 line)) →
      (v ≡ line_verdict_of line) × (own ++ drop (length line - 1) room ≡ own_in line room)
  unfolding line_verdict_of own_in
  line-record odd h v own e f =
      let all : take (length line - 1) (drop 1 line) ≡ drop 1 line = take_all (length line - 1) (drop 1 line) (omega (arith, length-drop 1 line)) in
      let read = odd-readable line odd h in
      (e ∙ rw (read, all), rw (f, read, all))

-- the parts that a line's digits, their bytes and the proved code's digits take up
pub prefix-length : (n : ℕ) (l : List ℕ) → n ≤ length l → n ≡ length (take n l)
prefix-length n l h = sym (length-take-le n l h)

pub parts-fit : (line bytes own : List ℕ) → (length line % 2 ≡ 0 → ⊥) → length line ≤ 4096 → 4096 ≤ length bytes → 4096 ≤ length own →
    (length (take (length line - 1) (drop 1 line)) ≡ 2 * length (take ((length line - 1) / 2) bytes))
    × (length (take (length line - 1) own) ≡ length (take (length line - 1) (drop 1 line)))
parts-fit line bytes own odd h k m =
    let text = length-take-le (length line - 1) (drop 1 line) (omega (arith, length-drop 1 line)) in
    let half = length-take-le ((length line - 1) / 2) bytes (omega arith) in
    let all = length-take-le (length line - 1) own (omega arith) in
    (omega (arith, text, half), omega (arith, text, all))
