-- What the definitions come to: bytes written as digits and read again are the same bytes, a line with the answer that the leaf gives is judged the same,
-- a letter in lower case asks for what its capital does, bytes fall into lines as they were written, and where none is counted as different each line is
-- judged the same. Assumes nothing.
use Rattle.std.proofs.Common.{◌≡◌, ℕ, zero, suc, ◌+◌, ◌/◌, ◌%◌, ◌^◌, ◌<◌, ◌≤◌, Bool, true, false, cond, eqb, ltb, ◌≢◌, List, [], ◌∷◌, ◌++◌, length, get_or, sym, refl, ap, ◌∙◌, arith, ltb-false, ltb-true, le-ltb, lt-ltb, ne_eqb, le-leb}
use borrow.Author.Tests.{lt-leb}
use Rattle.word.specs.Value.{Bytes}
use Rattle.replay.specs.declared.verdict.Verdict.{Verdict}
use Rattle.replay.specs.declared.verdict.Verdict.TheVariants.{Same, Differs, Unreadable}
use Rattle.replay.specs.declared.verdict.Tally.{Tally}
use Rattle.replay.specs.Hex.{hex_digit_ascii, value_of, pair_of, from_hex, to_hex}
use Rattle.replay.specs.Answers.{answered, leaf_answer, leaf_of, answer_of}
use Rattle.replay.specs.Verdict.{own_of, verdict_of, line_verdict_of, counted_of, line_counted}
use Rattle.replay.specs.Lines.{longer, lines_of, count_all, tally_of}
use Rattle.replay.proofs.Digits.{value-decimal, value-letter}
use Rattle.replay.proofs.Verdicts.{equal-self}

-- a digit stands for the number that it was made of
digit_low : (d : ℕ) → d < 10 → value_of (hex_digit_ascii d) ≡ d
digit_low d h = rw (lt-ltb d 10 h) (sym (value-decimal (48 + d) (omega arith) (omega arith)) ∙ omega arith)

digit-high : (d : ℕ) → 10 ≤ d → d < 16 → value_of (hex_digit_ascii d) ≡ d
digit-high d h g = rw (le-ltb d 10 h) (sym (value-letter (87 + d) (omega arith) (omega arith)) ∙ omega arith)

digit-by : (t : Bool) (d : ℕ) → ltb d 10 ≡ t → d < 16 → value_of (hex_digit_ascii d) ≡ d
digit-by true d e g = digit_low d (ltb-true d 10 e)
digit-by false d e g = digit-high d (ltb-false d 10 e) g

digit : (d : ℕ) → d < 16 → value_of (hex_digit_ascii d) ≡ d
digit d = digit-by (ltb d 10) d refl

pub decode-encode : (b : List ℕ) → Bytes b → from_hex (to_hex b) ≡ b
unfolding from_hex to_hex
decode-encode [] h = refl
decode-encode (x ∷ b) h =
    let high : value_of (hex_digit_ascii (x / 16)) ≡ x / 16 = digit (x / 16) (omega (arith, h 0)) in
    let low : value_of (hex_digit_ascii (x % 16)) ≡ x % 16 = digit (x % 16) (omega arith) in
    let same : pair_of (hex_digit_ascii (x / 16)) (hex_digit_ascii (x % 16)) ≡ x = omega (arith, high, low) in
    rw (same, decode-encode b (λ i. h (suc i)))

-- the digits of a record whose answer is the leaf's own
pub right-is-same : (letter : ℕ) (b : List ℕ) → Bytes b → answer_of letter b ≡ answered true b → verdict_of letter (to_hex b) ≡ Same
unfolding verdict_of own_of
right-is-same letter b h e = rw (decode-encode b h, e, equal-self (to_hex b))

-- a letter in lower case: which Rust answered is all that it says beside its capital
module _ (capital : ℕ) (least : 65 ≤ capital) (most : capital ≤ 90) where
  capital-leaf : leaf_of capital ≡ capital
  capital-leaf = rw (lt-leb 97 capital (omega arith))

  lower-leaf : leaf_of (capital + 32) ≡ capital
  lower-leaf = rw (le-leb 97 (capital + 32) (omega arith), le-leb (capital + 32) 122 (omega arith)) (omega arith)

  pub lower-same : (b : List ℕ) → answer_of (capital + 32) b ≡ answer_of capital b
  unfolding answer_of
  lower-same b = ap (λ (leaf : ℕ). leaf_answer leaf b) (lower-leaf ∙ sym capital-leaf)

-- a line that has no line end in it
abbrev Endless : List ℕ → Type 0
Endless line = (i : ℕ) → i < length line → get_or line i 0 ≢ 10

pub line_first : (line rest : List ℕ) → Endless line → lines_of (line ++ (10 ∷ rest)) ≡ line ∷ lines_of rest
unfolding lines_of
line_first [] rest h = refl
line_first (b ∷ line) rest h = rw (ne_eqb b 10 (h 0 (omega arith)), line_first line rest (λ i k. h (suc i) (omega arith)))

pub line-last : (b : ℕ) (line : List ℕ) → Endless (b ∷ line) → lines_of (b ∷ line) ≡ (b ∷ line) ∷ []
unfolding lines_of
line-last b [] h = rw (ne_eqb b 10 (h 0 (omega arith)))
line-last b (x ∷ line) h = rw (ne_eqb b 10 (h 0 (omega arith))) (ap (longer b) (line-last x line (λ i k. h (suc i) (omega arith))))

-- a count of 64 bits does not wrap, since each line has a byte of its own
longer-length : (b : ℕ) (lines : List (List ℕ)) → length (longer b lines) ≤ suc (length lines)
longer-length b [] = omega arith
longer-length b (line ∷ lines) = omega arith

parted-length : (t : Bool) (b : ℕ) (lines : List (List ℕ)) → length (cond t ([] ∷ lines) (longer b lines)) ≤ suc (length lines)
parted-length true b lines = omega arith
parted-length false b lines = longer-length b lines

lines-length : (bytes : List ℕ) → length (lines_of bytes) ≤ length bytes
unfolding lines_of
lines-length [] = omega arith
lines-length (b ∷ bytes) = omega (arith, parted-length (eqb b 10) b (lines_of bytes), lines-length bytes)

module _ (t : Tally) (few : t.differ + 1 < 2 ^ 64) where
  counted-more : (v : Verdict) → (t.differ ≤ (counted_of t v).differ) × ((counted_of t v).differ ≤ t.differ + 1)
  counted-more Same = omega arith
  counted-more Differs = omega arith
  counted-more Unreadable = omega arith

  counted_same : (v : Verdict) → (counted_of t v).differ ≡ t.differ → v ≡ Same
  counted_same Same e = refl
  counted_same Differs e = absurd (omega arith)
  counted_same Unreadable e = absurd (omega arith)

count-more : (lines : List (List ℕ)) (t : Tally) → t.differ + length lines < 2 ^ 64 → t.differ ≤ (count_all t lines).differ
unfolding count_all
count-more [] t h = omega arith
count-more (line ∷ lines) t h =
    let more = counted-more t (omega arith) (line_verdict_of line) in
    omega (arith, count-more lines (line_counted t line) (omega arith))

each_same : (lines : List (List ℕ)) (t : Tally) → t.differ + length lines < 2 ^ 64 → (count_all t lines).differ ≡ t.differ →
    (i : ℕ) → i < length lines → line_verdict_of (get_or lines i []) ≡ Same
unfolding count_all
each_same [] t h e i k = absurd (omega arith)
each_same (line ∷ lines) t h e zero k =
    let more = counted-more t (omega arith) (line_verdict_of line) in
    counted_same t (omega arith) (line_verdict_of line) (omega (arith, count-more lines (line_counted t line) (omega arith)))
each_same (line ∷ lines) t h e (suc i) k =
    let more = counted-more t (omega arith) (line_verdict_of line) in
    let rest = count-more lines (line_counted t line) (omega arith) in
    each_same lines (line_counted t line) (omega arith) (omega arith) i (omega arith)

pub none-differs : (bytes : List ℕ) → length bytes < 2 ^ 64 → (tally_of bytes).differ ≡ 0 →
    (i : ℕ) → i < length (lines_of bytes) → line_verdict_of (get_or (lines_of bytes) i []) ≡ Same
none-differs bytes h e = each_same (lines_of bytes) _ (omega (arith, lines-length bytes)) e
