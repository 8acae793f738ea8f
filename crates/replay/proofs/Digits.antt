-- Laws of hexadecimal digits: a character's value by where it lies, and one byte more of a text. Assumes nothing.
use Rattle.std.proofs.Common.{◌≡◌, ℕ, suc, ◌+◌, ◌-◌, ◌*◌, ◌/◌, ◌%◌, ◌<◌, ◌≤◌, List, [], ◌∷◌, ◌++◌, length, get_or, take, drop, set, sym, ap, ◌∙◌, append_assoc, append-nil, add-one, arith, length-set, drop_of_length-le, take_all, drop-cons, le-leb}
use borrow.Author.Tests.{lt-leb}
use Rattle.replay.specs.Hex.{hex_digit_ascii, value_of, pair_of, from_hex, to_hex}
use Rattle.replay.proofs.Stores.{stored}

pub value-decimal : (c : ℕ) → 48 ≤ c → c ≤ 57 → c - 48 ≡ value_of c
value-decimal c h g = simp (le-leb 48 c h, le-leb c 57 g)

pub value-letter : (c : ℕ) → 97 ≤ c → c ≤ 102 → c - 97 + 10 ≡ value_of c
value-letter c h g = simp (le-leb 48 c (omega arith), lt-leb c 57 (omega arith), le-leb 97 c h, le-leb c 102 g)

-- the byte of two characters, in front of what the rest gives
from_next : (text : List ℕ) (i : ℕ) → 2 * i + 1 < length text →
    from_hex (drop (2 * i) text) ≡ pair_of (get_or text (2 * i) 0) (get_or text (2 * i + 1) 0) ∷ from_hex (drop (2 * (i + 1)) text)
unfolding from_hex
from_next text i h =
    let low : 2 * i + 1 ≡ suc (2 * i) = omega arith in
    let next : 2 * (i + 1) ≡ suc (suc (2 * i)) = omega arith in
    rw (low, next, drop-cons text (2 * i) 0 (omega arith), drop-cons text (suc (2 * i)) 0 (omega arith))

-- a loop that decodes: one byte more, and the end
module _ (text bytes : List ℕ) (i : ℕ) (so_far : take i bytes ++ from_hex (drop (2 * i) text) ≡ from_hex text) where
  pub decode-step : (v : ℕ) → v ≡ pair_of (get_or text (2 * i) 0) (get_or text (2 * i + 1) 0) → i < length bytes → 2 * i + 1 < length text →
      take (i + 1) (set bytes i v) ++ from_hex (drop (2 * (i + 1)) text) ≡ from_hex text
  decode-step v e h g =
      ap (λ (l : List ℕ). l ++ from_hex (drop (2 * (i + 1)) text)) (stored bytes i v h)
      ∙ append_assoc (take i bytes) _ _
      ∙ ap (λ (w : ℕ). take i bytes ++ (w ∷ from_hex (drop (2 * (i + 1)) text))) e
      ∙ ap (λ (l : List ℕ). take i bytes ++ l) (sym (from_next text i g))
      ∙ so_far

  pub decode-end : length bytes ≤ i → length text ≤ 2 * i → bytes ≡ from_hex text
  unfolding from_hex
  decode-end h g =
      sym (append-nil bytes)
      ∙ ap (λ (l : List ℕ). l ++ []) (sym (take_all i bytes h))
      ∙ ap (λ (l : List ℕ). take i bytes ++ from_hex l) (sym (drop_of_length-le text g))
      ∙ so_far

-- the digits of a byte, in front of those of the rest
to-next : (bytes : List ℕ) (i : ℕ) → i < length bytes →
    to_hex (drop i bytes) ≡ hex_digit_ascii (get_or bytes i 0 / 16) ∷ hex_digit_ascii (get_or bytes i 0 % 16) ∷ to_hex (drop (i + 1) bytes)
unfolding to_hex
to-next bytes i h = rw (add-one i, drop-cons bytes i 0 h)

-- a loop that encodes: one byte more, and the end
module _ (bytes text : List ℕ) (i : ℕ) (so_far : take (2 * i) text ++ to_hex (drop i bytes) ≡ to_hex bytes) where
  pub encode-step : (high low : ℕ) → high ≡ hex_digit_ascii (get_or bytes i 0 / 16) → low ≡ hex_digit_ascii (get_or bytes i 0 % 16) → i < length bytes → 2 * i + 1 < length text →
      take (2 * (i + 1)) (set (set text (2 * i) high) (2 * i + 1) low) ++ to_hex (drop (i + 1) bytes) ≡ to_hex bytes
  encode-step high low e f h g =
      let rest : List ℕ = to_hex (drop (i + 1) bytes) in
      let next : 2 * (i + 1) ≡ 2 * i + 1 + 1 = omega arith in
      ap (λ (k : ℕ). take k (set (set text (2 * i) high) (2 * i + 1) low) ++ rest) next
      ∙ ap (λ (l : List ℕ). l ++ rest) (stored (set text (2 * i) high) (2 * i + 1) low (simp length-set (omega arith)))
      ∙ ap (λ (l : List ℕ). (l ++ (low ∷ [])) ++ rest) (stored text (2 * i) high (omega arith))
      ∙ append_assoc (take (2 * i) text ++ (high ∷ [])) (low ∷ []) rest
      ∙ append_assoc (take (2 * i) text) (high ∷ []) (low ∷ rest)
      ∙ rw (e, f, ← to-next bytes i h) so_far

  pub encode-end : length bytes ≤ i → length text ≤ 2 * i → text ≡ to_hex bytes
  unfolding to_hex
  encode-end h g =
      sym (append-nil text)
      ∙ ap (λ (l : List ℕ). l ++ []) (sym (take_all (2 * i) text g))
      ∙ ap (λ (l : List ℕ). take (2 * i) text ++ to_hex l) (sym (drop_of_length-le bytes h))
      ∙ so_far
