-- Laws of a byte's write to the configuration, and of the loop that writes bytes. Assumes nothing.
use Prim.Native.Nat.{ℕ, ◌+◌, ◌<◌, ◌≤◌}
use mathlib.Core.Path.{◌≡◌, refl, ◌∙◌}
use mathlib.Core.Bool.{true}
use mathlib.Core.List.{List, [], ◌∷◌}
use native.Mathlib.Omega.{arith}
use native.Mathlib.Numerals.{add-one}
use lib.Bits.{bit_and, bit_or, and_le_r, or_lt}
use lib.Dec.{eqb}
use lib.ListN.{length, drop, get_or, set, drop_of_length-le}
use lib.Seq.{drop-cons}
use borrow.Author.Tests.{eqb-true}
use Rattle.word.proofs.Choices.{by-either, by_first}
use Rattle.registers.specs.Reads.{within}
use Rattle.registers.proofs.Tests.{within-true}
use Rattle.configuration.specs.Configuration.{replaced, write_byte_of, write_of}

-- Bytes that can be written stand past the identity, and in the configuration.

abbrev Inside : ℕ → Type 0
Inside a = (4 ≤ a) × (a < 256)

inside-within : (a from to : ℕ) → 4 ≤ from → to ≤ 256 → within from to a ≡ true → Inside a
inside-within a from to low high h = let t = within-true from to a h in (omega arith, omega arith)

inside_one : (a at : ℕ) → Inside at → eqb a at ≡ true → Inside a
inside_one a at i h = let e = eqb-true a at h in (omega arith, omega arith)

inside-replaced : (a : ℕ) → replaced a ≡ true → Inside a
inside-replaced a =
    by-either _ _ (by-either _ _ (inside-within a _ _ (omega arith) (omega arith)) (inside_one a _ (omega arith, omega arith)))
    (inside-within a _ _ (omega arith) (omega arith))

-- what holds of the configuration, and of each with such a byte changed, holds after a byte's write
pub byte-by : (P : List ℕ → Type 0) (config : List ℕ) (a b : ℕ) → P config → ((v : ℕ) → 4 ≤ a → a < 256 → (b < 256 → v < 256) → P (set config a v))
    → P (write_byte_of config a b)
unfolding write_byte_of
byte-by P config a b same changed =
    let change : (v : ℕ) → (b < 256 → v < 256) → Inside a → P (set config a v) = λ v k i. changed v i.0 i.1 k in
    let one : (at v : ℕ) → Inside at → (b < 256 → v < 256) → eqb a at ≡ true → P (set config a v) = λ at v i k h. change v k (inside_one a at i h) in
    by_first P (replaced a) (λ h. change b (λ k. k) (inside-replaced a h))
    (by_first P (eqb a 0x04) (one 0x04 (bit_and b 6) (omega arith, omega arith) (λ k. omega (arith, and_le_r b 6)))
    (by_first P (eqb a 0x05) (one 0x05 (bit_and b 4) (omega arith, omega arith) (λ k. omega (arith, and_le_r b 4)))
    (by_first P (eqb a 0x62)
    (one 0x62 (bit_or 0x80 (bit_and b 1)) (omega arith, omega arith) (λ k. or_lt 8 0x80 (bit_and b 1) (omega arith) (omega (arith, and_le_r b 1)))) same)))

-- no byte past the configuration is written
pub write-past : (config : List ℕ) (a : ℕ) (bs : List ℕ) → 256 ≤ a → write_of config a bs ≡ config
unfolding write_of
write-past config a [] h = refl
write-past config a (b ∷ bs) h =
    write-past (write_byte_of config a b) (a + 1) bs (omega arith) ∙ byte-by (λ l. l ≡ config) config a b refl (λ v low high k. absurd (omega arith))

module _ (config : List ℕ) (a : ℕ) (bs : List ℕ) (i : ℕ) where
  pub write-turn : i < length bs → write_of config a (drop i bs) ≡ write_of (write_byte_of config a (get_or bs i 0)) (a + 1) (drop (i + 1) bs)
  unfolding write_of
  write-turn h = rw (drop-cons bs i 0, add-one i)

  pub write-end : length bs ≤ i → write_of config a (drop i bs) ≡ config
  unfolding write_of
  write-end h = rw drop_of_length-le
