-- A line loses nothing: its digits are all that a 16-bit word and a rate below 100,000 have.
-- Assumes nothing.
use mathlib.Core.Path.{◌≡◌, refl}
use mathlib.Core.List.{[], ◌∷◌}
use Prim.Native.Nat.{ℕ, ◌+◌, ◌*◌, ◌/◌, ◌%◌, ◌^◌, ◌<◌}
use native.Mathlib.Nat.{mod-eq_of_lt, div-div-eq-div-mul}
use native.Mathlib.Omega.{arith}
use Rattle.formats.specs.Line.{digit_of, line_of}

pub word-digits : (word : ℕ) → word < 2 ^ 16 → word ≡ word / 4096 % 16 * 4096 + word / 256 % 16 * 256 + word / 16 % 16 * 16 + word % 16
word-digits word h =
    let top : word / 4096 < 16 = omega arith in
    omega (arith, mod-eq_of_lt top, div-div-eq-div-mul word 16 16, div-div-eq-div-mul word 256 16)

pub rate-digits : (rate : ℕ) → rate < 100_000 →
    rate ≡ rate / 10000 % 10 * 10000 + rate / 1000 % 10 * 1000 + rate / 100 % 10 * 100 + rate / 10 % 10 * 10 + rate % 10
rate-digits rate h =
    let top : rate / 10000 < 10 = omega arith in
    omega (arith, mod-eq_of_lt top, div-div-eq-div-mul rate 10 10, div-div-eq-div-mul rate 100 10, div-div-eq-div-mul rate 1000 10)

-- "1b11 48000" and a line end
pub worked : line_of 0x1b11 48_000 ≡ 49 ∷ 98 ∷ 49 ∷ 49 ∷ 32 ∷ 52 ∷ 56 ∷ 48 ∷ 48 ∷ 48 ∷ 10 ∷ []
unfolding digit_of line_of
worked = refl
