-- What the laws of masks need of bits, and the library lacks. Assumes nothing.
use Prim.Native.Nat.{ℕ, zero, suc, ◌+◌, ◌-◌, ◌*◌, ◌/◌, ◌%◌, ◌^◌, ◌<◌, min, max}
use mathlib.Core.Path.{◌≡◌, refl, ◌∙◌}
use native.Mathlib.Omega.{arith}
use native.Mathlib.Nat.{pow-suc, mod-eq_of_lt}
use lib.Arith.{bin_ind}
use lib.Pow.{pow_pos}
use lib.Bits.{bit_and, bit_or, and_step, or_step, and_zero_r, and_mask}

half-and : (a b : ℕ) → (bit_and a b / 2 ≡ bit_and (a / 2) (b / 2)) × (bit_and a b % 2 ≡ min (a % 2) (b % 2))
half-and a b = (omega (arith, and_step a b), omega (arith, and_step a b))

half-or : (a b : ℕ) → (bit_or a b / 2 ≡ bit_or (a / 2) (b / 2)) × (bit_or a b % 2 ≡ max (a % 2) (b % 2))
half-or a b = (omega (arith, or_step a b), omega (arith, or_step a b))

pub and_assoc : (a b m : ℕ) → bit_and (bit_and a b) m ≡ bit_and a (bit_and b m)
and_assoc =
    bin_ind (λ (a : ℕ). (b m : ℕ) → bit_and (bit_and a b) m ≡ bit_and a (bit_and b m)) (λ b m. refl)
    (λ a ih b m.
    let l = half-and a b in
    let r = half-and b m in
    let e : bit_and (bit_and a b / 2) (m / 2) ≡ bit_and (a / 2) (bit_and b m / 2) = rw (l.0, r.0) (ih (b / 2) (m / 2)) in
    omega (arith, and_step (bit_and a b) m, and_step a (bit_and b m), l.1, r.1))

pub and-or : (a b m : ℕ) → bit_and (bit_or a b) m ≡ bit_or (bit_and a m) (bit_and b m)
and-or =
    bin_ind (λ (a : ℕ). (b m : ℕ) → bit_and (bit_or a b) m ≡ bit_or (bit_and a m) (bit_and b m)) (λ b m. refl)
    (λ a ih b m.
    let o = half-or a b in
    let l = half-and a m in
    let r = half-and b m in
    let e : bit_and (bit_or a b / 2) (m / 2) ≡ bit_or (bit_and a m / 2) (bit_and b m / 2) = rw (o.0, l.0, r.0) (ih (b / 2) (m / 2)) in
    omega (arith, and_step (bit_or a b) m, or_step (bit_and a m) (bit_and b m), o.1, l.1, r.1))

-- the bits that a mask has and those that it lacks make the number: by its lowest bit, and all
split_step : (a m l n : ℕ) → m % 2 + l % 2 ≡ 1 → n % 2 ≡ 1 → bit_and (a / 2) (m / 2) + bit_and (a / 2) (l / 2) ≡ bit_and (a / 2) (n / 2)
    → bit_and a m + bit_and a l ≡ bit_and a n
split_step a m l n e f rest = omega (arith, and_step a m, and_step a l, and_step a n)

and_split : (k a m : ℕ) → m < 2 ^ k → bit_and a m + bit_and a (2 ^ k - 1 - m) ≡ bit_and a (2 ^ k - 1)
and_split zero a m h = let e : m ≡ 0 = omega arith in rw (e, and_zero_r a)
and_split (suc k) a m h =
    let p : 2 ^ suc k ≡ 2 ^ k * 2 = pow-suc 2 k in
    let s = pow_pos k in
    let e : (2 ^ suc k - 1 - m) / 2 ≡ 2 ^ k - 1 - m / 2 = omega arith in
    let f : (2 ^ suc k - 1) / 2 ≡ 2 ^ k - 1 = omega arith in
    split_step a m _ _ (omega arith) (omega arith) (rw (e, f) (and_split k (a / 2) (m / 2) (omega arith)))

-- a byte keeps the bits that all ones have
pub and-ones : (a : ℕ) → a < 256 → bit_and a 255 ≡ a
and-ones a h = and_mask a 8 ∙ mod-eq_of_lt h

-- a byte that lacks what a mask lacks is what the mask has of it, and one that lacks what a mask has is what it lacks
pub and-within : (a m : ℕ) → a < 256 → m < 256 → bit_and a (255 - m) ≡ 0 → bit_and a m ≡ a
and-within a m h s e = omega (arith, and_split 8 a m s, and-ones a h)

pub and-without : (a m : ℕ) → a < 256 → m < 256 → bit_and a m ≡ 0 → bit_and a (255 - m) ≡ a
and-without a m h s e = omega (arith, and_split 8 a m s, and-ones a h)
