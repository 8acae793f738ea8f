-- Laws of numbers and their bytes, each over the width. Assumes nothing.
use Prim.Native.Nat.{ℕ, zero, suc, ◌+◌, ◌*◌, ◌/◌, ◌%◌, ◌^◌, ◌<◌}
use mathlib.Core.Path.{◌≡◌, refl, sym, ap, ◌∙◌}
use mathlib.Core.List.{List, [], ◌∷◌, ◌++◌}
use native.Mathlib.Omega.{arith}
use native.Mathlib.Nat.{mod-add-div, div-lt_iff_lt-mul, div-div-eq-div-mul, suc-add, zero-add, pow-suc, pow-succ', mul_assoc}
use lib.Arith.{mod-mul}
use lib.ListN.{length}
use Rattle.word.specs.Value.{value_of, bytes_of, Bytes}

pub length-bytes : (n v : ℕ) → length (bytes_of n v) ≡ n
length-bytes zero v = refl
length-bytes (suc n) v = ap suc (length-bytes n (v / 256))

pub bytes-bound : (n v : ℕ) → Bytes (bytes_of n v)
bytes-bound zero v i = omega arith
bytes-bound (suc n) v zero = omega arith
bytes-bound (suc n) v (suc i) = bytes-bound n (v / 256) i

pub value-bound : (bs : List ℕ) → Bytes bs → value_of bs < 256 ^ length bs
value-bound [] h = omega arith
value-bound (b ∷ bs) h =
    let low : b < 256 = h 0 in
    let high : value_of bs < 256 ^ length bs = value-bound bs (λ i. h (suc i)) in
    rw (pow-suc 256 (length bs)) (omega arith)

-- a number that fits is the value of its bytes
pub value-bytes : (n v : ℕ) → v < 256 ^ n → value_of (bytes_of n v) ≡ v
value-bytes zero v h = omega arith
value-bytes (suc n) v h =
    let h' : v < 256 ^ n * 256 = rw pow-suc at h in
    ap (λ (x : ℕ). v % 256 + 256 * x) (value-bytes n (v / 256) ((div-lt_iff_lt-mul {k = 256} (omega arith)).1 h')) ∙ mod-add-div v 256

-- bytes are those of their value
pub bytes-value : (bs : List ℕ) → Bytes bs → bytes_of (length bs) (value_of bs) ≡ bs
bytes-value [] h = refl
bytes-value (b ∷ bs) h =
    let low : b < 256 = h 0 in
    let first : (b + 256 * value_of bs) % 256 ≡ b = omega arith in
    let rest : (b + 256 * value_of bs) / 256 ≡ value_of bs = omega arith in
    rw (first, rest, bytes-value bs (λ i. h (suc i)))

-- the value of two runs of bytes
pub value-append : (bs cs : List ℕ) → value_of (bs ++ cs) ≡ value_of bs + 256 ^ length bs * value_of cs
value-append [] cs = omega arith
value-append (b ∷ bs) cs =
    let power : 256 ^ suc (length bs) * value_of cs ≡ 256 * (256 ^ length bs * value_of cs) = rw (pow-succ', mul_assoc) in
    omega (arith, value-append bs cs, power)

-- the bytes of a number in two runs
pub bytes-split : (m n v : ℕ) → bytes_of (m + n) v ≡ bytes_of m v ++ bytes_of n (v / 256 ^ m)
bytes-split zero n v =
    let whole : v ≡ v / 1 = omega arith in
    ap (λ (k : ℕ). bytes_of k v) (zero-add n) ∙ ap (bytes_of n) whole
bytes-split (suc m) n v =
    ap (λ (k : ℕ). bytes_of k v) (suc-add m n)
    ∙ ap (λ (bs : List ℕ). v % 256 ∷ bs) (bytes-split m n (v / 256))
    ∙ ap (λ (w : ℕ). v % 256 ∷ (bytes_of m (v / 256) ++ bytes_of n w)) (div-div-eq-div-mul v 256 (256 ^ m) ∙ ap (λ (p : ℕ). v / p) (sym (pow-succ' 256 m)))

power_pos : (n : ℕ) → 0 < 256 ^ n
power_pos zero = omega arith
power_pos (suc n) = let h = power_pos n in rw (pow-suc 256 n) (omega arith)

-- what stands above the lowest `n` bytes does not count
pub bytes_low : (n v : ℕ) → bytes_of n (v % 256 ^ n) ≡ bytes_of n v
bytes_low zero v = refl
bytes_low (suc n) v =
    let cut : v % 256 ^ suc n ≡ (v / 256 % 256 ^ n) * 256 + v % 256 = rw pow-suc (mod-mul v (power_pos n) (omega arith)) in
    let first : v % 256 ^ suc n % 256 ≡ v % 256 = omega arith in
    let rest : v % 256 ^ suc n / 256 ≡ v / 256 % 256 ^ n = omega arith in
    rw (first, rest, bytes_low n (v / 256))
