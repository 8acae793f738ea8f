-- A number of bytes, read from its highest byte down: the turn of the loop, its start and its end. Assumes nothing.
use Prim.Native.Nat.{ℕ, ◌+◌, ◌*◌, ◌-◌, ◌^◌, ◌<◌, ◌≤◌}
use mathlib.Core.Path.{◌≡◌, ap, ◌∙◌}
use mathlib.Core.List.{List}
use native.Mathlib.Omega.{arith}
use native.Mathlib.Nat.{pow-le-pow_right}
use lib.ListN.{length, get_or}
use Rattle.word.specs.Value.{Bytes}
use Rattle.word.specs.Place.{word_at}
use Rattle.word.proofs.Place.{word-join, word_byte, word_bound}

-- of the bytes from `i` on, all but the first `i` of `n`
module _ (s : List ℕ) (at n : ℕ) where
  pub none : 0 ≡ word_at (n - n) (at + n) s
  unfolding word_at
  none = let e : n - n ≡ 0 = omega arith in rw e

  pub all : (i v : ℕ) → i ≤ 0 → v ≡ word_at (n - i) (at + i) s → v ≡ word_at n at s
  all i v h e =
      let width : n - i ≡ n = omega arith in
      let place : at + i ≡ at = omega arith in
      e ∙ rw (width, place)

  module _ (i v : ℕ) (more : 0 < i) (within : i ≤ n) (fits : at + n ≤ length s) (e : v ≡ word_at (n - i) (at + i) s) where
    pub one_more : v * 256 + get_or s (at + (i - 1)) 0 ≡ word_at (n - (i - 1)) (at + (i - 1)) s
    one_more =
        let width : n - (i - 1) ≡ 1 + (n - i) = omega arith in
        let place : at + (i - 1) + 1 ≡ at + i = omega arith in
        let split : word_at (n - (i - 1)) (at + (i - 1)) s ≡ word_at 1 (at + (i - 1)) s + 256 * word_at (n - i) (at + i) s
        = ap (λ (k : ℕ). word_at k (at + (i - 1)) s) width
        ∙ word-join 1 (at + (i - 1)) s (omega arith) (n - i)
        ∙ ap (λ (k : ℕ). word_at 1 (at + (i - 1)) s + 256 * word_at (n - i) k s) place in
        omega (arith, split, word_byte (at + (i - 1)) s (omega arith))

    -- fewer than 8 bytes so far: another one fits into 64 bits
    pub room : n ≤ 8 → Bytes s → v < 2 ^ 56
    room small bytes =
        omega (arith, word_bound (n - i) (at + i) s (omega arith) bytes, pow-le-pow_right {n = 256} (omega arith) {i = n - i} {j = 7} (omega arith))
