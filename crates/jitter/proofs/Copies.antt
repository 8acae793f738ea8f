-- What a copy of a window comes to. Assumes nothing.
use Prim.Native.Nat.{ℕ, ◌+◌, ◌-◌, ◌≤◌, ◌<◌, min}
use mathlib.Core.Path.{◌≡◌, sym, ap, ◌∙◌}
use mathlib.Core.List.{List, ◌++◌}
use native.Mathlib.Omega.{arith}
use lib.ListN.{length, take, drop}
use Rattle.word.proofs.Lists.{length_part, part_count, copied-whole}
use Rattle.word.proofs.Puts.{put_same, put-lent}
use Rattle.jitter.specs.Steps.{window_of}

module _ (m l : List ℕ) (at n : ℕ) (same : length l ≡ length m) where
  pub window-none : length m ≤ at → l ≡ window_of m at n l
  unfolding window_of
  window-none past =
      let ea : min at (length m) ≡ length m = omega arith in
      let ek : min n (length m - length m) ≡ 0 = omega arith in
      rw (ea, ek) (sym (put_same 0 (length m) l (omega arith)))

  pub window-some : at < length m → (k : ℕ) → k ≡ min n (length m - at) → (p : List ℕ)
      → p ≡ take (length (take (at + k - at) (drop at m))) (take (at + k - at) (drop at m)) ++ drop (length (take (at + k - at) (drop at m))) (take (at + k - at) (drop at l))
      → take at l ++ (p ++ drop (at + k - at) (drop at l)) ≡ window_of m at n l
  unfolding window_of
  window-some inside k ek p e =
      let count : at + k - at ≡ k = omega arith in
      let sized = length_part k at m (omega arith) in
      let short : length (take (at + k - at) (drop at l)) ≤ length (take (at + k - at) (drop at m)) = omega (arith, ap length (part_count k at m), ap length (part_count k at l), sized, length_part k at l (omega arith)) in
      let is : p ≡ take k (drop at m) = copied-whole (take (at + k - at) (drop at m)) (take (at + k - at) (drop at l)) p short e ∙ part_count k at m in
      let ea : min at (length m) ≡ at = omega arith in
      rw (is, count, ea, ← ek) (put-lent at k (take k (drop at m)) l sized)
