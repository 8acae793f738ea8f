-- What a copy out of a part of a list, and one into a part, comes to. Assumes nothing.
use Prim.Native.Nat.{ℕ, ◌+◌, ◌-◌, ◌≤◌}
use mathlib.Core.Path.{◌≡◌, ap, ◌∙◌}
use mathlib.Core.List.{List, ◌++◌}
use native.Mathlib.Omega.{arith}
use lib.ListN.{length, take, drop}
use lib.Seq.{drop-drop}
use Rattle.word.specs.Place.{put_at}
use Rattle.word.proofs.Lists.{length_part, part_count, copied-whole}

-- `n` bytes at `at`, whose count the code has as end less start
module _ (n at : ℕ) (l : List ℕ) (fits : at + n ≤ length l) where
  sized : length (take (at + n - at) (drop at l)) ≡ n
  sized = ap length (part_count n at l) ∙ length_part n at l fits

  -- copied over all of `into`
  pub copied-out : (into r : List ℕ) → length into ≡ n
      → r ≡ take (length (take (at + n - at) (drop at l))) (take (at + n - at) (drop at l)) ++ drop (length (take (at + n - at) (drop at l))) into
      → r ≡ take n (drop at l)
  copied-out into r e h = copied-whole (take (at + n - at) (drop at l)) into r (omega (arith, sized)) h ∙ part_count n at l

  -- all of `bs` copied over them
  pub copied-in : (bs r : List ℕ) → length bs ≡ n
      → r ≡ take (length bs) bs ++ drop (length bs) (take (at + n - at) (drop at l))
      → take at l ++ (r ++ drop (at + n - at) (drop at l)) ≡ put_at at bs l
  unfolding put_at
  copied-in bs r e h =
      let end : at + (at + n - at) ≡ at + length bs = omega arith in
      rw (copied-whole bs (take (at + n - at) (drop at l)) r (omega (arith, sized)) h, drop-drop (at + n - at) at l, end)
