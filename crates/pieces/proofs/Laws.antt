-- The outcome of each function, from what its tests and calls leave. Assumes nothing.
use Prim.Native.Nat.{ℕ, ◌+◌, ◌-◌, ◌≤◌}
use mathlib.Core.Path.{◌≡◌, ap, ◌∙◌}
use mathlib.Core.Bool.{Bool, true}
use mathlib.Core.List.{List, ◌++◌}
use native.Mathlib.Omega.{arith}
use lib.ListN.{length, take, drop}
use lib.Seq.{drop-drop}
use Rattle.word.specs.Place.{put_at}
use Rattle.word.proofs.Lists.{length_part, part_count}
use Rattle.memory.specs.Memory.{Access, access_of, read_of, write_of}
use Rattle.memory.proofs.Laws.{read-inside, write-inside}

-- n bytes between memory and the samples, both long enough
module _ (m : List ℕ) (at : ℕ) (pcm : List ℕ) (done n : ℕ) (fits : at + n ≤ length m) (room : done + n ≤ length pcm) where
  sized : length (take n (drop done pcm)) ≡ n
  sized = length_part n done pcm room

  -- a write of a part of the samples
  pub captured : (r : Bool) (l : List ℕ) → access_of r l ≡ write_of m at (take (done + n - done) (drop done pcm)) → l ≡ put_at at (take n (drop done pcm)) m
  captured r l e =
      ap (λ (x : Access). x.bytes) (e ∙ ap (write_of m at) (part_count n done pcm) ∙ write-inside m at (take n (drop done pcm)) (omega (arith, sized)))

  -- a read over a part of the samples
  pub played : (r : Bool) (l : List ℕ) → access_of r l ≡ read_of m at (take (done + n - done) (drop done pcm))
      → take done pcm ++ (l ++ drop (done + n - done) (drop done pcm)) ≡ put_at done (take n (drop at m)) pcm
  unfolding put_at
  played r l e =
      let count : done + n - done ≡ n = omega arith in
      let is : l ≡ take n (drop at m) = ap (λ (x : Access). x.bytes) (e ∙ ap (read_of m at) (part_count n done pcm) ∙ read-inside m at (take n (drop done pcm)) (omega (arith, sized)) ∙ ap (λ (k : ℕ). access_of true (take k (drop at m))) sized) in
      rw (is, count, drop-drop n done pcm, length_part n at m fits)
