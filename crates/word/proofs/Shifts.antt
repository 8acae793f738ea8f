-- Laws of bytes moved down to the front of a list. Assumes nothing.
use Prim.Native.Nat.{ℕ, ◌+◌, ◌≤◌}
use mathlib.Core.Path.{◌≡◌, sym, ap, ◌∙◌}
use mathlib.Core.List.{List, ◌++◌}
use native.Mathlib.Omega.{arith}
use native.Mathlib.Nat.{zero-add}
use lib.ListN.{length, take, drop, take-append-drop}
use Rattle.word.specs.Place.{put_at}
use Rattle.word.specs.Shift.{shift_of}
use Rattle.word.proofs.Lists.{length_part}
use Rattle.word.proofs.Puts.{length-put, put-there, put-after}

-- from the front on, nothing moves
pub shift_none : (count : ℕ) (l : List ℕ) → shift_of 0 count l ≡ l
unfolding shift_of
shift_none count l = take-append-drop count l

module _ (from count : ℕ) (l : List ℕ) (fits : from + count ≤ length l) where
  moved : List ℕ
  moved = take count (drop from l)

  length_moved : length moved ≡ count
  unfolding moved
  length_moved = length_part count from l fits

  room : 0 + length moved ≤ length l
  room = omega (arith, length_moved)

  -- a shift puts the moved bytes at the front
  shift-put : shift_of from count l ≡ put_at 0 moved l
  unfolding shift_of put_at moved
  shift-put = ap (λ (i : ℕ). moved ++ drop i l) (sym (zero-add (length moved) ∙ length_moved))

  pub length_shift : length (shift_of from count l) ≡ length l
  length_shift = ap length shift-put ∙ length-put 0 moved l room

  -- the bytes from `from` on stand at the front
  pub shift-there : take count (shift_of from count l) ≡ take count (drop from l)
  unfolding moved
  shift-there = ap (take count) shift-put ∙ rw length_moved at (put-there 0 moved l room)

  -- what stands past the moved bytes stays
  pub shift-after : (i : ℕ) → count ≤ i → drop i (shift_of from count l) ≡ drop i l
  shift-after i h = ap (drop i) shift-put ∙ put-after 0 moved l room i (omega (arith, length_moved))
