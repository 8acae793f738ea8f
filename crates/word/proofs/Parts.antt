-- A space lent in equal parts: what is put into one part is there, and the others stay. Assumes nothing.
use Prim.Native.Nat.{ℕ, ◌+◌, ◌*◌, ◌<◌, ◌≤◌}
use mathlib.Core.Path.{◌≡◌, ap, ◌∙◌}
use mathlib.Core.List.{List}
use mathlib.Core.Logic.{◌⊎◌, ⊎_elim, inl, inr}
use native.Mathlib.Omega.{arith}
use native.Mathlib.Nat.{mul-le-mul_left, mul-suc}
use lib.ListN.{length}
use lib.Seq.{drop-drop}
use Rattle.word.specs.Place.{put_at}
use Rattle.word.specs.Parts.{part_of, with_part}
use Rattle.word.proofs.Puts.{length-put, put-there, put-part-elsewhere}

-- a part ends where the next begins, or before
before : (size i j : ℕ) → i < j → size * i + size ≤ size * j
before size i j h = rw (← mul-suc size i) (mul-le-mul_left size (omega arith))

module _ (size i : ℕ) (space part : List ℕ) (sized : length part ≡ size) where
  pub with-part-put : with_part size i space part ≡ put_at (size * i) part space
  unfolding put_at
  with-part-put = rw (sized, drop-drop size (size * i) space)

  module _ (fits : size * i + size ≤ length space) where
    room : size * i + length part ≤ length space
    room = omega arith

    pub length-with-part : length (with_part size i space part) ≡ length space
    length-with-part = ap length with-part-put ∙ length-put (size * i) part space room

    pub part_same : part_of size i (with_part size i space part) ≡ part
    part_same = ap (part_of size i) with-part-put ∙ rw sized at (put-there (size * i) part space room)

    pub part-other : (j : ℕ) → (j < i) ⊎ (i < j) → part_of size j (with_part size i space part) ≡ part_of size j space
    part-other j h =
        ap (part_of size j) with-part-put
        ∙ put-part-elsewhere (size * i) part space room size (size * j)
        (⊎_elim (λ (b : j < i). inl (before size j i b)) (λ (b : i < j). inr (rw (sized) (before size i j b))) h)
