-- Laws of bytes put at a place of a list. Assumes nothing.
use Prim.Native.Nat.{ℕ, ◌+◌, ◌-◌, ◌≤◌, ◌<◌}
use mathlib.Core.Path.{◌≡◌, refl, sym, ap, ◌∙◌}
use mathlib.Core.List.{List, [], ◌∷◌, ◌++◌, append_assoc}
use mathlib.Core.Logic.{◌⊎◌, inl, inr}
use native.Mathlib.Omega.{arith}
use native.Mathlib.Nat.{add-zero}
use native.Mathlib.Numerals.{add-one}
use lib.ListN.{length, take, drop, get_or, set, length-append, length-drop, take-append-drop}
use lib.Seq.{set_split, take-append-le, take-take, take_at, drop_at, drop-drop, length-take-le, get_or-take, get_or-drop}
use Rattle.word.specs.Value.{Bytes}
use Rattle.word.specs.Place.{put_at}
use Rattle.word.proofs.Lists.{drop-take, length_part, bytes_take, bytes_drop, bytes-append}

-- the bytes that stand there change nothing
pub put_same : (n at : ℕ) (l : List ℕ) → at + n ≤ length l → put_at at (take n (drop at l)) l ≡ l
unfolding put_at
put_same n at l fits =
    rw (length_part n at l fits, ← drop-drop n at l, take-append-drop n (drop at l), take-append-drop at l)

-- bytes that come back in the place of a part that was lent are put
pub put-lent : (at k : ℕ) (bs l : List ℕ) → length bs ≡ k → take at l ++ (bs ++ drop k (drop at l)) ≡ put_at at bs l
unfolding put_at
put-lent at k bs l e = rw (drop-drop k at l, ← e)

-- a byte stored is put
pub set-put : (at v : ℕ) (l : List ℕ) → at < length l → set l at v ≡ put_at at (v ∷ []) l
unfolding put_at
set-put at v l h = rw (set_split l at v h, add-one)

module _ (at : ℕ) (bs l : List ℕ) (fits : at + length bs ≤ length l) where
  split : put_at at bs l ≡ (take at l ++ bs) ++ drop (at + length bs) l
  unfolding put_at
  split = sym (append_assoc (take at l) bs (drop (at + length bs) l))

  length_front : length (take at l ++ bs) ≡ at + length bs
  length_front = length-append (take at l) bs ∙ rw (length-take-le at l (omega arith))

  pub length-put : length (put_at at bs l) ≡ length l
  length-put = ap length split ∙ length-append (take at l ++ bs) (drop (at + length bs) l) ∙ omega (arith, length_front, length-drop (at + length bs) l)

  pub bytes-put : Bytes bs → Bytes l → Bytes (put_at at bs l)
  unfolding put_at
  bytes-put b h = bytes-append (take at l) _ (bytes_take at l h) (bytes-append bs _ b (bytes_drop (at + length bs) l h))

  -- up to the end of what was put
  pub put_front : take (at + length bs) (put_at at bs l) ≡ take at l ++ bs
  put_front = ap (take (at + length bs)) split ∙ take_at (take at l ++ bs) (drop (at + length bs) l) (at + length bs) length_front

  -- what was put stands there
  pub put-there : take (length bs) (drop at (put_at at bs l)) ≡ bs
  unfolding put_at
  put-there =
      ap (take (length bs)) (drop_at (take at l) (bs ++ drop (at + length bs) l) at (length-take-le at l (omega arith)))
      ∙ take_at bs (drop (at + length bs) l) (length bs) refl

  -- what stands before it, and what stands past it, stays
  pub put-before : (i : ℕ) → i ≤ at → take i (put_at at bs l) ≡ take i l
  unfolding put_at
  put-before i h = take-append-le i (take at l) _ (omega (arith, length-take-le at l (omega arith))) ∙ take-take i at l h

  pub put-after : (i : ℕ) → at + length bs ≤ i → drop i (put_at at bs l) ≡ drop i l
  put-after i h =
      let end : ℕ = at + length bs in
      let e : end + (i - end) ≡ i = omega arith in
      ap (λ (k : ℕ). drop k (put_at at bs l)) (sym e)
      ∙ sym (drop-drop (i - end) end (put_at at bs l))
      ∙ ap (drop (i - end)) (ap (drop end) split ∙ drop_at (take at l ++ bs) (drop end l) end length_front)
      ∙ drop-drop (i - end) end l
      ∙ ap (λ (k : ℕ). drop k l) e

  -- a part, and a byte, before or past it
  pub put-part-elsewhere : (n i : ℕ) → (i + n ≤ at) ⊎ (at + length bs ≤ i) → take n (drop i (put_at at bs l)) ≡ take n (drop i l)
  put-part-elsewhere n i (inl h) = sym (drop-take i n (put_at at bs l)) ∙ ap (drop i) (put-before (i + n) h) ∙ drop-take i n l
  put-part-elsewhere n i (inr h) = ap (take n) (put-after i h)

  pub put-byte-elsewhere : (i : ℕ) → (i < at) ⊎ (at + length bs ≤ i) → get_or (put_at at bs l) i 0 ≡ get_or l i 0
  put-byte-elsewhere i (inl h) = sym (get_or-take at (put_at at bs l) i 0 h) ∙ ap (λ (x : List ℕ). get_or x i 0) (put-before at (omega arith)) ∙ get_or-take at l i 0 h
  put-byte-elsewhere i (inr h) =
      rw add-zero at (sym (get_or-drop i (put_at at bs l) 0 0) ∙ ap (λ (x : List ℕ). get_or x 0 0) (put-after i h) ∙ get_or-drop i l 0 0)

  -- what is put over it wins
  pub put-over : (cs : List ℕ) → length cs ≡ length bs → put_at at cs (put_at at bs l) ≡ put_at at cs l
  unfolding put_at
  put-over cs e =
      ap (λ (x : List ℕ). x ++ (cs ++ drop (at + length cs) (put_at at bs l))) (put-before at (omega arith))
      ∙ ap (λ (x : List ℕ). take at l ++ (cs ++ x)) (put-after (at + length cs) (omega arith))

  -- what is put behind it joins it
  pub put-join : (cs : List ℕ) → put_at (at + length bs) cs (put_at at bs l) ≡ put_at at (bs ++ cs) l
  unfolding put_at
  put-join cs =
      let e : at + length bs + length cs ≡ at + length (bs ++ cs) = omega (arith, length-append bs cs) in
      ap (λ (x : List ℕ). x ++ (cs ++ drop (at + length bs + length cs) (put_at at bs l))) put_front
      ∙ ap (λ (x : List ℕ). take at l ++ bs ++ (cs ++ x)) (put-after (at + length bs + length cs) (omega arith))
      ∙ ap (λ (k : ℕ). take at l ++ bs ++ (cs ++ drop k l)) e
      ∙ simp append_assoc
