-- What the laws of words and of lent bytes need of lists, and the library lacks. Assumes nothing.
use Prim.Native.Nat.{ℕ, zero, suc, ◌+◌, ◌-◌, ◌<◌, ◌≤◌}
use mathlib.Core.Path.{◌≡◌, sym, ap, ◌∙◌}
use mathlib.Core.Bool.{Bool, true, ◌&&◌}
use mathlib.Core.List.{List, [], ◌∷◌, ◌++◌, append-nil}
use native.Mathlib.Omega.{arith}
use native.Mathlib.Nat.{zero-add, suc-add}
use borrow.Author.Tests.{ltb-true}
use lib.Dec.{ltb}
use lib.ListN.{length, take, drop, get_or, set, replicate, length-drop, drop_of_length-le}
use lib.Seq.{take-nil, take-length, get_or-drop, length-take-le}
use Rattle.word.proofs.Choices.{left, right}
use Rattle.word.specs.Value.{Bytes}

-- from `a` on, of the elements up to `a + b`
pub drop-take : (a b : ℕ) (l : List ℕ) → drop a (take (a + b) l) ≡ take b (drop a l)
drop-take zero b l = ap (λ (k : ℕ). take k l) (zero-add b)
drop-take (suc a) b [] = ap (drop (suc a)) (take-nil (suc a + b)) ∙ sym (take-nil b)
drop-take (suc a) b (x ∷ l) = ap (λ (k : ℕ). drop (suc a) (take k (x ∷ l))) (suc-add a b) ∙ drop-take a b l

-- `n` bytes from `at` on are as many, also with their count as the code computes it, end less start
pub length_part : (n at : ℕ) (l : List ℕ) → at + n ≤ length l → length (take n (drop at l)) ≡ n
length_part n at l fits = length-take-le n (drop at l) (omega (arith, length-drop at l))

pub part_count : (n at : ℕ) (l : List ℕ) → take (at + n - at) (drop at l) ≡ take n (drop at l)
part_count n at l =
    let e : at + n - at ≡ n = omega arith in
    ap (λ (k : ℕ). take k (drop at l)) e

-- all of `from` copied over as many bytes or fewer
pub copied-whole : (from into l : List ℕ) → length into ≤ length from → l ≡ take (length from) from ++ drop (length from) into → l ≡ from
copied-whole from into l h e = e ∙ rw (take-length from, drop_of_length-le into h, append-nil)

-- a list of which the first `i` bytes were made `v`, all of them
pub all-filled : (v : ℕ) (l l₀ : List ℕ) (i : ℕ) → i ≡ length l₀ → l ≡ replicate i v ++ drop i l₀ → l ≡ replicate (length l₀) v
all-filled v l l₀ i ei e =
    let over : length l₀ ≤ i = omega arith in
    e ∙ rw (drop_of_length-le l₀ over, append-nil, ei)

-- what is put in a place holds there, where what stands for a missing element has it too
pub at_set : {A : Type 0} (P : A → Type 0) (l : List A) (i : ℕ) (v d : A) → P v → P d → P (get_or (set l i v) i d)
at_set P [] i v d new past = past
at_set P (x ∷ l) zero v d new past = new
at_set P (x ∷ l) (suc i) v d new past = at_set P l i v d new past

-- .. and what held of each holds of each
pub set_keeps : {A : Type 0} (P : A → Type 0) (l : List A) (i j : ℕ) (v d : A) → P v → P (get_or l j d) → P (get_or (set l i v) j d)
set_keeps P [] i j v d p h = h
set_keeps P (x ∷ l) zero zero v d p h = p
set_keeps P (x ∷ l) zero (suc j) v d p h = h
set_keeps P (x ∷ l) (suc i) zero v d p h = h
set_keeps P (x ∷ l) (suc i) (suc j) v d p h = set_keeps P l i j v d p h

-- a part of a list of bytes, and two joined, are bytes
pub bytes_take : (n : ℕ) (l : List ℕ) → Bytes l → Bytes (take n l)
bytes_take zero l h i = omega arith
bytes_take (suc n) [] h i = omega arith
bytes_take (suc n) (x ∷ l) h zero = h 0
bytes_take (suc n) (x ∷ l) h (suc i) = bytes_take n l (λ k. h (suc k)) i

pub bytes_drop : (n : ℕ) (l : List ℕ) → Bytes l → Bytes (drop n l)
bytes_drop n l h i = rw (get_or-drop n l i 0) (h (n + i))

pub bytes-append : (k l : List ℕ) → Bytes k → Bytes l → Bytes (k ++ l)
bytes-append [] l h g i = g i
bytes-append (x ∷ k) l h g zero = h 0
bytes-append (x ∷ k) l h g (suc i) = bytes-append k l (λ j. h (suc j)) g i

-- a byte set, and zeros

pub bytes-set : (l : List ℕ) (at v : ℕ) → v < 256 → Bytes l → Bytes (set l at v)
bytes-set [] at v small h i = h i
bytes-set (x ∷ l) zero v small h zero = small
bytes-set (x ∷ l) zero v small h (suc i) = h (suc i)
bytes-set (x ∷ l) (suc at) v small h zero = h 0
bytes-set (x ∷ l) (suc at) v small h (suc i) = bytes-set l at v small (λ k. h (suc k)) i

pub bytes-zeros : (n : ℕ) → Bytes (replicate n 0)
bytes-zeros zero i = omega arith
bytes-zeros (suc n) zero = omega arith
bytes-zeros (suc n) (suc i) = bytes-zeros n i

-- a test of bytes that computes
abbrev pub below : List ℕ → Bool
below [] = true
below (x ∷ l) = ltb x 256 && below l

pub bytes_below : (l : List ℕ) → below l ≡ true → Bytes l
bytes_below [] h i = omega arith
bytes_below (x ∷ l) h zero = ltb-true x 256 (left (ltb x 256) (below l) h)
bytes_below (x ∷ l) h (suc i) = bytes_below l (right (ltb x 256) (below l) h) i
