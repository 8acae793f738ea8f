-- Laws of words at a place, each over the widths. Assumes nothing.
use Prim.Native.Nat.{ℕ, ◌+◌, ◌*◌, ◌/◌, ◌%◌, ◌^◌, ◌≤◌, ◌<◌}
use mathlib.Core.Path.{◌≡◌, refl, sym, ap, ◌∙◌}
use mathlib.Core.List.{List, ◌++◌}
use mathlib.Core.Logic.{◌⊎◌}
use native.Mathlib.Omega.{arith}
use native.Mathlib.Numerals.{add-one}
use lib.ListN.{length, take, drop, get_or, set, length-set}
use lib.Seq.{take-add, drop-drop, drop-cons, set_split}
use Rattle.word.specs.Value.{value_of, bytes_of, Bytes}
use Rattle.word.specs.Place.{put_at, word_at, store_at}
use Rattle.word.proofs.Lists.{length_part, bytes_take, bytes_drop}
use Rattle.word.proofs.Value.{length-bytes, bytes-bound, value-bound, value-bytes, bytes-value, value-append, bytes-split}
use Rattle.word.proofs.Puts as put

-- of a word within a list
module _ (n at : ℕ) (l : List ℕ) (fits : at + n ≤ length l) where
  -- a word is a low part and a high part
  pub word-join : (m : ℕ) → word_at (n + m) at l ≡ word_at n at l + 256 ^ n * word_at m (at + n) l
  unfolding word_at
  word-join m =
      ap value_of (take-add n m (drop at l))
      ∙ value-append (take n (drop at l)) (take m (drop n (drop at l)))
      ∙ rw (length_part n at l fits, drop-drop n at l)

  pub word_bound : Bytes l → word_at n at l < 256 ^ n
  unfolding word_at
  word_bound h = rw (length_part n at l fits) at (value-bound (take n (drop at l)) (bytes_take n (drop at l) (bytes_drop at l h)))

  pub word_bytes : Bytes l → bytes_of n (word_at n at l) ≡ take n (drop at l)
  unfolding word_at
  word_bytes h = rw (length_part n at l fits) at (bytes-value (take n (drop at l)) (bytes_take n (drop at l) (bytes_drop at l h)))

-- a store puts the number's bytes
pub store-put : (n at v : ℕ) (l : List ℕ) → store_at n at v l ≡ put_at at (bytes_of n v) l
unfolding store_at put_at
store-put n at v l = rw length-bytes

-- the word that stands there, stored, changes nothing
pub store_same : (n at : ℕ) (l : List ℕ) → at + n ≤ length l → Bytes l → store_at n at (word_at n at l) l ≡ l
store_same n at l fits h =
    store-put n at (word_at n at l) l ∙ ap (λ (bs : List ℕ). put_at at bs l) (word_bytes n at l fits h) ∙ put.put_same n at l fits

-- of a store within a list
module _ (n at v : ℕ) (l : List ℕ) (fits : at + n ≤ length l) where
  room : at + length (bytes_of n v) ≤ length l
  room = omega (arith, length-bytes n v)

  pub length-store : length (store_at n at v l) ≡ length l
  length-store = ap length (store-put n at v l) ∙ put.length-put at (bytes_of n v) l room

  pub bytes-store : Bytes l → Bytes (store_at n at v l)
  bytes-store h = rw (store-put n at v l) (put.bytes-put at (bytes_of n v) l room (bytes-bound n v) h)

  -- the word just stored
  pub word-store : v < 256 ^ n → word_at n at (store_at n at v l) ≡ v
  unfolding word_at
  word-store h =
      ap (λ (x : List ℕ). value_of (take n (drop at x))) (store-put n at v l)
      ∙ ap value_of (rw length-bytes at (put.put-there at (bytes_of n v) l room))
      ∙ value-bytes n v h

  -- what stands before it, and what stands past it, stays
  pub store-before : (i : ℕ) → i ≤ at → take i (store_at n at v l) ≡ take i l
  store-before i h = ap (take i) (store-put n at v l) ∙ put.put-before at (bytes_of n v) l room i h

  pub store-after : (i : ℕ) → at + n ≤ i → drop i (store_at n at v l) ≡ drop i l
  store-after i h = ap (drop i) (store-put n at v l) ∙ put.put-after at (bytes_of n v) l room i (omega (arith, length-bytes n v))

  -- a word of any width, and a byte, before or past it
  pub word-elsewhere : (m i : ℕ) → (i + m ≤ at) ⊎ (at + n ≤ i) → word_at m i (store_at n at v l) ≡ word_at m i l
  unfolding word_at
  word-elsewhere m i h =
      ap (λ (x : List ℕ). value_of (take m (drop i x))) (store-put n at v l)
      ∙ ap value_of (put.put-part-elsewhere at (bytes_of n v) l room m i (rw length-bytes h))

  pub byte-elsewhere : (i : ℕ) → (i < at) ⊎ (at + n ≤ i) → get_or (store_at n at v l) i 0 ≡ get_or l i 0
  byte-elsewhere i h =
      ap (λ (x : List ℕ). get_or x i 0) (store-put n at v l) ∙ put.put-byte-elsewhere at (bytes_of n v) l room i (rw length-bytes h)

  -- a second store at the same place wins
  pub store-over : (w : ℕ) → store_at n at w (store_at n at v l) ≡ store_at n at w l
  store-over w =
      ap (store_at n at w) (store-put n at v l)
      ∙ store-put n at w (put_at at (bytes_of n v) l)
      ∙ put.put-over at (bytes_of n v) l room (bytes_of n w) (length-bytes n w ∙ sym (length-bytes n v))
      ∙ sym (store-put n at w l)

  -- a word is stored by a low part and a high part
  pub store-join : (m w : ℕ) → bytes_of n v ≡ bytes_of n w → store_at m (at + n) (w / 256 ^ n) (store_at n at v l) ≡ store_at (n + m) at w l
  store-join m w e =
      let high : List ℕ = bytes_of m (w / 256 ^ n) in
      ap (store_at m (at + n) (w / 256 ^ n)) (store-put n at v l)
      ∙ store-put m (at + n) (w / 256 ^ n) (put_at at (bytes_of n v) l)
      ∙ ap (λ (k : ℕ). put_at (at + k) high (put_at at (bytes_of n v) l)) (sym (length-bytes n v))
      ∙ put.put-join at (bytes_of n v) l room high
      ∙ ap (λ (bs : List ℕ). put_at at (bs ++ high) l) e
      ∙ ap (λ (bs : List ℕ). put_at at bs l) (sym (bytes-split n m w))
      ∙ sym (store-put (n + m) at w l)

-- of one byte
module _ (at : ℕ) (l : List ℕ) (fits : at < length l) where
  pub word_byte : word_at 1 at l ≡ get_or l at 0
  unfolding word_at
  word_byte = rw (drop-cons l at 0) (omega arith)

  pub store_byte : (v : ℕ) → store_at 1 at v l ≡ set l at (v % 256)
  unfolding store_at
  store_byte v = rw (set_split, add-one)

-- of two bytes
module _ (at : ℕ) (l : List ℕ) (fits : at + 2 ≤ length l) where
  pub word-pair : word_at 2 at l ≡ get_or l at 0 + 256 * get_or l (at + 1) 0
  word-pair = word-join 1 at l (omega arith) 1 ∙ rw (word_byte at l (omega arith), word_byte (at + 1) l (omega arith))

  pub store_pair : (v : ℕ) → store_at 2 at v l ≡ set (set l at (v % 256)) (at + 1) (v / 256 % 256)
  store_pair v =
      sym (store-join 1 at v l (omega arith) 1 v refl)
      ∙ ap (store_at 1 (at + 1) (v / 256)) (store_byte at l (omega arith) v)
      ∙ store_byte (at + 1) (set l at (v % 256)) (simp length-set (omega arith)) (v / 256)
