-- Lists of bytes that agree at the places of a set: what a run of the device can tell apart of two guest memories, and of two register files. Assumes nothing.
use Prim.Native.Nat.{ℕ, ◌+◌, ◌-◌, ◌≤◌, ◌<◌}
use mathlib.Core.Path.{◌≡◌, refl, sym, ap, ◌∙◌}
use mathlib.Core.List.{List, [], ◌∷◌}
use mathlib.Core.Logic.{◌⊎◌, inl, inr}
use native.Mathlib.Omega.{arith}
use borrow.Author.Tests.{leb-true, leb-false, ltb-true, ltb-false}
use lib.Dec.{leb, ltb}
use lib.ListN.{length, take, drop, get_or, set, length-take, length-drop}
use lib.Seq.{ext_get_or, get_or-take, get_or-drop}
use Rattle.word.specs.Value.{value_of, bytes_of}
use Rattle.word.specs.Place.{put_at, word_at, store_at}
use Rattle.word.proofs.Choices.{by-test}
use Rattle.word.proofs.Puts.{length-put, put-there, put-byte-elsewhere, set-put}
use Rattle.word.proofs.Place.{store-put}
use Rattle.word.proofs.Value.{length-bytes}
use Rattle.memory.specs.Memory.{read_of, write_of, entry_at, descriptor_of}
use Rattle.counts.specs.Counts.{Agree}

pub agree_refl : (P : ℕ → Type 0) (m : List ℕ) → Agree P m m
agree_refl P m = record { long = refl; same = λ p _. refl }

-- what was put, byte by byte
pub put-byte-there : (at : ℕ) (bs l : List ℕ) → at + length bs ≤ length l → (i : ℕ) → i < length bs → get_or (put_at at bs l) (at + i) 0 ≡ get_or bs i 0
put-byte-there at bs l fits i h =
    sym (get_or-drop at (put_at at bs l) i 0)
    ∙ sym (get_or-take (length bs) (drop at (put_at at bs l)) i 0 h)
    ∙ ap (λ (x : List ℕ). get_or x i 0) (put-there at bs l fits)

module _ (P : ℕ → Type 0) (m m' : List ℕ) (a : Agree P m m') where
  -- the same bytes put at the same place
  pub agree-put : (at : ℕ) (bs : List ℕ) → at + length bs ≤ length m → Agree P (put_at at bs m) (put_at at bs m')
  agree-put at bs fits =
      let fits' : at + length bs ≤ length m' = omega (arith, a.long) in
      record {
        long = length-put at bs m fits ∙ a.long ∙ sym (length-put at bs m' fits');
        same = λ p h. by-test (ltb p at)
            (λ t. let before : p < at = ltb-true p at t in elsewhere fits' p h (inl before))
            (λ t. by-test (leb (at + length bs) p)
            (λ u. let past : at + length bs ≤ p = leb-true (at + length bs) p u in elsewhere fits' p h (inr past))
            (λ u. there fits' p (ltb-false p at t) (leb-false (at + length bs) p u)));
      }
    where
      elsewhere : at + length bs ≤ length m' → (p : ℕ) → P p → (p < at) ⊎ (at + length bs ≤ p) → get_or (put_at at bs m) p 0 ≡ get_or (put_at at bs m') p 0
      elsewhere fits' p h away = put-byte-elsewhere at bs m fits p away ∙ a.same p h ∙ sym (put-byte-elsewhere at bs m' fits' p away)

      there : at + length bs ≤ length m' → (p : ℕ) → at ≤ p → p < at + length bs → get_or (put_at at bs m) p 0 ≡ get_or (put_at at bs m') p 0
      there fits' p low high =
          let e : at + (p - at) ≡ p = omega arith in
          let k : p - at < length bs = omega arith in
          rw e at (put-byte-there at bs m fits (p - at) k ∙ sym (put-byte-there at bs m' fits' (p - at) k))

  -- a part, a byte, a word and a descriptor of the set
  pub agree-part : (n at : ℕ) → ((p : ℕ) → at ≤ p → p < at + n → P p) → take n (drop at m) ≡ take n (drop at m')
  agree-part n at inside =
      let sizes : length (take n (drop at m)) ≡ length (take n (drop at m')) = simp (length-take, length-drop) (rw a.long) in
      ext_get_or 0 (take n (drop at m)) (take n (drop at m')) sizes
      (λ i h. let k : i < n = omega (arith, length-take n (drop at m)) in
      get_or-take n (drop at m) i 0 k ∙ get_or-drop at m i 0 ∙ a.same (at + i) (inside (at + i) (omega arith) (omega arith))
      ∙ sym (get_or-take n (drop at m') i 0 k ∙ get_or-drop at m' i 0))

  pub agree-word : (n at : ℕ) → ((p : ℕ) → at ≤ p → p < at + n → P p) → word_at n at m ≡ word_at n at m'
  unfolding word_at
  agree-word n at inside = ap value_of (agree-part n at inside)

  pub agree-descriptor : (at : ℕ) → ((p : ℕ) → at ≤ p → p < at + 16 → P p) → descriptor_of m at ≡ descriptor_of m' at
  unfolding descriptor_of entry_at
  agree-descriptor at inside = by-test (leb (at + 16) (length m))
      (λ t. let fits : at + 16 ≤ length m = leb-true (at + 16) (length m) t in
      rw (
        ← a.long,
        t,
        agree-word 8 at (λ p l h. inside p l (omega arith)),
        agree-word 4 (at + 8) (λ p l h. inside p (omega arith) (omega arith)),
        agree-word 4 (at + 12) (λ p l h. inside p (omega arith) (omega arith)),
      ))
      (λ t. rw (← a.long, t))

  -- a write: done in both or in none
  pub agree-write : (at : ℕ) (bs : List ℕ) → ((write_of m at bs).moved ≡ (write_of m' at bs).moved) × Agree P (write_of m at bs).bytes (write_of m' at bs).bytes
  unfolding write_of
  agree-write at bs = by-test (leb (at + length bs) (length m))
      (λ t. rw (← a.long, t) (refl, agree-put at bs (leb-true (at + length bs) (length m) t)))
      (λ t. rw (← a.long, t) (refl, a))

  -- a byte set, a word stored
  pub agree-set : (at v : ℕ) → at < length m → Agree P (set m at v) (set m' at v)
  agree-set at v fits =
      let one : length (v ∷ []) ≡ 1 = refl in
      let fits' : at < length m' = omega (arith, a.long) in
      rw (set-put at v m fits, set-put at v m' fits') (agree-put at (v ∷ []) (omega arith))

  pub agree-store : (n at v : ℕ) → at + n ≤ length m → Agree P (store_at n at v m) (store_at n at v m')
  agree-store n at v fits = rw (store-put n at v m, store-put n at v m') (agree-put at (bytes_of n v) (omega (arith, length-bytes n v)))

  -- a read
  pub agree-read : (at : ℕ) (into : List ℕ) → ((p : ℕ) → at ≤ p → p < at + length into → P p) → read_of m at into ≡ read_of m' at into
  unfolding read_of
  agree-read at into inside = rw (← a.long, agree-part (length into) at inside)
