-- Laws of the digest: one byte more, all of them, and the parts of a space. Assumes nothing.
use Rattle.std.proofs.Common.{◌≡◌, ℕ, suc, ◌+◌, ◌-◌, ◌<◌, ◌≤◌, List, length, get_or, take, drop, sym, ap, ◌∙◌, add-one, drop_of_length-le, drop-cons, le-ltb, lt-ltb}
use Rattle.word.specs.Place.{word_at}
use Rattle.rehearse.specs.Digest.{step_of, digest_of, number_of, part_of}

module _ (l : List ℕ) (i sum d : ℕ) (so_far : digest_of sum (drop i l) ≡ d) where
  pub digest-more : (v : ℕ) → v ≡ step_of sum (get_or l i 0) → i < length l → digest_of v (drop (i + 1) l) ≡ d
  unfolding digest_of
  digest-more v e h =
      let next : digest_of sum (drop i l) ≡ digest_of (step_of sum (get_or l i 0)) (drop (suc i) l) = rw (drop-cons l i 0 h) in
      rw (add-one i, e) (sym next ∙ so_far)

  pub digest-all : length l ≤ i → sum ≡ d
  unfolding digest_of
  digest-all h =
      let end : digest_of sum (drop i l) ≡ sum = rw (drop_of_length-le l h) in
      sym end ∙ so_far

module _ (b : List ℕ) (at : ℕ) where
  pub number_short : length b < 4 → 0 ≡ number_of at b
  unfolding number_of
  number_short h = rw (lt-ltb (length b) 4 h)

  pub number_behind : 4 ≤ length b → length b - 4 < at → 0 ≡ number_of at b
  unfolding number_of
  number_behind h g = rw (le-ltb (length b) 4 h, lt-ltb (length b - 4) at g)

  pub number-there : (v : ℕ) → 4 ≤ length b → at ≤ length b - 4 → v ≡ word_at 4 at b → v ≡ number_of at b
  unfolding number_of
  number-there v h g e = rw (le-ltb (length b) 4 h, le-ltb (length b - 4) at g) e

module _ (space : List ℕ) (from count sum : ℕ) where
  pub part-behind : length space < from → sum ≡ part_of from count sum space
  unfolding part_of
  part-behind h = rw (lt-ltb (length space) from h)

  pub part-short : from ≤ length space → length space - from < count → sum ≡ part_of from count sum space
  unfolding part_of
  part-short h g = rw (le-ltb (length space) from h, lt-ltb (length space - from) count g)

  pub part-there : (v k : ℕ) → v ≡ digest_of sum (take k (drop from space)) → from ≤ length space → count ≤ length space - from → k ≡ count
      → v ≡ part_of from count sum space
  unfolding part_of
  part-there v k f h g e = rw (le-ltb (length space) from h, le-ltb (length space - from) count g) (f ∙ ap (λ (n : ℕ). digest_of sum (take n (drop from space))) e)
