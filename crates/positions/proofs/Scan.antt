-- The turns of a scan: at place `i`, where `x` is read, and at the end. Assumes nothing.
use Prim.Native.Nat.{ℕ, suc, ◌+◌, ◌-◌, ◌*◌, ◌<◌, ◌≤◌}
use mathlib.Core.Path.{◌≡◌, refl, sym, ap, ◌∙◌}
use mathlib.Core.List.{List, [], ◌∷◌}
use mathlib.Core.Bool.{Bool, true, false, ◌&&◌, and-false}
use native.Mathlib.Omega.{arith}
use native.Mathlib.Numerals.{add-one}
use borrow.Author.Tests.{leb-true, leb-false, le-leb, lt-leb, lt-ltb, le-ltb}
use lib.Dec.{leb}
use lib.ListN.{length, drop, drop_of_length-le}
use lib.Seq.{drop-cons}
use Rattle.word.specs.Place.{word_at}
use Rattle.word.proofs.Choices.{by-test}
use Rattle.positions.specs.Positions.{positions_of, up_to_of, rises_of, spaced_from, spaced_of}
use Rattle.positions.proofs.View.{length-positions, get_d-positions}

module _ (n : ℕ) (l : List ℕ) (i x : ℕ) (h : i < n) (ex : x ≡ word_at 8 (8 * i) l) where
  seen : drop i (positions_of n l) ≡ x ∷ drop (i + 1) (positions_of n l)
  seen =
      let hl : i < length (positions_of n l) = omega (arith, length-positions n l) in
      drop-cons (positions_of n l) i 0 hl
      ∙ ap (λ (y : ℕ). y ∷ drop (suc i) (positions_of n l)) (get_d-positions n l i h ∙ sym ex)
      ∙ ap (λ (j : ℕ). x ∷ drop j (positions_of n l)) (sym (add-one i))

  pub up_more : (c : ℕ) → x ≤ c → up_to_of c (drop i (positions_of n l)) ≡ 1 + up_to_of c (drop (i + 1) (positions_of n l))
  unfolding up_to_of
  up_more c k = ap (up_to_of c) seen ∙ rw (le-leb x c k)

  pub up-stop : (c : ℕ) → c < x → up_to_of c (drop i (positions_of n l)) ≡ 0
  unfolding up_to_of
  up-stop c k = ap (up_to_of c) seen ∙ rw (lt-leb x c k)

  module _ (lo hi : ℕ) where
    -- whether `lo` is at most `hi` need not be known where `x` is above it
    pub rise-more : (known : Bool) → (leb lo hi ≡ true → known ≡ true) → lo < x
        → (known && rises_of lo (drop i (positions_of n l)) hi) ≡ (leb x hi && rises_of x (drop (i + 1) (positions_of n l)) hi)
    unfolding rises_of
    rise-more known so k = ap (λ (xs : List ℕ). known && rises_of lo xs hi) seen ∙ rw (lt-ltb lo x k) (go (leb x hi) refl)
      where
        go : (b : Bool) → leb x hi ≡ b → (known && (b && rises_of x (drop (i + 1) (positions_of n l)) hi)) ≡ (b && rises_of x (drop (i + 1) (positions_of n l)) hi)
        go true e = let within = leb-true x hi e in rw (so (le-leb lo hi (omega arith)))
        go false e = and-false known

    pub rise-low : x ≤ lo → rises_of lo (drop i (positions_of n l)) hi ≡ false
    unfolding rises_of
    rise-low k = ap (λ (xs : List ℕ). rises_of lo xs hi) seen ∙ rw (le-ltb lo x k)

  module _ (last offset hi : ℕ) where
    pub space-more : last + 4 ≤ x → spaced_from last offset hi (drop i (positions_of n l)) ≡ spaced_from x offset hi (drop (i + 1) (positions_of n l))
    unfolding spaced_from
    space-more k = ap (spaced_from last offset hi) seen ∙ rw (le-leb (last + 4) x k)

    pub space-less : x < last + 4 → spaced_from last offset hi (drop i (positions_of n l)) ≡ false
    unfolding spaced_from
    space-less k = ap (spaced_from last offset hi) seen ∙ rw (lt-leb (last + 4) x k)

-- the start of one that looks at neighbours, with a first position and with none
pub space-first : (n : ℕ) (l : List ℕ) (x offset hi : ℕ) → 0 < n → x ≡ word_at 8 (8 * 0) l
    → spaced_from x offset hi (drop 1 (positions_of n l)) ≡ spaced_of offset hi (positions_of n l)
space-first n l x offset hi h ex = sym (ap (spaced_of offset hi) (seen n l 0 x h ex))

pub space-none : (l : List ℕ) (offset hi : ℕ) → spaced_of offset hi (positions_of 0 l) ≡ true
unfolding positions_of
space-none l offset hi = refl

-- the end of a scan
module _ (n : ℕ) (l : List ℕ) (i : ℕ) (h : n ≤ i) where
  over : drop i (positions_of n l) ≡ []
  over =
      let hl : length (positions_of n l) ≤ i = omega (arith, length-positions n l) in
      drop_of_length-le (positions_of n l) hl

  pub up-end : (c : ℕ) → up_to_of c (drop i (positions_of n l)) ≡ 0
  unfolding up_to_of
  up-end c = ap (up_to_of c) over

  pub rise-end : (lo hi : ℕ) → rises_of lo (drop i (positions_of n l)) hi ≡ true
  unfolding rises_of
  rise-end lo hi = ap (λ (xs : List ℕ). rises_of lo xs hi) over

  pub space-end : (last offset hi : ℕ) → spaced_from last offset hi (drop i (positions_of n l)) ≡ leb (last + offset) hi
  unfolding spaced_from
  space-end last offset hi = ap (spaced_from last offset hi) over

-- its last test, with no sum that could wrap
pub below : (last offset hi : ℕ) → last ≤ hi → leb offset (hi - last) ≡ leb (last + offset) hi
below last offset hi h =
    by-test (leb offset (hi - last)) (λ e. let k = leb-true offset (hi - last) e in e ∙ sym (le-leb (last + offset) hi (omega arith)))
    (λ e. let k = leb-false offset (hi - last) e in e ∙ sym (lt-leb (last + offset) hi (omega arith)))
