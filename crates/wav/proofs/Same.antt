-- Two lists compared, element after element. Assumes nothing.
use Prim.Native.Nat.{ℕ}
use mathlib.Core.Path.{◌≡◌, refl, sym, ◌∙◌}
use mathlib.Core.Bool.{true, true≢false}
use mathlib.Core.List.{List, [], ◌∷◌}
use borrow.Author.Tests.{eqb-true, eq-eqb, ne_eqb}
use lib.Dec.{eqb}
use lib.Pointwise.{pointwise}
use Rattle.word.proofs.Choices.{by-test, left, right}
use Rattle.wav.specs.Files.{same}

pub same_refl : (l : List ℕ) → same l l ≡ true
same_refl [] = refl
same_refl (x ∷ l) = rw (eq-eqb x x refl) (same_refl l)

pub same→eq : (l k : List ℕ) → same l k ≡ true → l ≡ k
same→eq [] [] h = refl
same→eq [] (y ∷ k) h = absurd (true≢false (sym h))
same→eq (x ∷ l) [] h = absurd (true≢false (sym h))
same→eq (x ∷ l) (y ∷ k) h = rw (eqb-true x y (left (eqb x y) (same l k) h), same→eq l k (right (eqb x y) (same l k) h))

-- `starts_with` of the library compares the same numbers, the other way round
eqb_turned : (x y : ℕ) → eqb y x ≡ eqb x y
eqb_turned x y = by-test (eqb x y) (λ t. rw t (eq-eqb y x (sym (eqb-true x y t)))) (λ f. rw f (ne_eqb y x (λ e. absurd (true≢false (sym (eq-eqb x y (sym e)) ∙ f)))))

pub same_pointwise : (l k : List ℕ) → pointwise eqb k l ≡ same l k
same_pointwise [] [] = refl
same_pointwise [] (y ∷ k) = refl
same_pointwise (x ∷ l) [] = refl
same_pointwise (x ∷ l) (y ∷ k) = rw (eqb_turned x y, same_pointwise l k)
