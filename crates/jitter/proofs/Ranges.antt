-- The least and the greatest of a function over a run of numbers: bounds that are reached, and one more run on which it does not change. Assumes nothing.
use Prim.Native.Nat.{ℕ, zero, suc, ◌+◌, ◌-◌, ◌≤◌, ◌<◌, min, max}
use mathlib.Core.Path.{◌≡◌, sym, ap, ◌∙◌}
use native.Mathlib.Omega.{arith}
use borrow.Author.Tests.{leb-true, leb-false}
use lib.Dec.{leb}
use Rattle.word.proofs.Choices.{by-test}
use Rattle.jitter.specs.Bounds.{least_of, greatest_of}

module _ (f : ℕ → ℕ) (s : ℕ) where
  pub least-bound : (more k : ℕ) → k ≤ more → least_of f s more ≤ f (s + k)
  unfolding least_of
  least-bound zero k h = let e : s + k ≡ s = omega arith in rw e (omega arith)
  least-bound (suc more) k h =
      by-test (leb k more)
      (λ t. let l = least-bound more k (leb-true k more t) in omega arith)
      (λ t. let e : k ≡ suc more = omega (arith, leb-false k more t) in rw e (omega arith))

  pub greatest-bound : (more k : ℕ) → k ≤ more → f (s + k) ≤ greatest_of f s more
  unfolding greatest_of
  greatest-bound zero k h = let e : s + k ≡ s = omega arith in rw e (omega arith)
  greatest-bound (suc more) k h =
      by-test (leb k more)
      (λ t. let l = greatest-bound more k (leb-true k more t) in omega arith)
      (λ t. let e : k ≡ suc more = omega (arith, leb-false k more t) in rw e (omega arith))

  pub least-reached : (more : ℕ) → (k : ℕ) × (k ≤ more) × (f (s + k) ≡ least_of f s more)
  unfolding least_of
  least-reached zero = let e : s + 0 ≡ s = omega arith in (0, omega arith, ap f e)
  least-reached (suc more) =
      let (k, few, reached) = least-reached more in
      by-test (leb (least_of f s more) (f (s + suc more)))
      (λ t. let l = leb-true (least_of f s more) (f (s + suc more)) t in (k, omega arith, omega arith))
      (λ t. let l = leb-false (least_of f s more) (f (s + suc more)) t in (suc more, omega arith, omega arith))

  pub greatest-reached : (more : ℕ) → (k : ℕ) × (k ≤ more) × (f (s + k) ≡ greatest_of f s more)
  unfolding greatest_of
  greatest-reached zero = let e : s + 0 ≡ s = omega arith in (0, omega arith, ap f e)
  greatest-reached (suc more) =
      let (k, few, reached) = greatest-reached more in
      by-test (leb (f (s + suc more)) (greatest_of f s more))
      (λ t. let l = leb-true (f (s + suc more)) (greatest_of f s more) t in (k, omega arith, omega arith))
      (λ t. let l = leb-false (f (s + suc more)) (greatest_of f s more) t in (suc more, omega arith, omega arith))

  -- a first run, and one behind it, on which the function is v
  pub least_first : (n v : ℕ) → ((k : ℕ) → k ≤ n → f (s + k) ≡ v) → least_of f s n ≡ v
  unfolding least_of
  least_first zero v flat = let e : s + 0 ≡ s = omega arith in sym (ap f e) ∙ flat 0 (omega arith)
  least_first (suc n) v flat = omega (arith, least_first n v (λ k h. flat k (omega arith)), flat (suc n) (omega arith))

  pub greatest-first : (n v : ℕ) → ((k : ℕ) → k ≤ n → f (s + k) ≡ v) → greatest_of f s n ≡ v
  unfolding greatest_of
  greatest-first zero v flat = let e : s + 0 ≡ s = omega arith in sym (ap f e) ∙ flat 0 (omega arith)
  greatest-first (suc n) v flat = omega (arith, greatest-first n v (λ k h. flat k (omega arith)), flat (suc n) (omega arith))

  pub least-next : (more n v : ℕ) → ((k : ℕ) → more < k → k ≤ more + suc n → f (s + k) ≡ v) → least_of f s (more + suc n) ≡ min (least_of f s more) v
  unfolding least_of
  least-next more zero v flat =
      let e : more + 1 ≡ suc more = omega arith in
      rw e (ap (min (least_of f s more)) (flat (suc more) (omega arith) (omega arith)))
  least-next more (suc n) v flat =
      let e : more + suc (suc n) ≡ suc (more + suc n) = omega arith in
      rw e (omega (arith, least-next more n v (λ k h l. flat k h (omega arith)), flat (suc (more + suc n)) (omega arith) (omega arith)))

  pub greatest-next : (more n v : ℕ) → ((k : ℕ) → more < k → k ≤ more + suc n → f (s + k) ≡ v) → greatest_of f s (more + suc n) ≡ max (greatest_of f s more) v
  unfolding greatest_of
  greatest-next more zero v flat =
      let e : more + 1 ≡ suc more = omega arith in
      rw e (ap (max (greatest_of f s more)) (flat (suc more) (omega arith) (omega arith)))
  greatest-next more (suc n) v flat =
      let e : more + suc (suc n) ≡ suc (more + suc n) = omega arith in
      rw e (omega (arith, greatest-next more n v (λ k h l. flat k h (omega arith)), flat (suc (more + suc n)) (omega arith) (omega arith)))

-- functions alike at every place
module _ (f g : ℕ → ℕ) (same : (t : ℕ) → f t ≡ g t) (s : ℕ) where
  pub least-same : (n : ℕ) → least_of f s n ≡ least_of g s n
  unfolding least_of
  least-same zero = same s
  least-same (suc n) = rw (least-same n, same (s + suc n))

  pub greatest-same : (n : ℕ) → greatest_of f s n ≡ greatest_of g s n
  unfolding greatest_of
  greatest-same zero = same s
  greatest-same (suc n) = rw (greatest-same n, same (s + suc n))
