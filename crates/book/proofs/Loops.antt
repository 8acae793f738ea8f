-- A loop over numbers split at one of them, and what it keeps over a range. Assumes nothing.
use Prim.Native.Nat.{ℕ, zero, suc, ◌+◌, ◌<◌, ◌≤◌}
use mathlib.Core.Path.{◌≡◌, refl}
use mathlib.Core.Bool.{Bool, true, false}
use native.Mathlib.Omega.{arith}
use Rattle.word.specs.Each.{each_of, further, always}
use Rattle.word.proofs.Each.{by-further}

module _ {A : Type 0} (on : A → Bool) (f : ℕ → A → A) where
  split_step : (b : Bool) (n k m j i : ℕ) (y : A) → on y ≡ b
      → (b ≡ true → each_of on f m j y ≡ further (on (each_of on f n j y)) (each_of on f n j y) (each_of on f k i))
      → further b y (each_of on f m j) ≡ further (on (further b y (each_of on f n j))) (further b y (each_of on f n j)) (each_of on f k i)
  split_step true n k m j i y e rest = rest refl
  split_step false n k m j i y e rest = rw e

  -- the first n numbers, then the others where it goes on
  pub each-split : (n k m j i : ℕ) (x : A) → n + k ≡ m → j + n ≡ i → on x ≡ true
      → each_of on f m j x ≡ further (on (each_of on f n j x)) (each_of on f n j x) (each_of on f k i)
  unfolding each_of
  each-split zero k m j i x em ei e =
      let same : k ≡ m = omega arith in
      let from : j ≡ i = omega arith in
      rw (← same, ← from, e)
  each-split (suc n) k zero j i x em ei e = absurd (omega arith)
  each-split (suc n) k (suc m) j i x em ei e =
      split_step (on (f j x)) n k m (j + 1) i (f j x) refl (λ go. each-split n k m (j + 1) i (f j x) (omega arith) (omega arith) go)

  -- what the turns of a range keep
  pub each-range : (P : A → Type 0) (lo count : ℕ) → ((j : ℕ) (x : A) → lo ≤ j → j < count → P x → P (f j x))
      → (n j : ℕ) (x : A) → lo ≤ j → j + n ≡ count → P x → P (each_of on f n j x)
  unfolding each_of
  each-range P lo count keep zero j x from e p = p
  each-range P lo count keep (suc n) j x from e p =
      let h = keep j x from (omega arith) p in
      by-further P (on (f j x)) (f j x) (each_of on f n (j + 1)) h (each-range P lo count keep n (j + 1) (f j x) (omega arith) (omega arith) h)

  -- one turn and the rest
  pub each_turn : (P : A → Type 0) (k j : ℕ) (x : A) → P (f j x) → (P (f j x) → P (each_of on f k (j + 1) (f j x))) → P (each_of on f (suc k) j x)
  unfolding each_of
  each_turn P k j x p q = by-further P (on (f j x)) (f j x) (each_of on f k (j + 1)) p (q p)

-- a loop with no test, around number i: what holds before it, what its turn makes of that, and what the later ones keep
pub each-around : {A : Type 0} (f : ℕ → A → A) (P Q : A → Type 0) (i k count : ℕ) (x : A) → i + suc k ≡ count
    → ((j : ℕ) (y : A) → j < i → P y → P (f j y)) → ((j : ℕ) (y : A) → i < j → j < count → Q y → Q (f j y))
    → P x → (P (each_of always f i 0 x) → Q (f i (each_of always f i 0 x))) → Q (each_of always f count 0 x)
each-around f P Q i k count x e before later start turn =
    let w = each_of always f i 0 x in
    let first : P w = each-range always f P 0 i (λ j y from less. before j y less) i 0 x (omega arith) (omega arith) start in
    rw (each-split always f i (suc k) count 0 i x e (omega arith) refl)
    (each_turn always f Q k i w (turn first)
    (λ q. each-range always f Q (i + 1) count (λ j y from less. later j y (omega arith) less) k (i + 1) (f i w) (omega arith) (omega arith) q))
