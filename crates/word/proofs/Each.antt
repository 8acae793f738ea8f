-- Laws of a loop over numbers, for any state: a turn, a turn after which it ends, its end, what it keeps, and two that are equal. Assumes nothing.
use Prim.Native.Nat.{ℕ, zero, suc, ◌+◌, ◌<◌, ◌≤◌}
use mathlib.Core.Path.{◌≡◌, refl, ap, ◌∙◌}
use mathlib.Core.Bool.{Bool, true, false}
use native.Mathlib.Omega.{arith}
use Rattle.word.specs.Each.{each_of, further, always}

module _ {ℓ} {A : Type ℓ} (on : A → Bool) (f : ℕ → A → A) (count i : ℕ) where
  pub each_step : (n : ℕ) (x y : A) → i + n ≡ count → i < count → y ≡ f i x → on y ≡ true
      → (k : ℕ) × (i + 1 + k ≡ count) × (each_of on f n i x ≡ each_of on f k (i + 1) y)
  unfolding each_of
  each_step zero x y hn h e z = absurd (omega arith)
  each_step (suc k) x y hn h e z = (k, omega arith, rw (← e, z))

  pub each-stop : (n : ℕ) (x y : A) → i + n ≡ count → i < count → y ≡ f i x → on y ≡ false → each_of on f n i x ≡ y
  unfolding each_of
  each-stop zero x y hn h e z = absurd (omega arith)
  each-stop (suc k) x y hn h e z = rw (← e, z)

  pub each-end : (n : ℕ) (x : A) → i + n ≡ count → count ≤ i → each_of on f n i x ≡ x
  unfolding each_of
  each-end zero x hn h = refl
  each-end (suc k) x hn h = absurd (omega arith)

-- what each turn of a loop over numbers keeps, the loop keeps, wherever it ends
pub by-further : {A : Type 0} (P : A → Type 0) (b : Bool) (y : A) (rest : A → A) → P y → P (rest y) → P (further b y rest)
by-further P true y rest p q = q
by-further P false y rest p q = p

pub each-keeps-until : {A : Type 0} (P : A → Type 0) (on : A → Bool) (f : ℕ → A → A) (count : ℕ) → ((i : ℕ) (x : A) → i < count → P x → P (f i x))
    → (n i : ℕ) (x : A) → i + n ≡ count → P x → P (each_of on f n i x)
unfolding each_of
each-keeps-until P on f count keep zero i x e p = p
each-keeps-until P on f count keep (suc n) i x e p =
    let h = keep i x (omega arith) p in
    by-further P (on (f i x)) (f i x) (each_of on f n (i + 1)) h (each-keeps-until P on f count keep n (i + 1) (f i x) (omega arith) h)

-- and so does one with no test
pub each_keeps : {A : Type 0} (P : A → Type 0) (f : ℕ → A → A) (count : ℕ) → ((i : ℕ) (x : A) → i < count → P x → P (f i x))
    → (n i : ℕ) (x : A) → i + n ≡ count → P x → P (each_of always f n i x)
each_keeps P f count = each-keeps-until P always f count

-- equal turns make equal loops
pub each_same : {A : Type 0} (f g : ℕ → A → A) → ((i : ℕ) (x : A) → f i x ≡ g i x) → (n i : ℕ) (x : A) → each_of always f n i x ≡ each_of always g n i x
unfolding each_of
each_same f g h zero i x = refl
each_same f g h (suc n) i x = each_same f g h n (i + 1) (f i x) ∙ ap (each_of always g n (i + 1)) (h i x)
