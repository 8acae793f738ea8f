-- Booleans and choices: what a test says whose outcome is known, and what holds of a choice by a test. Assumes nothing.
use Prim.Native.Nat.{ℕ, zero, suc, ◌+◌, ◌%◌, ◌≤◌, ◌<◌}
use mathlib.Core.Path.{◌≡◌, refl, sym, ap, ◌∙◌, subst}
use mathlib.Core.Bool.{Bool, true, false, cond, not, ◌&&◌, ◌||◌, and-eq-true_iff, true≢false}
use native.Mathlib.Omega.{arith}
use borrow.Author.Tests.{eqb-true, eqb-false, leb-true, ltb-true}
use lib.Dec.{eqb, leb, ltb, leb-suc-suc, leb-suc-zero, eqb-suc-zero}

-- ---- tests

-- a test holds or fails
pub by-test : {A : Type 0} (t : Bool) → (t ≡ true → A) → (t ≡ false → A) → A
by-test true f g = f refl
by-test false f g = g refl

-- one of two tests holds, where not both fail
pub by-either : {A : Type 0} (a b : Bool) → (a ≡ true → A) → (b ≡ true → A) → a || b ≡ true → A
by-either true b f g h = f refl
by-either false b f g h = g h

-- two tests that fail together
pub neither : (a b : Bool) → a || b ≡ false → (a ≡ false) × (b ≡ false)
neither true b h = absurd (true≢false h)
neither false b h = (refl, h)

-- two tests that hold together: both, the first, the second
pub both : (a b : Bool) → a && b ≡ true → (a ≡ true) × (b ≡ true)
both a b = (and-eq-true_iff a b).0

pub left : (a b : Bool) → a && b ≡ true → a ≡ true
left a b h = (both a b h).0

pub right : (a b : Bool) → a && b ≡ true → b ≡ true
right a b h = (both a b h).1

-- ---- tests of numbers

-- a number is `k` or not
pub by_value : {A : Type 0} (n k : ℕ) → (n ≡ k → A) → (eqb n k ≡ false → A) → A
by_value n k f g = by-test (eqb n k) (λ t. f (eqb-true n k t)) g

-- a bit is 1 or 0
pub by_bit : {A : Type 0} (n : ℕ) → (n % 2 ≡ 1 → A) → (n % 2 ≡ 0 → A) → A
by_bit n f g = by_value (n % 2) 1 f λ t. let d = eqb-false (n % 2) 1 t in g (omega arith)

-- `P` of the `count` numbers from `first` on
abbrev pub Each : (ℕ → Type 0) → ℕ → ℕ → Type 0
Each P first zero = Unit {0}
Each P first (suc count) = P first × Each P (suc first) count

-- .. and so of each in that range
pub by-range : (P : ℕ → Type 0) (first count : ℕ) → Each P first count → (n : ℕ) → first ≤ n → n < first + count → P n
by-range P first zero ps n lo hi = absurd (omega arith)
by-range P first (suc count) ps n lo hi =
    by_value n first (λ e. subst P (sym e) ps.0) λ t.
    let d = eqb-false n first t in by-range P (suc first) count ps.1 n (omega arith) (omega arith)

-- .. that is tested
pub within : (P : ℕ → Type 0) (first count n : ℕ) → leb first n && ltb n (first + count) ≡ true → Each P first count → P n
within P first count n t ps =
    let k = both (leb first n) (ltb n (first + count)) t in
    by-range P first count ps n (leb-true first n k.0) (ltb-true n (first + count) k.1)

-- only 0 is below 1
pub below_one : (n : ℕ) → ltb n 1 ≡ eqb n 0
below_one zero = refl
below_one (suc n) = leb-suc-suc (suc n) 0 ∙ leb-suc-zero n ∙ sym (eqb-suc-zero n)

-- ---- choices

-- what holds of both outcomes, each under its test, holds of the choice
pub by_cond : {A : Type 0} (P : A → Type 0) (t : Bool) (x y : A) → (t ≡ true → P x) → (t ≡ false → P y) → P (cond t x y)
by_cond P true x y f g = f refl
by_cond P false x y f g = g refl

-- .. where the second holds whatever the test says
pub by_first : {A : Type 0} (P : A → Type 0) (t : Bool) {x y : A} → (t ≡ true → P x) → P y → P (cond t x y)
by_first P t f q = by_cond P t _ _ f (λ _. q)

-- .. and where both do
pub chosen : {A : Type 0} (P : A → Type 0) (t : Bool) {x y : A} → P x → P y → P (cond t x y)
chosen P t p q = by_cond P t _ _ (λ _. p) (λ _. q)

-- what holds of both pairs of outcomes holds of two choices by one test
pub by_both : {A B : Type 0} (P : A → B → Type 0) (t : Bool) (x y : A) (u v : B) → (t ≡ true → P x u) → (t ≡ false → P y v) → P (cond t x y) (cond t u v)
by_both P true x y u v f g = f refl
by_both P false x y u v f g = g refl

-- .. and where the second goes by the test's opposite
pub by-not : {A B : Type 0} (P : A → B → Type 0) (t : Bool) (x y : A) (u v : B) → (t ≡ true → P x v) → (t ≡ false → P y u) → P (cond t x y) (cond (not t) u v)
by-not P true x y u v f g = f refl
by-not P false x y u v f g = g refl

-- the outcome that a test chose: the code's test `t` came out, and is the definition's `b`
module _ {A : Type 0} (x y : A) {t b : Bool} where
  pub if-true : t ≡ true → t ≡ b → x ≡ cond b x y
  if-true h e = rw (← e, h)

  pub if-false : t ≡ false → t ≡ b → y ≡ cond b x y
  if-false h e = rw (← e, h)

-- a function of a choice is the choice of its values
pub cond_map : {A B : Type 0} (f : A → B) (t : Bool) (x y : A) → f (cond t x y) ≡ cond t (f x) (f y)
cond_map f true x y = refl
cond_map f false x y = refl

-- a choice of one outcome is that outcome
pub choice-same : {A : Type 0} (t : Bool) (x : A) → cond t x x ≡ x
choice-same true x = refl
choice-same false x = refl

-- a choice within a choice, of which one test fails
pub outside : (a b : Bool) → a && b ≡ false → {A : Type 0} (x y : A) → cond a (cond b x y) y ≡ y
outside true b h x y = ap (λ t. cond t x y) h
outside false b h x y = refl
