-- The order of positions, and how many are up to a number. Assumes nothing.
use Prim.Native.Nat.{ℕ, suc, ◌+◌, ◌<◌, ◌≤◌}
use mathlib.Core.Path.{◌≡◌, refl}
use mathlib.Core.List.{List, [], ◌∷◌, ◌++◌}
use mathlib.Core.Bool.{Bool, true, false, cond, ◌&&◌}
use native.Mathlib.Omega.{arith}
use native.Mathlib.Numerals.{one-add}
use borrow.Author.Tests.{ltb-true, leb-true, leb-false, lt-ltb, le-leb}
use lib.Dec.{ltb, leb}
use lib.ListN.{length, drop}
use Rattle.positions.specs.Positions.{rises_of, last_of, up_to_of}

-- what a list that rises says of its first position and of the rest
record Head (lo x : ℕ) (xs : List ℕ) (hi : ℕ) : Type 0 where
  above : lo < x
  within : x ≤ hi
  rest : rises_of x xs hi ≡ true

head : (lo x : ℕ) (xs : List ℕ) (hi : ℕ) → rises_of lo (x ∷ xs) hi ≡ true → Head lo x xs hi
unfolding rises_of
head lo x xs hi h = go (ltb lo x) (leb x hi) refl refl h
  where
    go : (b d : Bool) → ltb lo x ≡ b → leb x hi ≡ d → (b && (d && rises_of x xs hi)) ≡ true → Head lo x xs hi
    go true true eb ed e = record { above = ltb-true lo x eb; within = leb-true x hi ed; rest = e }
    go true false eb ed e = absurd (let z : ◌≡◌ {A = ℕ} 0 1 = cc in omega arith)
    go false d eb ed e = absurd (let z : ◌≡◌ {A = ℕ} 0 1 = cc in omega arith)

-- .. and the way back
pub rises-cons : (lo x : ℕ) (xs : List ℕ) (hi : ℕ) → lo < x → x ≤ hi → rises_of x xs hi ≡ true → rises_of lo (x ∷ xs) hi ≡ true
unfolding rises_of
rises-cons lo x xs hi h₁ h₂ h₃ = rw (lt-ltb lo x h₁, le-leb x hi h₂, h₃)

-- wider bounds
pub rises-within : (lo lo' : ℕ) (xs : List ℕ) (hi hi' : ℕ) → lo' ≤ lo → hi ≤ hi' → rises_of lo xs hi ≡ true → rises_of lo' xs hi' ≡ true
unfolding rises_of
rises-within lo lo' [] hi hi' p q h = refl
rises-within lo lo' (x ∷ xs) hi hi' p q h =
    let t = head lo x xs hi h in
    rises-cons lo' x xs hi' (omega (arith, t.above)) (omega (arith, t.within)) (rises-within x x xs hi hi' (omega arith) q t.rest)

-- none is above `hi`
pub rises-last : (lo : ℕ) (xs : List ℕ) (hi : ℕ) → lo ≤ hi → rises_of lo xs hi ≡ true → last_of lo xs ≤ hi
rises-last lo [] hi p h = p
rises-last lo (x ∷ xs) hi p h = let t = head lo x xs hi h in rises-last x xs hi t.within t.rest

-- one more behind the last
pub rises-append : (lo : ℕ) (xs : List ℕ) (hi v hi' : ℕ) → rises_of lo xs hi ≡ true → last_of lo xs < v → v ≤ hi' → hi ≤ hi'
    → rises_of lo (xs ++ (v ∷ [])) hi' ≡ true
unfolding rises_of
rises-append lo [] hi v hi' h p q r = rw (lt-ltb lo v p, le-leb v hi' q)
rises-append lo (x ∷ xs) hi v hi' h p q r =
    let t = head lo x xs hi h in
    rises-cons lo x (xs ++ (v ∷ [])) hi' t.above (omega (arith, t.within)) (rises-append x xs hi v hi' t.rest p q r)

-- what holds of both outcomes of the count's first test holds of it
up-to-cases : (c x : ℕ) (xs : List ℕ) (P : ℕ → Type 0) → (x ≤ c → P (suc (up_to_of c xs))) → (c < x → P 0) → P (up_to_of c (x ∷ xs))
unfolding up_to_of
up-to-cases c x xs P more stop = go (leb x c) refl
  where
    go : (b : Bool) → leb x c ≡ b → P (cond b (1 + up_to_of c xs) 0)
    go true e = rw one-add (more (leb-true x c e))
    go false e = stop (leb-false x c e)

pub up-to-bound : (c : ℕ) (xs : List ℕ) → up_to_of c xs ≤ length xs
unfolding up_to_of
up-to-bound c [] = omega arith
up-to-bound c (x ∷ xs) =
    let h = up-to-bound c xs in
    up-to-cases c x xs (λ k. k ≤ suc (length xs)) (λ _. omega arith) (λ _. omega arith)

-- those left, when the ones up to `c` are gone, rise from above `c`
pub rises-drop : (c lo : ℕ) (xs : List ℕ) (hi : ℕ) → rises_of lo xs hi ≡ true → rises_of c (drop (up_to_of c xs) xs) hi ≡ true
unfolding up_to_of rises_of
rises-drop c lo [] hi h = refl
rises-drop c lo (x ∷ xs) hi h =
    let t = head lo x xs hi h in
    up-to-cases c x xs (λ k. rises_of c (drop k (x ∷ xs)) hi ≡ true) (λ _. rises-drop c x xs hi t.rest) (λ p. rises-cons c x xs hi p t.within t.rest)
