-- A test of every place, computed once. Assumes nothing.
use Prim.Native.Nat.{ℕ, zero, suc, ◌<◌}
use mathlib.Core.Path.{◌≡◌}
use mathlib.Core.Bool.{Bool, true, false, cond, ◌||◌}
use mathlib.Core.List.{List, [], ◌∷◌}
use native.Mathlib.Omega.{arith}
use borrow.Author.Tests.{eqb-false}
use lib.Dec.{eqb}
use Rattle.word.proofs.Choices.{by-test, by_value, neither}

-- the places below `n` at which it fails
abbrev pub failing : (ℕ → Bool) → ℕ → List ℕ
failing test zero = []
failing test (suc n) = cond (test n) (failing test n) (n ∷ failing test n)

abbrev pub among : ℕ → List ℕ → Bool
among a [] = false
among a (x ∷ l) = eqb a x || among a l

-- it holds at every other place
pub holds : (test : ℕ → Bool) (n a : ℕ) → a < n → among a (failing test n) ≡ false → test a ≡ true
holds test zero a h = absurd (omega arith)
holds test (suc n) a h =
    by-test (test n) (λ t. rw t (λ m. by_value a n (λ e. rw e t) λ f. let d = eqb-false a n f in holds test n a (omega arith) m)) λ t. rw t (λ m.
    let k = neither (eqb a n) (among a (failing test n)) m in
    let d = eqb-false a n k.0 in
    holds test n a (omega arith) k.1)
