-- Choices of numbers: what a test that came out one way makes of them, and what a choice that gives 0 tells. Numbers are refusals, and 0 is none. Assumes
-- nothing.
use Prim.Native.Nat.{ℕ, ◌<◌}
use mathlib.Core.Path.{◌≡◌, sym, ap, ◌∙◌}
use mathlib.Core.Bool.{Bool, true, false, cond}
use native.Mathlib.Omega.{arith}
use borrow.Author.Tests.{eqb-true, eqb-false, ne_eqb}
use lib.Dec.{eqb}
use Rattle.word.proofs.Choices.{by_cond}
use Rattle.std.specs.Prelude.{⊤, Result, Ok, Err}
use Rattle.refusal.specs.declared.Refusal.{Refusal}
use Rattle.refusal.specs.Refusals.{outcome_of, number_of}
use Rattle.refusal.proofs.Laws.{number-nonzero}
use Rattle.format.specs.Format as format
use Rattle.format.specs.Format.{format_of}

-- a refusal with number `x` is handed on
pub refused-by : {x : ℕ} {r : Refusal} → x ≡ number_of r → {out : Result ⊤ Refusal} → out ≡ Err r → (rest : ℕ) → outcome_of out ≡ cond (eqb x 0) rest x
refused-by {x} {r} e same rest = ap outcome_of same ∙ sym e ∙ rw (ne_eqb x 0 (number-nonzero r x e))

-- one test after the other, the first of which gave `o`: its refusal is handed on, and where it passed the next one decides
module _ {x : ℕ} {o : Result ⊤ Refusal} (e : outcome_of o ≡ x) where
  pub refused : {r : Refusal} → o ≡ Err r → {out : Result ⊤ Refusal} → out ≡ Err r → (rest : ℕ) → outcome_of out ≡ cond (eqb x 0) rest x
  refused h same rest = refused-by (sym e ∙ ap outcome_of h) same rest

  pub passed : {u : ⊤} → o ≡ Ok u → {answer rest : ℕ} → answer ≡ rest → answer ≡ cond (eqb x 0) rest x
  passed h d = d ∙ rw (← e, h)

-- and back: where the answer is 0
pub both-pass : (x rest : ℕ) → cond (eqb x 0) rest x ≡ 0 → (x ≡ 0) × (rest ≡ 0)
both-pass x rest =
    by_cond (λ (y : ℕ). y ≡ 0 → (x ≡ 0) × (rest ≡ 0)) (eqb x 0) rest x (λ e z. (eqb-true x 0 e, z)) (λ e z. absurd (eqb-false x 0 e z))

module _ (b : Bool) (rest number : ℕ) (refuses : 0 < number) where
  pub holds : cond b rest number ≡ 0 → (b ≡ true) × (rest ≡ 0)
  holds = by_cond (λ (y : ℕ). y ≡ 0 → (b ≡ true) × (rest ≡ 0)) b rest number (λ e z. (e, z)) (λ e z. absurd (omega arith))

  pub fails : cond b number rest ≡ 0 → (b ≡ false) × (rest ≡ 0)
  fails = by_cond (λ (y : ℕ). y ≡ 0 → (b ≡ false) × (rest ≡ 0)) b number rest (λ e z. absurd (omega arith)) (λ e z. (e, z))

-- a format word's outcome, the word being `x`
pub decoded : {number w x : ℕ} → number ≡ format.number_of (format_of w) → w ≡ x → number ≡ format.number_of (format_of x)
decoded e h = e ∙ ap (λ (w : ℕ). format.number_of (format_of w)) h
