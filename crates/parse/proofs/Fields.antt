-- What holds where a field's or a run's bytes are there, and where the state ends before, holds of what follows it. Assumes nothing.
use Prim.Native.Nat.{ℕ, ◌+◌, ◌≤◌}
use mathlib.Core.Path.{◌≡◌, refl, sym, ap, ◌∙◌}
use native.Mathlib.Omega.{arith}
use mathlib.Core.List.{List}
use borrow.Author.Tests.{leb-true, le-leb}
use lib.ListN.{length}
use lib.Dec.{leb}
use Rattle.std.specs.Prelude.{⊤, Result, Ok, Err}
use Rattle.refusal.specs.declared.Refusal.{Refusal}
use Rattle.refusal.specs.declared.Refusal.TheVariants.{ShortState}
use Rattle.refusal.specs.Refusals.{outcome_of, number_of}
use Rattle.parse.specs.States.{run_end}
use Rattle.word.specs.Place.{word_at}
use Rattle.word.proofs.Choices.{by_cond}
use Rattle.reader.specs.declared.Took.{Took}
use Rattle.reader.specs.Fields.{field_of, run_of, then_of}

module _ (s : List ℕ) (at n : ℕ) {A : Type 0} (P : A → Type 0) (short : A) (rest : ℕ → ℕ → A) where
  pub run-cases : (at + n ≤ length s → P (rest at (at + n))) → P short → P (then_of (run_of s at n) short rest)
  unfolding then_of run_of
  run-cases there cut =
      by_cond (λ (t : Took). P (then_of t short rest)) (leb (at + n) (length s)) _ _ (λ e. there (leb-true (at + n) (length s) e)) (λ e. cut)

  pub field-cases : (at + n ≤ length s → P (rest (word_at n at s) (at + n))) → P short → P (then_of (field_of s at n) short rest)
  unfolding then_of field_of
  field-cases there cut =
      by_cond (λ (t : Took). P (then_of t short rest)) (leb (at + n) (length s)) _ _ (λ e. there (leb-true (at + n) (length s) e)) (λ e. cut)

-- the same run, followed by two readings
pub run-both : (s : List ℕ) (at n : ℕ) {A : Type 0} (P : A → A → Type 0) (short : A) (rest : ℕ → ℕ → A) (other : ℕ → ℕ → A)
    → (at + n ≤ length s → P (rest at (at + n)) (other at (at + n))) → P short short → P (then_of (run_of s at n) short rest) (then_of (run_of s at n) short other)
unfolding then_of run_of
run-both s at n P short rest other there cut =
    by_cond (λ (t : Took). P (then_of t short rest) (then_of t short other)) (leb (at + n) (length s)) _ _ (λ e. there (leb-true (at + n) (length s) e)) (λ e. cut)

-- a number of an outcome, and its refusal
abbrev is_err : Result ℕ Refusal → ℕ
is_err (Ok _) = 0
is_err (Err _) = 1

abbrev value_of : Result ℕ Refusal → ℕ
value_of (Ok v) = v
value_of (Err _) = 0

abbrev refusal_of : Result ℕ Refusal → Refusal
refusal_of (Ok _) = ShortState
refusal_of (Err r) = r

-- what the code found of a run: where it ends, with what follows it, or that the state ends before
module _ (s : List ℕ) (at n : ℕ) {o : Result ℕ Refusal} (e : o ≡ run_end s at n) where
  pub run-room : {next : ℕ} → o ≡ Ok next → (at + n ≤ length s) × (next ≡ at + n)
  unfolding then_of run_of
  run-room {next} h =
      by_cond (λ (t : Took). then_of t (Err ShortState) (λ start m. Ok m) ≡ Ok next → (at + n ≤ length s) × (next ≡ at + n)) (leb (at + n) (length s)) _ _
      (λ b q. (leb-true (at + n) (length s) b, sym (ap value_of q))) (λ b q. absurd (omega (arith, ap is_err q))) (sym e ∙ h)

  module _ {A : Type 0} (short : A) (rest : ℕ → ℕ → A) where
    pub run-passed : {next : ℕ} → o ≡ Ok next → {answer : A} → answer ≡ rest at next → answer ≡ then_of (run_of s at n) short rest
    unfolding then_of run_of
    run-passed {next} h {answer} d =
        let room = run-room h in
        d ∙ ap (rest at) room.1 ∙ rw (le-leb (at + n) (length s) room.0)

    pub run-cut : {r : Refusal} → o ≡ Err r → (ShortState ≡ r) × (short ≡ then_of (run_of s at n) short rest)
    unfolding then_of run_of
    run-cut {r} h =
        by_cond (λ (t : Took). then_of t (Err ShortState) (λ start m. Ok m) ≡ Err r → (ShortState ≡ r) × (short ≡ then_of t short rest)) (leb (at + n) (length s)) _ _
        (λ b q. absurd (omega (arith, ap is_err q))) (λ b q. (ap refusal_of q, refl)) (sym e ∙ h)

  pub run-refused : {r : Refusal} → o ≡ Err r → {out : Result ⊤ Refusal} → out ≡ Err r → (rest : ℕ → ℕ → ℕ) → outcome_of out ≡ then_of (run_of s at n) 2 rest
  run-refused {r} h same rest = let cut = run-cut 2 rest h in ap outcome_of same ∙ sym (ap number_of cut.0) ∙ cut.1
