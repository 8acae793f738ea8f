-- The separate call beside `restore` (request T-09): wherever `restore` does not give 20 both do the same, the separate call never gives 20, and what it puts in force is not crowded and
-- differs from the state in emptied lists alone. Assumes nothing.
use Prim.Native.Nat.{ℕ, zero, suc, ◌+◌, ◌≤◌, ◌<◌}
use mathlib.Core.Path.{◌≡◌, refl, sym, ap}
use mathlib.Core.Bool.{Bool, true, false, cond, true≢false}
use mathlib.Core.List.{List}
use mathlib.Core.Logic.{⊎_elim}
use native.Mathlib.Omega.{arith}
use borrow.Author.Tests.{eqb-true}
use lib.Dec.{eqb}
use Rattle.word.specs.Each.{each_of, always}
use Rattle.word.proofs.Choices.{by_cond, by_both}
use Rattle.stream.specs.Streams.{uncrowded_of}
use Rattle.stream.specs.Box.{streams}
use Rattle.host.specs.declared.Host.{Host}
use Rattle.device.specs.declared.Hda.{Hda}
use Rattle.device.specs.Machines.{check_of, answer_of}
use Rattle.record.proofs.Places.{row_same}
use Rattle.parse.specs.States.{state_number}
use Rattle.parse.proofs.Theorems.{Crowds, crowded-only, numbers, state-same, taken-streams}
use Rattle.restore.specs.Restores.{refused_from, opening_number, stream_of, list_of, restored_stream, put_positions, restored_lists, restored_device, Restored, accepted_of, number_of, restore_step, restore_of}
use Rattle.restore.proofs.Theorems.{number-taken}

-- ---- 20 is given for a crowded list alone, and not by the separate call
pub crowded-refused : (strict : Bool) (s : List ℕ) (d : Hda) (h : Host) → number_of strict s d h ≡ 20 → Crowds strict s
unfolding opening_number
crowded-refused strict s d h =
    let n = state_number strict s d.microphone d.config in
    by_cond (λ (y : ℕ). y ≡ 20 → Crowds strict s) (eqb n 0) (opening_number s d.microphone h) n
    (λ _. by_cond (λ (y : ℕ). y ≡ 20 → Crowds strict s) (refused_from streams 0 s d.microphone h) 1 0 (λ _ e. absurd (omega (arith, e))) (λ _ e. absurd (omega (arith, e))))
    (λ _. crowded-only (numbers strict s d.microphone d.config))

pub never-crowded : (s : List ℕ) (d : Hda) (h : Host) → number_of false s d h ≡ 20 → ⊥
never-crowded s d h e = true≢false (sym (crowded-refused false s d h e).refused)

-- ---- every other refusal is restore's
pub other-refusals : (s : List ℕ) (d : Hda) (h : Host) → (number_of true s d h ≡ 20 → ⊥) → number_of false s d h ≡ number_of true s d h
other-refusals s d h none =
    let opening = opening_number s d.microphone h in
    ⊎_elim (λ (e : state_number true s d.microphone d.config ≡ 20). absurd (none (rw e)))
    (λ (e : state_number true s d.microphone d.config ≡ state_number false s d.microphone d.config). ap (λ (n : ℕ). cond (eqb n 0) opening n) (sym e))
    (state-same s d.microphone d.config)

-- ---- and a state that restore takes is put in force the same
module _ (s : List ℕ) (free : (i : ℕ) → i < streams → uncrowded_of (stream_of s i) (list_of s i) ≡ true) where
  stream-same : (i : ℕ) → i < streams → restored_stream false s i ≡ restored_stream true s i
  stream-same i few = rw (free i few)

  puts-same : (n i : ℕ) (l : List ℕ) → i + n ≤ streams → each_of always (put_positions false s) n i l ≡ each_of always (put_positions true s) n i l
  unfolding each_of
  puts-same zero i l few = refl
  puts-same (suc n) i l few = rw (stream-same i (omega arith)) (puts-same n (i + 1) (put_positions true s i l) (omega arith))

  accepted-same : (d : Hda) (h : Host) (l : List ℕ) → accepted_of false s d h l ≡ accepted_of true s d h l
  unfolding restored_device restored_lists
  accepted-same d h l = rw (row_same (restored_stream false s) (restored_stream true s) streams stream-same streams 0 (omega arith), puts-same streams 0 l (omega arith))

module _ (s : List ℕ) (d : Hda) (h : Host) (l : List ℕ) where
  step_same : ((restore_step true s d h l).answer.number ≡ 20 → ⊥) → restore_step false s d h l ≡ restore_step true s d h l
  unfolding restore_step answer_of
  step_same none =
      let n = number_of true s d h in
      let none_here : n ≡ 20 → ⊥ = λ e. none (rw e) in
      rw (other-refusals s d h none_here)
      (by_both (λ (x y : Restored). x ≡ y) (eqb n 0) (accepted_of false s d h l) _ (accepted_of true s d h l) _
      (λ e. accepted-same s (λ i few. ((taken-streams true s d.microphone d.config (number-taken true s d h (eqb-true n 0 e))).1 i few).uncrowded refl) d h l)
      (λ _. refl))

  pub restore_same : (q : ℕ) → ((restore_of true s d h l q).answer.number ≡ 20 → ⊥) → restore_of false s d h l q ≡ restore_of true s d h l q
  unfolding restore_of
  restore_same q =
      let P : Restored → Restored → Type 0 = λ x y. (y.answer.number ≡ 20 → ⊥) → x ≡ y in
      by_both P (eqb (check_of d h l q) 0) (restore_step false s d h l) _ (restore_step true s d h l) _ (λ _. step_same) (λ _ _. refl)
