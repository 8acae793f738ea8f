-- What a field and a run are where the state has their bytes and where it ends before, and which of the two an answer tells. For callers
-- that read one after another: proofs/Then. Assumes nothing.
use Rattle.std.specs.Prelude.{Option, None, Some}
use Prim.Native.Nat.{ℕ, ◌+◌, ◌^◌, ◌<◌, ◌≤◌}
use mathlib.Core.Path.{◌≡◌, refl, sym, subst}
use mathlib.Core.Bool.{Bool, true, false, cond}
use mathlib.Core.List.{List}
use borrow.Author.Tests.{leb-true, leb-false, le-leb, lt-leb}
use lib.ListN.{length}
use lib.Dec.{leb}
use Rattle.word.specs.Value.{Bytes}
use Rattle.word.specs.Place.{word_at}
use Rattle.word.proofs.Place.{word_bound}
use Rattle.reader.specs.declared.Took.{Took}
use Rattle.reader.specs.Fields.{took_of, field_of, run_of, on_got}

module _ (s : List ℕ) (at n : ℕ) where
  pub field-there : at + n ≤ length s → field_of s at n ≡ took_of (Some (word_at n at s)) (at + n)
  unfolding field_of
  field-there h = rw (le-leb (at + n) (length s) h)

  pub field_cut : length s < at + n → field_of s at n ≡ took_of None at
  unfolding field_of
  field_cut h = rw (lt-leb (at + n) (length s) h)

  pub run-there : at + n ≤ length s → run_of s at n ≡ took_of (Some at) (at + n)
  unfolding run_of
  run-there h = rw (le-leb (at + n) (length s) h)

  pub run-cut : length s < at + n → run_of s at n ≡ took_of None at
  unfolding run_of
  run-cut h = rw (lt-leb (at + n) (length s) h)

-- what an answer tells of the test that made it
abbrev Told : Bool → ℕ → ℕ → ℕ → ℕ → Option ℕ → Type 0
Told whole number end at next got = on_got got ((whole ≡ false) × (next ≡ at)) (λ v. (whole ≡ true) × (v ≡ number) × (next ≡ end))

told : (whole : Bool) (number end at : ℕ) (t : Took) (g : Option ℕ) → t ≡ cond whole (took_of (Some number) end) (took_of None at) → t.got ≡ g
    → Told whole number end at t.next g
told true number end at t g e h = subst (Told true number end at t.next) h (subst (λ (u : Took). Told true number end at u.next u.got) (sym e) (refl, refl, refl))
told false number end at t g e h = subst (Told false number end at t.next) h (subst (λ (u : Took). Told false number end at u.next u.got) (sym e) (refl, refl))

-- back from an answer t: a number where all the bytes are there, `None` where the state ends before
module _ (s : List ℕ) (at n : ℕ) (t : Took) where
  module _ (e : t ≡ field_of s at n) where
    pub field-value : (v : ℕ) → t.got ≡ Some v → (at + n ≤ length s) × (v ≡ word_at n at s) × (t.next ≡ at + n)
    unfolding field_of
    field-value v g =
        let h = told (leb (at + n) (length s)) (word_at n at s) (at + n) at t (Some v) e g in
        (leb-true (at + n) (length s) h.0, h.1, h.2)

    pub field-short : t.got ≡ None → (length s < at + n) × (t.next ≡ at)
    unfolding field_of
    field-short g =
        let h = told (leb (at + n) (length s)) (word_at n at s) (at + n) at t None e g in
        (leb-false (at + n) (length s) h.0, h.1)

    -- what a field of n bytes may be
    pub field_bound : Bytes s → (v : ℕ) → t.got ≡ Some v → v < 256 ^ n
    field_bound bytes v g = let h = field-value v g in rw h.1 (word_bound n at s h.0 bytes)

  module _ (e : t ≡ run_of s at n) where
    pub run_value : (v : ℕ) → t.got ≡ Some v → (at + n ≤ length s) × (v ≡ at) × (t.next ≡ at + n)
    unfolding run_of
    run_value v g =
        let h = told (leb (at + n) (length s)) at (at + n) at t (Some v) e g in
        (leb-true (at + n) (length s) h.0, h.1, h.2)

    pub run_short : t.got ≡ None → (length s < at + n) × (t.next ≡ at)
    unfolding run_of
    run_short g =
        let h = told (leb (at + n) (length s)) at (at + n) at t None e g in
        (leb-false (at + n) (length s) h.0, h.1)
