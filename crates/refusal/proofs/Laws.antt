-- A number tells the refusal: no two are alike, and 0, which says that a call was carried out, is none of them.
use Rattle.std.specs.Prelude.{◌≡◌, ◌<◌, ℕ, ⊤, Result, Ok, Err, Option, Some, None, cond, eqb}
use native.Mathlib.Omega.{arith}
use mathlib.Core.Path.{refl, sym, ap, ◌∙◌}
use mathlib.Core.Logic.{◌≢◌}
use Rattle.refusal.specs.declared.Refusal.{Refusal}
use Rattle.refusal.specs.declared.Refusal.TheVariants.{HostClosed, ShortState, WrongMark, Microphone, Format, ListLength, ListOrder, Stream, State, LentSpace, OddFrames, Latency, Wav, ShortSpace, Crowded, Reversed}
use Rattle.refusal.specs.Refusals.{number_of, outcome_of}

-- the refusal that a number tells
abbrev pub told_by : ℕ → Option Refusal
told_by n =
    cond (eqb n 1) (Some HostClosed) (
    cond (eqb n 2) (Some ShortState) (
    cond (eqb n 3) (Some WrongMark) (
    cond (eqb n 4) (Some Microphone) (
    cond (eqb n 5) (Some Format) (
    cond (eqb n 6) (Some ListLength) (
    cond (eqb n 7) (Some ListOrder) (
    cond (eqb n 8) (Some Stream) (
    cond (eqb n 9) (Some State) (
    cond (eqb n 10) (Some LentSpace) (
    cond (eqb n 11) (Some OddFrames) (
    cond (eqb n 12) (Some Latency) (
    cond (eqb n 13) (Some Wav) (
    cond (eqb n 14) (Some ShortSpace) (
    cond (eqb n 20) (Some Crowded) (
    cond (eqb n 21) (Some Reversed) (
    None))))))))))))))))

pub told : (r : Refusal) → told_by (number_of r) ≡ Some r
told HostClosed = refl
told ShortState = refl
told WrongMark = refl
told Microphone = refl
told Format = refl
told ListLength = refl
told ListOrder = refl
told Stream = refl
told State = refl
told LentSpace = refl
told OddFrames = refl
told Latency = refl
told Wav = refl
told ShortSpace = refl
told Crowded = refl
told Reversed = refl

pub told-none : told_by 0 ≡ None
told-none = refl

-- a refusal's number is not 0
pub number-positive : (r : Refusal) → 0 < number_of r
number-positive HostClosed = omega arith
number-positive ShortState = omega arith
number-positive WrongMark = omega arith
number-positive Microphone = omega arith
number-positive Format = omega arith
number-positive ListLength = omega arith
number-positive ListOrder = omega arith
number-positive Stream = omega arith
number-positive State = omega arith
number-positive LentSpace = omega arith
number-positive OddFrames = omega arith
number-positive Latency = omega arith
number-positive Wav = omega arith
number-positive ShortSpace = omega arith
number-positive Crowded = omega arith
number-positive Reversed = omega arith

-- what an outcome says of a number that it must give: `n` is told of the refusal, or 0 of none
module _ (o : Result ⊤ Refusal) (c : ℕ) (e : outcome_of o ≡ c) where
  pub refused : (r : Refusal) → o ≡ Err r → (n : ℕ) → n ≡ number_of r → n ≡ c
  refused r is n en = en ∙ sym (ap outcome_of is) ∙ e

  pub refused-none : (u : ⊤) → o ≡ Ok u → 0 ≡ c
  refused-none u is = sym (ap outcome_of is) ∙ e

pub number-nonzero : (r : Refusal) (n : ℕ) → n ≡ number_of r → n ≢ 0
number-nonzero r n e z = absurd (omega (arith, number-positive r, e, z))
