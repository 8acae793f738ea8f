-- A stream's part of a state: what the code's tests make of it, what a stream that is taken tells, and the loop over the streams. Assumes nothing.
use Prim.Native.Nat.{ℕ, zero, suc, ◌+◌, ◌-◌, ◌*◌, ◌/◌, ◌≤◌, ◌<◌}
use mathlib.Core.Path.{◌≡◌, refl, sym, ap, subst, ◌∙◌}
use mathlib.Core.Bool.{Bool, true, false, cond, ◌&&◌, not-not}
use mathlib.Core.List.{List}
use native.Mathlib.Omega.{arith}
use native.Mathlib.Numerals.{add-one}
use borrow.Author.Tests.{ltb-false, le-ltb, le-leb, eqb-true, eqb-false, ne_eqb}
use lib.Bits.{bit_and}
use lib.ListN.{length, take, drop, length-drop}
use lib.Seq.{take_all}
use lib.Dec.{eqb, lit<}
use Rattle.std.specs.Prelude.{⊤, Result, Ok, Err}
use Rattle.refusal.specs.declared.Refusal.{Refusal}
use Rattle.refusal.specs.Refusals.{outcome_of, number_of}
use Rattle.refusal.proofs.Laws.{number-nonzero}
use Rattle.word.specs.Place.{word_at}
use Rattle.word.specs.Each.{each_of, further}
use Rattle.word.proofs.Choices.{if-true, if-false}
use Rattle.word.proofs.Each.{each_step, each-stop}
use Rattle.format.specs.Format as format
use Rattle.format.specs.Format.{format_of}
use Rattle.positions.specs.Positions.{positions_of, rises_of}
use Rattle.stream.specs.declared.Stream.{Stream}
use Rattle.stream.specs.Streams.{places, valid_of, uncrowded_of}
use Rattle.registers.specs.Places.{ctl, fmt, byte_at}
use Rattle.record.specs.Layout.{numbers_size}
use Rattle.record.specs.Loads.{stream_at}
use Rattle.parse.specs.States.{Step, stepped_by, list_number, format_number, counts_number, crowd_number, stream_number, step_out, stepped_of, step_at, goes_on, place_of}
use Rattle.parse.proofs.Choices.{both-pass, holds, fails}
use Rattle.parse.proofs.Fields.{run-cases}

-- a list whose count is within both limits: its order decides. The code reads it in the part of the state from `at` to the end
module _ (s : List ℕ) (t : Stream) (at : ℕ) (few : t.pending ≤ places) (room : t.pending ≤ (length s - at) / 8) {rises : Bool}
    (e : rises ≡ rises_of t.consumed (positions_of t.pending (take (length s - at) (drop at s))) t.submitted) where
  list_same : cond rises 0 7 ≡ list_number s t at
  unfolding list_number
  list_same =
      rw (
        le-ltb places t.pending few,
        le-ltb ((length s - at) / 8) t.pending room,
        e,
        take_all (length s - at) (drop at s) (omega (arith, length-drop at s)),
      )

  pub list-ordered : rises ≡ true → 0 ≡ list_number s t at
  list-ordered h = if-true 0 7 h refl ∙ list_same

  pub list-unordered : rises ≡ false → 7 ≡ list_number s t at
  list-unordered h = if-false 0 7 h refl ∙ list_same

-- the format register, read where the code computes its place
module _ (s : List ℕ) (i base : ℕ) {raw : ℕ} (place : base ≡ 390 + 32 * i) (e : raw ≡ word_at 2 (base + 18) s) where
  abbrev idle : Bool
  idle = eqb raw 0 && eqb (bit_and (byte_at s base) 2) 0

  format-same : cond idle 0 (format.number_of (format_of raw)) ≡ format_number s i
  unfolding format_number
  format-same =
      let word : 262 + fmt i ≡ base + 18 = omega (arith, place) in
      let control : 262 + ctl i ≡ base = omega (arith, place) in
      rw (word, control, ← e, not-not)

  pub format-idle : idle ≡ true → 0 ≡ format_number s i
  format-idle h = if-true 0 (format.number_of (format_of raw)) h refl ∙ format-same

  pub format-set : idle ≡ false → {number : ℕ} → number ≡ format.number_of (format_of raw) → number ≡ format_number s i
  format-set h d = d ∙ if-false 0 (format.number_of (format_of raw)) h refl ∙ format-same

-- a list that is there: its spacing decides. The code reads it in the part of the state from `at` to the end
module _ (s : List ℕ) (t : Stream) (at : ℕ) {free : Bool} (e : free ≡ uncrowded_of t (take (length s - at) (drop at s))) where
  crowd-same : cond free 0 20 ≡ crowd_number s t at
  unfolding crowd_number
  crowd-same = rw (e, take_all (length s - at) (drop at s) (omega (arith, length-drop at s)))

  pub crowd-free : free ≡ true → 0 ≡ crowd_number s t at
  crowd-free h = if-true 0 20 h refl ∙ crowd-same

  pub crowd-close : free ≡ false → 20 ≡ crowd_number s t at
  crowd-close h = if-false 0 20 h refl ∙ crowd-same

-- what the outcome of stream `u` makes of its step
abbrev Makes : Bool → List ℕ → ℕ → ℕ → ℕ → Result ℕ Refusal → Stream → Type 0
Makes strict s i at next out u = stepped_by at out ≡ stepped_of (stream_number strict s u next i) at (next + 8 * u.pending)

-- that of a stream with record `t`
module _ (strict : Bool) (s : List ℕ) (i at next : ℕ) {t : Stream} {o : Result ⊤ Refusal} (loaded : t ≡ stream_at at s) (e : outcome_of o ≡ stream_number strict s t next i) where
  pub step-refused : {r : Refusal} → o ≡ Err r → {out : Result ℕ Refusal} → out ≡ Err r → Makes strict s i at next out (stream_at at s)
  step-refused {r} h {out} same =
      let told = sym e ∙ ap outcome_of h in
      subst (Makes strict s i at next out) loaded (ap (stepped_by at) same ∙ rw (told, ne_eqb (number_of r) 0 (number-nonzero r (number_of r) refl)))

  pub step-passed : {u : ⊤} → o ≡ Ok u → Makes strict s i at next (Ok (next + 8 * t.pending)) (stream_at at s)
  step-passed h = subst (Makes strict s i at next (Ok (next + 8 * t.pending))) loaded (rw (sym e ∙ ap outcome_of h))

-- what a stream that is taken tells
pub record Listed (s : List ℕ) (t : Stream) (at : ℕ) : Type 0 where
  pub count : t.pending ≤ places
  pub room : t.pending ≤ (length s - at) / 8
  pub order : rises_of t.consumed (positions_of t.pending (drop at s)) t.submitted ≡ true

module _ (s : List ℕ) (t : Stream) (at : ℕ) where
  pub listed : list_number s t at ≡ 0 → Listed s t at
  unfolding list_number
  listed z =
      let count = fails _ _ 6 (lit< tt) z in
      let room = fails _ _ 6 (lit< tt) count.1 in
      record {
        count = ltb-false places t.pending count.0;
        room = ltb-false ((length s - at) / 8) t.pending room.0;
        order = (holds _ 0 7 (lit< tt) room.1).0;
      }

  module _ (i : ℕ) (strict : Bool) (z : stream_number strict s t at i ≡ 0) where
    abbrev last : ℕ
    last = cond (eqb (counts_number t) 0) (cond strict (crowd_number s t at) 0) (counts_number t)

    abbrev rest : ℕ
    rest = cond (eqb (format_number s i) 0) last (format_number s i)

    of-list : Listed s t at
    unfolding stream_number
    of-list = listed (both-pass (list_number s t at) rest z).0

    of-rest : (format_number s i ≡ 0) × (last ≡ 0)
    unfolding stream_number
    of-rest = both-pass (format_number s i) last (both-pass (list_number s t at) rest z).1

    of-last : (counts_number t ≡ 0) × (cond strict (crowd_number s t at) 0 ≡ 0)
    of-last = both-pass (counts_number t) (cond strict (crowd_number s t at) 0) of-rest.1

    pub stream-uncrowded : strict ≡ true → uncrowded_of t (drop at s) ≡ true
    unfolding crowd_number
    stream-uncrowded on = (holds _ 0 20 (lit< tt) (rw on at of-last.1)).0

    pub stream-fits : at ≤ length s → at + 8 * t.pending ≤ length s
    stream-fits h = omega (arith, of-list.room)

    pub stream-format : format_number s i ≡ 0
    stream-format = of-rest.0

    pub stream-valid : valid_of t (drop at s) ≡ true
    unfolding valid_of counts_number
    stream-valid = rw (le-leb t.pending places of-list.count, of-list.order) (holds _ 0 8 (lit< tt) of-last.0).0

-- a step that is taken: the stream's numbers and positions are there, and the next part begins behind them
pub record Taken (strict : Bool) (s : List ℕ) (i at : ℕ) : Type 0 where
  pub there : at + numbers_size ≤ length s
  pub number : stream_number strict s (stream_at at s) (at + numbers_size) i ≡ 0

module _ (strict : Bool) (s : List ℕ) (i at : ℕ) where
  abbrev behind : ℕ
  behind = at + (numbers_size + 8 * (stream_at at s).pending)

  abbrev Passed : Step → Type 0
  Passed w = w.number ≡ 0 → Taken strict s i at × (w ≡ step_out 0 behind)

  pub step-taken : Passed (step_at strict s i (step_out 0 at))
  unfolding step_at
  step-taken =
      let place : at + numbers_size + 8 * (stream_at at s).pending ≡ behind = omega arith in
      run-cases s at numbers_size Passed (step_out 2 at) _
      (λ there z. (record { there = there; number = z }, rw (z, place)))
      (λ z. absurd (omega (arith, z)))

-- the loop: a stream that is taken, and one that is not; `o` is what the code found of it
module _ (strict : Bool) (s : List ℕ) (count i n at : ℕ) (o : Result ℕ Refusal) (left : i + n ≡ count) (more : i < count)
    (e : stepped_by at o ≡ step_at strict s i (step_out 0 at)) where
  pub loop-stop : {r : Refusal} → o ≡ Err r → (each_of goes_on (step_at strict s) n i (step_out 0 at)).number ≡ number_of r
  loop-stop {r} h =
      ap (λ (w : Step). w.number)
      (each-stop goes_on (step_at strict s) count i n (step_out 0 at) (step_out (number_of r) at) left more (sym (ap (stepped_by at) h) ∙ e)
      (ne_eqb (number_of r) 0 (number-nonzero r (number_of r) refl)))

  module _ {next : ℕ} (h : o ≡ Ok next) where
    taken : step_out 0 next ≡ step_at strict s i (step_out 0 at)
    taken = sym (ap (stepped_by at) h) ∙ e

    pub loop-later : at ≤ next
    loop-later = let k = step-taken strict s i at (ap (λ (w : Step). w.number) (sym taken)) in omega (arith, ap (λ (w : Step). w.next) (taken ∙ k.1))

    pub loop-step : (k : ℕ) × (i + 1 + k ≡ count) × (each_of goes_on (step_at strict s) n i (step_out 0 at) ≡ each_of goes_on (step_at strict s) k (i + 1) (step_out 0 next))
    loop-step = each_step goes_on (step_at strict s) count i n (step_out 0 at) (step_out 0 next) left more taken refl

-- all streams taken: each stands behind the one before it
go_on : (b : Bool) (y : Step) (rest : Step → Step) → goes_on y ≡ b → (further b y rest).number ≡ 0 → (y.number ≡ 0) × (further b y rest ≡ rest y)
go_on true y rest e z = (eqb-true y.number 0 e, refl)
go_on false y rest e z = absurd (eqb-false y.number 0 e z)

pub place-next : (s : List ℕ) (i : ℕ) → place_of s (i + 1) ≡ place_of s i + (numbers_size + 8 * (stream_at (place_of s i) s).pending)
unfolding place_of
place-next s i = rw add-one

-- the first of some numbers, and the others
first-others : (P : ℕ → Type 0) (i n : ℕ) → P i → ((k : ℕ) → k < n → P (i + 1 + k)) → (k : ℕ) → k < suc n → P (i + k)
first-others P i n first others zero h = subst P (omega arith) first
first-others P i n first others (suc k) h = subst P (omega arith) (others k (omega arith))

abbrev pub Placed : Bool → List ℕ → ℕ → Type 0
Placed strict s i = Taken strict s i (place_of s i)

pub all-taken : (strict : Bool) (s : List ℕ) (n i : ℕ) → (each_of goes_on (step_at strict s) n i (step_out 0 (place_of s i))).number ≡ 0
    → ((each_of goes_on (step_at strict s) n i (step_out 0 (place_of s i))).next ≡ place_of s (i + n)) × ((k : ℕ) → k < n → Placed strict s (i + k))
unfolding each_of
all-taken strict s zero i z = (ap (place_of s) (omega arith), λ k h. absurd (omega arith))
all-taken strict s (suc n) i z =
    let y = step_at strict s i (step_out 0 (place_of s i)) in
    let on = go_on (goes_on y) y (each_of goes_on (step_at strict s) n (i + 1)) refl z in
    let t = step-taken strict s i (place_of s i) on.0 in
    let all = on.1 ∙ ap (each_of goes_on (step_at strict s) n (i + 1)) (t.1 ∙ ap (step_out 0) (sym (place-next s i))) in
    let others = all-taken strict s n (i + 1) (ap (λ (w : Step). w.number) (sym all) ∙ z) in
    (ap (λ (w : Step). w.next) all ∙ others.0 ∙ ap (place_of s) (omega arith), first-others (Placed strict s) i n t.0 others.1)
