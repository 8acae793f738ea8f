-- What is known of a state that is taken, for the call `restore` above, and which numbers a state may give (document 01, "Numbers returned"). Assumes nothing.
use Prim.Native.Nat.{ℕ, zero, suc, ◌+◌, ◌-◌, ◌*◌, ◌/◌, ◌≤◌, ◌<◌}
use mathlib.Core.Path.{◌≡◌, refl, sym, ap, subst, ◌∙◌}
use mathlib.Core.Bool.{Bool, true, false, cond, not, ◌&&◌}
use mathlib.Core.List.{List}
use mathlib.Core.Logic.{◌⊎◌, inl, inr, ⊎_elim}
use native.Mathlib.Omega.{arith}
use borrow.Author.Tests.{leb-true, ltb-true, eqb-true}
use lib.ListN.{length, drop}
use lib.Dec.{eqb, leb, ltb}
use Rattle.word.specs.Place.{word_at}
use Rattle.word.specs.Each.{each_of, further}
use Rattle.word.proofs.Choices.{both, chosen, by_cond, by_both}
use Rattle.clock.specs.Billionths.{billion}
use Rattle.std.specs.Prelude.{Option, None, Some}
use Rattle.format.specs.Format.{format_of, number_of}
use Rattle.positions.specs.Positions.{positions_of, rises_of}
use Rattle.stream.specs.Streams.{places, valid_of, uncrowded_of}
use Rattle.stream.specs.Box.{streams}
use Rattle.stream.specs.declared.Stream.{Stream}
use Rattle.registers.specs.Places.{ctl, fmt, byte_at, has}
use Rattle.record.specs.Layout.{head_size, numbers_size}
use Rattle.record.specs.Devices.{flag}
use Rattle.record.specs.Loads.{marked_of, stream_at}
use Rattle.parse.specs.States.{Step, head_number, list_number, format_number, counts_number, crowd_number, stream_number, step_out, stepped_of, step_at, goes_on, streams_step, place_of, last_number, state_number}
use Rattle.parse.proofs.Choices.{both-pass, holds}
use Rattle.parse.proofs.Fields.{run-cases, field-cases, run-both}
use Rattle.parse.proofs.Parts.{stream-fits, stream-format, stream-valid, stream-uncrowded, Placed, step-taken, place-next, all-taken}
use Rattle.parse.proofs.Heads.{Head, head-taken}

-- stream i of a state that is taken: its numbers and positions are there, it is one that a device may have, and its format is supported where it is set or runs
pub record TakenStream (strict : Bool) (s : List ℕ) (i : ℕ) : Type 0 where
  pub room : place_of s i + numbers_size + 8 * (stream_at (place_of s i) s).pending ≤ length s
  pub valid : valid_of (stream_at (place_of s i) s) (drop (place_of s i + numbers_size) s) ≡ true
  pub format : format_number s i ≡ 0
  pub uncrowded : strict ≡ true → uncrowded_of (stream_at (place_of s i) s) (drop (place_of s i + numbers_size) s) ≡ true

-- what is tested after the streams
pub record TakenLast (s config : List ℕ) : Type 0 where
  pub paused : byte_at s 5 ≤ 1
  pub fraction : word_at 8 670 s < billion
  pub responses : word_at 2 678 s ≤ 255
  pub identity : word_at 4 6 s ≡ word_at 4 0 config

-- the test of `last_number`
abbrev last_ok : List ℕ → List ℕ → ℕ → Bool
last_ok s config end =
    eqb end (length s)
    && (leb (byte_at s 5) 1 && (ltb (word_at 8 670 s) billion && (leb (word_at 2 678 s) 255 && eqb (word_at 4 6 s) (word_at 4 0 config))))

module _ (strict : Bool) (s : List ℕ) (microphone : Bool) (config : List ℕ) (taken : state_number strict s microphone config ≡ 0) where
  abbrev step : Step
  step = streams_step strict s

  parts : (head_number s microphone ≡ 0) × ((step.number ≡ 0) × (last_number s config step.next ≡ 0))
  unfolding state_number
  parts =
      let h = both-pass (head_number s microphone) (cond (eqb step.number 0) (last_number s config step.next) step.number) taken in
      (h.0, both-pass step.number (last_number s config step.next) h.1)

  -- length, mark, microphone and converters
  pub taken-head : Head s microphone
  taken-head = head-taken s microphone parts.0

  pub taken-long : head_size ≤ length s
  taken-long = taken-head.long

  last : last_ok s config step.next ≡ true
  unfolding last_number
  last = (holds _ 0 9 (omega arith) parts.1.1).0

  pub taken-last : TakenLast s config
  taken-last =
      let whole = both (eqb step.next (length s)) _ last in
      let paused = both (leb (byte_at s 5) 1) _ whole.1 in
      let time = both (ltb (word_at 8 670 s) billion) _ paused.1 in
      let responses = both (leb (word_at 2 678 s) 255) _ time.1 in
      record {
        paused = leb-true (byte_at s 5) 1 paused.0;
        fraction = ltb-true (word_at 8 670 s) billion time.0;
        responses = leb-true (word_at 2 678 s) 255 responses.0;
        identity = eqb-true (word_at 4 6 s) (word_at 4 0 config) responses.1;
      }

  -- the streams fill the rest, and each may be a device's
  pub taken-streams : (place_of s streams ≡ length s) × ((i : ℕ) → i < streams → TakenStream strict s i)
  unfolding streams_step place_of
  taken-streams =
      let all = all-taken strict s streams 0 parts.1.0 in (
        sym all.0 ∙ eqb-true step.next (length s) (both (eqb step.next (length s)) _ last).0,
        λ i h.
            let from : 0 + i ≡ i = omega arith in
            let t = subst (Placed strict s) from (all.1 i h) in record {
              room = stream-fits s (stream_at (place_of s i) s) (place_of s i + numbers_size) i strict t.number t.there;
              valid = stream-valid s (stream_at (place_of s i) s) (place_of s i + numbers_size) i strict t.number;
              format = stream-format s (stream_at (place_of s i) s) (place_of s i + numbers_size) i strict t.number;
              uncrowded = stream-uncrowded s (stream_at (place_of s i) s) (place_of s i + numbers_size) i strict t.number;
            },
      )

-- ---- the numbers

-- Document 01's numbers of a state, with its words for them, and request T-09's, which tells that `P` holds.
pub data Returned (P : Type 0) : ℕ → Type 0 where
  done : Returned P 0
  short-state : Returned P 2
  wrong-mark : Returned P 3
  other-microphone : Returned P 4
  bad-format : Returned P 5
  list_length : Returned P 6
  list-order : Returned P 7
  bad-stream : Returned P 8
  bad-state : Returned P 9
  crowded-list : P → Returned P 20

module _ {P : Type 0} where
  pub crowded-only : {n : ℕ} → Returned P n → n ≡ 20 → P
  crowded-only done e = absurd (omega (arith, e))
  crowded-only short-state e = absurd (omega (arith, e))
  crowded-only wrong-mark e = absurd (omega (arith, e))
  crowded-only other-microphone e = absurd (omega (arith, e))
  crowded-only bad-format e = absurd (omega (arith, e))
  crowded-only list_length e = absurd (omega (arith, e))
  crowded-only list-order e = absurd (omega (arith, e))
  crowded-only bad-stream e = absurd (omega (arith, e))
  crowded-only bad-state e = absurd (omega (arith, e))
  crowded-only (crowded-list p) e = p

  pub number_small : {n : ℕ} → Returned P n → n < 256
  number_small done = omega arith
  number_small short-state = omega arith
  number_small wrong-mark = omega arith
  number_small other-microphone = omega arith
  number_small bad-format = omega arith
  number_small list_length = omega arith
  number_small list-order = omega arith
  number_small bad-stream = omega arith
  number_small bad-state = omega arith
  number_small (crowded-list p) = omega arith

  -- what a test chooses, and the first of two numbers that is not 0
  either : (b : Bool) {x y : ℕ} → Returned P x → Returned P y → Returned P (cond b x y)
  either = chosen (Returned P)

  first : {x rest : ℕ} → Returned P x → Returned P rest → Returned P (cond (eqb x 0) rest x)
  first {x} p q = either (eqb x 0) q p

  of_format : (f : Option ℕ) → Returned P (number_of f)
  of_format None = bad-format
  of_format (Some r) = done

  format-returned : (w : ℕ) → Returned P (number_of (format_of w))
  format-returned w = of_format (format_of w)

-- a list is crowded, and that is refused
pub record Crowds (strict : Bool) (s : List ℕ) : Type 0 where
  pub refused : strict ≡ true
  pub stream : ℕ
  pub one : stream < streams
  pub crowded : uncrowded_of (stream_at (place_of s stream) s) (drop (place_of s stream + numbers_size) s) ≡ false

module _ (strict : Bool) (s : List ℕ) where
  abbrev Number : ℕ → Type 0
  Number = Returned (Crowds strict s)

  head-returned : (microphone : Bool) → Number (head_number s microphone)
  unfolding head_number
  head-returned microphone =
      run-cases s 0 4 Number 2 _
      (λ _. either (marked_of s)
      (field-cases s 4 1 Number 2 _
      (λ _. either (eqb (word_at 1 4 s) (flag microphone))
      (run-cases s 5 657 Number 2 _
      (λ _. first (first (format-returned (word_at 2 576 s)) (format-returned (word_at 2 624 s))) (run-cases s 662 18 Number 2 _ (λ _. done) short-state))
      short-state)
      other-microphone)
      short-state)
      wrong-mark)
      short-state

  list-returned : (t : Stream) (at : ℕ) → Number (list_number s t at)
  unfolding list_number
  list-returned t at =
      either (ltb places t.pending) list_length
      (either (ltb ((length s - at) / 8) t.pending) list_length
      (either (rises_of t.consumed (positions_of t.pending (drop at s)) t.submitted) done list-order))

  register-returned : (i : ℕ) → Number (format_number s i)
  unfolding format_number
  register-returned i =
      either (eqb (word_at 2 (262 + fmt i) s) 0 && not (has 2 (byte_at s (262 + ctl i)))) done (format-returned (word_at 2 (262 + fmt i) s))

  counts-returned : (t : Stream) → Number (counts_number t)
  unfolding counts_number
  counts-returned t = either (leb t.descriptor 255 && (leb t.consumed t.submitted && ltb t.fraction (8193 * 1_000_000_000))) done bad-stream

  -- of the stream at its place
  module _ (i : ℕ) (few : i < streams) where
    abbrev own : Stream
    own = stream_at (place_of s i) s

    abbrev list : ℕ
    list = place_of s i + numbers_size

    crowd-returned : Number (cond strict (crowd_number s own list) 0)
    unfolding crowd_number
    crowd-returned =
        by_cond Number strict _ 0
        (λ on. by_cond Number (uncrowded_of own (drop list s)) 0 20 (λ _. done) (λ close. crowded-list (record { refused = on; stream = i; one = few; crowded = close })))
        (λ _. done)

    stream-returned : Number (stream_number strict s own list i)
    unfolding stream_number
    stream-returned = first (list-returned own list) (first (register-returned i) (first (counts-returned own) crowd-returned))

    step-returned : Number (step_at strict s i (step_out 0 (place_of s i))).number
    unfolding step_at
    step-returned = run-cases s (place_of s i) numbers_size (λ (y : Step). Number y.number) _ _ (λ _. stream-returned) short-state

  further-returned : (b : Bool) (y : Step) (rest : Step → Step) → goes_on y ≡ b → Number y.number → (y.number ≡ 0 → Number (rest y).number) → Number (further b y rest).number
  further-returned true y rest e p q = q (eqb-true y.number 0 e)
  further-returned false y rest e p q = p

  streams-returned : (n i : ℕ) → i + n ≤ streams → Number (each_of goes_on (step_at strict s) n i (step_out 0 (place_of s i))).number
  unfolding each_of
  streams-returned zero i few = done
  streams-returned (suc n) i few =
      let y = step_at strict s i (step_out 0 (place_of s i)) in
      let rest = each_of goes_on (step_at strict s) n (i + 1) in
      further-returned (goes_on y) y rest refl (step-returned i (omega arith))
      (λ z. subst (λ (w : Step). Number (rest w).number) (sym ((step-taken strict s i (place_of s i) z).1 ∙ ap (step_out 0) (sym (place-next s i)))) (streams-returned n (i + 1) (omega arith)))

  pub numbers : (microphone : Bool) (config : List ℕ) → Number (state_number strict s microphone config)
  unfolding streams_step last_number state_number place_of
  numbers microphone config =
      first (head-returned microphone)
      (first (streams-returned streams 0 (omega arith)) (either (last_ok s config (streams_step strict s).next) done bad-state))

-- ---- a lenient test gives every other refusal that a strict one does

-- refused with 20, or the same
abbrev Alike : ℕ → ℕ → Type 0
Alike x y = (x ≡ 20) ⊎ (x ≡ y)

module _ (s : List ℕ) where
  -- behind a test that both make
  behind-same : (x : ℕ) {y z : ℕ} → Alike y z → Alike (cond (eqb x 0) y x) (cond (eqb x 0) z x)
  behind-same x {y} {z} a = by_both Alike (eqb x 0) y x z x (λ _. a) (λ _. inr refl)

  crowd-same : (t : Stream) (at : ℕ) → Alike (crowd_number s t at) 0
  unfolding crowd_number
  crowd-same t at = by_cond (λ (x : ℕ). Alike x 0) (uncrowded_of t (drop at s)) 0 20 (λ _. inr refl) (λ _. inl refl)

  stream-same : (t : Stream) (at i : ℕ) → Alike (stream_number true s t at i) (stream_number false s t at i)
  unfolding stream_number
  stream-same t at i = behind-same (list_number s t at) (behind-same (format_number s i) (behind-same (counts_number t) (crowd-same t at)))

  abbrev Same : Step → Step → Type 0
  Same x y = (x.number ≡ 20) ⊎ (x ≡ y)

  step_same : (i : ℕ) (w : Step) → Same (step_at true s i w) (step_at false s i w)
  unfolding step_at
  step_same i w =
      let t = stream_at w.next s in
      let at = w.next + numbers_size in
      run-both s w.next numbers_size Same _ _ _
      (λ _.
      ⊎_elim (λ (e : stream_number true s t at i ≡ 20). inl e)
      (λ (e : stream_number true s t at i ≡ stream_number false s t at i). inr (ap (λ (number : ℕ). stepped_of number w.next (at + 8 * t.pending)) e))
      (stream-same t at i))
      (inr refl)

  -- the streams behind a step
  steps-same : (n i : ℕ) (w : Step) → Same (each_of goes_on (step_at true s) n i w) (each_of goes_on (step_at false s) n i w)
  unfolding each_of
  steps-same zero i w = inr refl
  steps-same (suc n) i w =
      let y = step_at true s i w in
      let strict = each_of goes_on (step_at true s) n (i + 1) in
      let lenient = each_of goes_on (step_at false s) n (i + 1) in
      ⊎_elim (λ (e : y.number ≡ 20). inl (stopped y strict e))
      (λ (e : y ≡ step_at false s i w). subst (λ (x : Step). Same (further (goes_on y) y strict) (further (goes_on x) x lenient)) e (on (goes_on y) y strict lenient (steps-same n (i + 1) y)))
      (step_same i w)
    where
      stopped : (y : Step) (rest : Step → Step) → y.number ≡ 20 → (further (goes_on y) y rest).number ≡ 20
      stopped y rest e = rw e

      on : (b : Bool) (y : Step) (strict lenient : Step → Step) → Same (strict y) (lenient y) → Same (further b y strict) (further b y lenient)
      on true y strict lenient more = more
      on false y strict lenient more = inr refl

  pub state-same : (microphone : Bool) (config : List ℕ) → Alike (state_number true s microphone config) (state_number false s microphone config)
  unfolding state_number streams_step
  state-same microphone config =
      behind-same (head_number s microphone)
      (⊎_elim (λ (e : (streams_step true s).number ≡ 20). inl (rw e))
      (λ (e : streams_step true s ≡ streams_step false s). inr (ap (λ (w : Step). cond (eqb w.number 0) (last_number s config w.next) w.number) e))
      (steps-same streams 0 (step_out 0 head_size)))
