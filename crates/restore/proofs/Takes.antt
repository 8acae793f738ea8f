-- Which states are taken, from what is known of their parts: the way back from parse's theorems. Assumes nothing.
use Prim.Native.Nat.{ℕ, zero, suc, ◌+◌, ◌-◌, ◌*◌, ◌/◌, ◌≤◌, ◌<◌}
use mathlib.Core.Path.{◌≡◌, refl, ap, ◌∙◌}
use mathlib.Core.Bool.{Bool, true, false, cond}
use mathlib.Core.List.{List}
use native.Mathlib.Omega.{arith}
use borrow.Author.Tests.{le-leb, lt-ltb, le-ltb, eq-eqb}
use lib.ListN.{length, drop}
use Rattle.word.specs.Place.{word_at}
use Rattle.word.specs.Each.{each_of}
use Rattle.clock.specs.Billionths.{billion}
use Rattle.stream.specs.declared.Stream.{Stream}
use Rattle.stream.specs.Streams.{places, valid_of, uncrowded_of}
use Rattle.stream.specs.Box.{streams}
use Rattle.stream.proofs.Validity.{valid-parts}
use Rattle.registers.specs.Places.{byte_at}
use Rattle.reader.specs.Fields.{field_of, run_of, then_of}
use Rattle.reader.proofs.Fields as fields
use Rattle.record.specs.Loads.{stream_at}
use Rattle.parse.specs.States.{head_number, list_number, format_number, counts_number, crowd_number, stream_number, step_out, step_at, goes_on, streams_step, place_of, last_number, state_number}
use Rattle.parse.proofs.Heads.{Head}
use Rattle.parse.proofs.Theorems.{TakenStream, TakenLast}
use Rattle.restore.proofs.Places.{place-next}

module _ (s : List ℕ) where
  -- a run and a field that are there
  run-there : {A : Type 0} (at n : ℕ) (short : A) (rest : ℕ → ℕ → A) → at + n ≤ length s → then_of (run_of s at n) short rest ≡ rest at (at + n)
  unfolding then_of
  run-there at n short rest h = rw (fields.run-there s at n h)

  field-there : {A : Type 0} (at n : ℕ) (short : A) (rest : ℕ → ℕ → A) → at + n ≤ length s → then_of (field_of s at n) short rest ≡ rest (word_at n at s) (at + n)
  unfolding then_of
  field-there at n short rest h = rw (fields.field-there s at n h)

  head-takes : (microphone : Bool) → Head s microphone → head_number s microphone ≡ 0
  unfolding head_number
  head-takes microphone h =
      let long : 680 ≤ length s = h.long in
      run-there 0 4 2 _ (omega arith)
      ∙ rw h.marked
      (field-there 4 1 2 _ (omega arith)
      ∙ rw (eq-eqb _ _ h.own) (run-there 5 657 2 _ (omega arith) ∙ rw h.converters (run-there 662 18 2 _ (omega arith))))

  crowd-takes : (strict : Bool) (t : Stream) (at : ℕ) → (strict ≡ true → uncrowded_of t (drop at s) ≡ true) → cond strict (crowd_number s t at) 0 ≡ 0
  unfolding crowd_number
  crowd-takes true t at free = rw (free refl)
  crowd-takes false t at free = refl

  stream-takes : (strict : Bool) (t : Stream) (at i : ℕ) → at + 8 * t.pending ≤ length s → valid_of t (drop at s) ≡ true → format_number s i ≡ 0
      → (strict ≡ true → uncrowded_of t (drop at s) ≡ true) → stream_number strict s t at i ≡ 0
  unfolding stream_number list_number counts_number
  stream-takes strict t at i room valid format free =
      let v = valid-parts t (drop at s) valid in
      let there : t.pending ≤ (length s - at) / 8 = omega arith in
      rw (
        le-ltb places t.pending v.few,
        le-ltb ((length s - at) / 8) t.pending there,
        v.rises,
        format,
        le-leb t.descriptor 255 v.listed,
        le-leb t.consumed t.submitted v.heard,
        lt-ltb t.fraction (8193 * 1_000_000_000) v.time,
      )
      (crowd-takes strict t at free)

module _ (strict : Bool) (s : List ℕ) where
  step-takes : (i : ℕ) → TakenStream strict s i → step_at strict s i (step_out 0 (place_of s i)) ≡ step_out 0 (place_of s (i + 1))
  unfolding step_at
  step-takes i t =
      let number : stream_number strict s (stream_at (place_of s i) s) (place_of s i + 34) i ≡ 0
      = stream-takes s strict (stream_at (place_of s i) s) (place_of s i + 34) i t.room t.valid t.format t.uncrowded in
      let next : place_of s i + 34 + 8 * (stream_at (place_of s i) s).pending ≡ place_of s (i + 1) = omega (arith, place-next s i) in
      run-there s (place_of s i) 34 (step_out 2 (place_of s i)) _ (omega (arith, t.room)) ∙ rw (number, next)

  steps-take : (n i : ℕ) → ((k : ℕ) → i ≤ k → k < i + n → TakenStream strict s k)
      → each_of goes_on (step_at strict s) n i (step_out 0 (place_of s i)) ≡ step_out 0 (place_of s (i + n))
  unfolding each_of
  steps-take zero i each = let end : i ≡ i + zero = omega arith in ap (λ (k : ℕ). step_out 0 (place_of s k)) end
  steps-take (suc n) i each =
      let end : i + 1 + n ≡ i + suc n = omega arith in
      rw (step-takes i (each i (omega arith) (omega arith)))
      (steps-take n (i + 1) (λ k from to. each k (omega arith) (omega arith)) ∙ ap (λ (k : ℕ). step_out 0 (place_of s k)) end)

  streams-take : ((i : ℕ) → i < streams → TakenStream strict s i) → streams_step strict s ≡ step_out 0 (place_of s streams)
  unfolding streams_step place_of
  streams-take each = steps-take streams 0 (λ k from to. each k (omega arith))

  last-takes : (config : List ℕ) (end : ℕ) → end ≡ length s → TakenLast s config → last_number s config end ≡ 0
  unfolding last_number
  last-takes config end whole t =
      rw (
        eq-eqb end (length s) whole,
        le-leb (byte_at s 5) 1 t.paused,
        lt-ltb (word_at 8 670 s) billion t.fraction,
        le-leb (word_at 2 678 s) 255 t.responses,
        eq-eqb (word_at 4 6 s) (word_at 4 0 config) t.identity,
      )

  pub state-takes : (microphone : Bool) (config : List ℕ) → Head s microphone → ((i : ℕ) → i < streams → TakenStream strict s i) → place_of s streams ≡ length s
      → TakenLast s config → state_number strict s microphone config ≡ 0
  unfolding state_number
  state-takes microphone config head each whole last =
      rw (head-takes s microphone head, streams-take each) (last-takes config (place_of s streams) whole last)
