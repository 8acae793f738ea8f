-- Which saved states a device takes: restore's tests in reading order, 2 at the field that is cut (document 01, "Numbers returned"; the Rust's `restore_state`). Each
-- definition gives document 01's number, 0 where the state is taken so far.
use Rattle.std.specs.Prelude.{ℕ, zero, suc, ◌+◌, ◌-◌, ◌*◌, ◌/◌, Bool, cond, not, ◌&&◌, List, length, drop, eqb, leb, ltb, ◌≡◌, None, Result, Ok, Err}
use Rattle.word.specs.Place.{word_at}
use Rattle.word.specs.Each.{each_of}
use Rattle.clock.specs.Billionths.{billion}
use Rattle.format.specs.Format.{format_of, number_of}
use Rattle.positions.specs.Positions.{positions_of, rises_of}
use Rattle.stream.specs.declared.Stream.{Stream}
use Rattle.stream.specs.Streams.{places, uncrowded_of}
use Rattle.stream.specs.Box.{streams}
use Rattle.registers.specs.Places.{ctl, fmt, byte_at, has}
use Rattle.refusal.specs.declared.Refusal.{Refusal}
use Rattle.refusal.specs.declared.Refusal.TheVariants.{ShortState}
use Rattle.refusal.specs.Refusals as refusal
use Rattle.reader.specs.Fields as reader
use Rattle.reader.specs.Fields.{field_of, run_of, then_of}
use Rattle.record.specs.Layout.{head_size, numbers_size}
use Rattle.record.specs.Devices.{flag}
use Rattle.record.specs.Loads.{marked_of, stream_at}

-- the number where the state ends inside a field
abbrev pub cut : ℕ
cut = reader.number_of None

-- where a run of bytes ends, or that the state ends before
abbrev pub run_end : List ℕ → ℕ → ℕ → Result ℕ Refusal
run_end s at n = then_of (run_of s at n) (Err ShortState) (λ start next. Ok next)

-- the formats of the converters, nodes 2 and 4: bytes 10 and 11 of their records
abbrev pub converter_number : List ℕ → ℕ
converter_number s =
    let output = number_of (format_of (word_at 2 576 s)) in
    cond (eqb output 0) (number_of (format_of (word_at 2 624 s))) output

-- clock and responses
abbrev pub times_number : List ℕ → ℕ → ℕ
times_number s at = then_of (run_of s at 18) cut (λ start next. 0)

-- pause, configuration, registers and codec, of which nothing is tested before all are there; then the converters' formats
abbrev pub files_number : List ℕ → ℕ → ℕ
files_number s at = then_of (run_of s at 657) cut (λ start next. cond (eqb (converter_number s) 0) (times_number s next) (converter_number s))

-- the microphone, which must be this device's
abbrev pub own_number : List ℕ → ℕ → Bool → ℕ
own_number s at microphone = then_of (field_of s at 1) cut (λ own next. cond (eqb own (flag microphone)) (files_number s next) 4)

-- what stands before the streams
unfoldable pub head_number : List ℕ → Bool → ℕ
head_number s microphone = then_of (run_of s 0 4) cut (λ start next. cond (marked_of s) (own_number s next microphone) 3)

-- a stream's positions, from `at` on: their count, then their order
unfoldable pub list_number : List ℕ → Stream → ℕ → ℕ
list_number s t at =
    cond (ltb places t.pending) 6
    (cond (ltb ((length s - at) / 8) t.pending) 6 (cond (rises_of t.consumed (positions_of t.pending (drop at s)) t.submitted) 0 7))

-- the stream's format register, where it is set or the stream runs; the registers stand at 262
unfoldable pub format_number : List ℕ → ℕ → ℕ
format_number s i =
    let raw = word_at 2 (262 + fmt i) s in
    cond (eqb raw 0 && not (has 2 (byte_at s (262 + ctl i)))) 0 (number_of (format_of raw))

-- the descriptor's index, the counts, and the frame time
unfoldable pub counts_number : Stream → ℕ
counts_number t = cond (leb t.descriptor 255 && (leb t.consumed t.submitted && ltb t.fraction (8193 * 1_000_000_000))) 0 8

-- the spacing of the positions (request T-09)
unfoldable pub crowd_number : List ℕ → Stream → ℕ → ℕ
crowd_number s t at = cond (uncrowded_of t (drop at s)) 0 20

-- a stream's tests; a crowded list is refused where `strict` says so, and only then
unfoldable pub stream_number : Bool → List ℕ → Stream → ℕ → ℕ → ℕ
stream_number strict s t at i =
    cond (eqb (list_number s t at) 0)
    (cond (eqb (format_number s i) 0) (cond (eqb (counts_number t) 0) (cond strict (crowd_number s t at) 0) (counts_number t)) (format_number s i))
    (list_number s t at)

-- the number so far, and where the next part begins; a refused stream's place stays
pub record Step : Type 0 where
  pub number : ℕ
  pub next : ℕ

abbrev pub step_out : ℕ → ℕ → Step
step_out number next = record { number = number; next = next }

abbrev pub stepped_of : ℕ → ℕ → ℕ → Step
stepped_of number at next = step_out number (cond (eqb number 0) next at)

unfoldable pub step_at : Bool → List ℕ → ℕ → Step → Step
step_at strict s i w =
    then_of (run_of s w.next numbers_size) (step_out cut w.next)
    (λ start next. let t = stream_at w.next s in stepped_of (stream_number strict s t next i) w.next (next + 8 * t.pending))

-- what a stream's tests found, as a step from `at`
abbrev pub stepped_by : ℕ → Result ℕ Refusal → Step
stepped_by at (Ok next) = step_out 0 next
stepped_by at (Err r) = step_out (refusal.number_of r) at

-- and what those of all streams found: where the last one ends, or the number of a refused one
abbrev pub EndsStreams : Result ℕ Refusal → Step → Type 0
EndsStreams (Ok next) w = w ≡ step_out 0 next
EndsStreams (Err r) w = w.number ≡ refusal.number_of r

abbrev pub goes_on : Step → Bool
goes_on w = eqb w.number 0

unfoldable pub streams_step : Bool → List ℕ → Step
streams_step strict s = each_of goes_on (step_at strict s) streams 0 (step_out 0 head_size)

-- where stream i's numbers stand: behind the positions of the one before it
unfoldable pub place_of : List ℕ → ℕ → ℕ
place_of s zero = head_size
place_of s (suc i) = place_of s i + (numbers_size + 8 * (stream_at (place_of s i) s).pending)

-- after the streams: nothing left over, pause, clock, responses, and this device's identity
unfoldable pub last_number : List ℕ → List ℕ → ℕ → ℕ
last_number s config end =
    cond (eqb end (length s)
    && (leb (byte_at s 5) 1 && (ltb (word_at 8 670 s) billion && (leb (word_at 2 678 s) 255 && eqb (word_at 4 6 s) (word_at 4 0 config))))) 0 9

-- all tests but those of the openings
unfoldable pub state_number : Bool → List ℕ → Bool → List ℕ → ℕ
state_number strict s microphone config =
    let head = head_number s microphone in
    let step = streams_step strict s in
    cond (eqb head 0) (cond (eqb step.number 0) (last_number s config step.next) step.number) head
