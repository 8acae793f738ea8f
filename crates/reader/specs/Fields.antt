-- A field of a saved state, a run of its bytes, and a reader that moves over them (document 01: `StateReader`, which "keeps its hold on the
-- unread bytes of the state"). Sums are sums of naturals, so that a place near 2^64 is simply past the end.
use Rattle.std.specs.Prelude.{ℕ, ◌+◌, List, cond, length, leb, Option, None, Some}
use Rattle.std.specs.Borrow.{Bor}
use Rattle.word.specs.Place.{word_at}
use Rattle.reader.specs.declared.StateReader.{StateReader}
use Rattle.reader.specs.declared.Took.{Took}

abbrev pub took_of : Option ℕ → ℕ → Took
took_of got next = record { got = got; next = next }

-- the number of the `n` bytes at `at`, lowest byte first, and the place behind them; where the state ends inside them, the place stays
unfoldable pub field_of : List ℕ → ℕ → ℕ → Took
field_of s at n = cond (leb (at + n) (length s)) (took_of (Some (word_at n at s)) (at + n)) (took_of None at)

-- the same of a run of bytes, whose number is where it starts
unfoldable pub run_of : List ℕ → ℕ → ℕ → Took
run_of s at n = cond (leb (at + n) (length s)) (took_of (Some at) (at + n)) (took_of None at)

-- document 01's number of each case: 2 where the state ends inside a field
abbrev pub number_of : Option ℕ → ℕ
number_of (Some v) = 0
number_of None = 2

-- what follows a field: `rest` of its number and of the place behind it, or `short`
abbrev pub on_got {ℓ} : {A : Type ℓ} → Option ℕ → A → (ℕ → A) → A
on_got (Some v) short rest = rest v
on_got None short rest = short

unfoldable pub then_of {ℓ} : {A : Type ℓ} → Took → A → (ℕ → ℕ → A) → A
then_of t short rest = on_got t.got short (λ v. rest v t.next)

-- a reader whose unread bytes begin at `at`
abbrev pub reader_of : Bor (List ℕ) → ℕ → StateReader
reader_of src at = record { src = src; at = at }

-- what a function that moves a reader leaves: its answer and the reader
pub record Taken : Type 0 where
  pub got : Option ℕ
  pub reader : StateReader

abbrev pub taken_of : Option ℕ → StateReader → Taken
taken_of got reader = record { got = got; reader = reader }

-- a reader that has taken `t` goes on where `t` ends, over the same bytes
abbrev pub moved_of : StateReader → Took → Taken
moved_of r t = taken_of t.got (record { src = r.src; at = t.next })

abbrev pub take_of : StateReader → ℕ → Taken
take_of r n = moved_of r (field_of r.src.now r.at n)

abbrev pub take_run_of : StateReader → ℕ → Taken
take_run_of r n = moved_of r (run_of r.src.now r.at n)
