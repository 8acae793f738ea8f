-- The book of demand 3, from document 01's list and not from the device: for each stream two counts and three lists of positions, where its next piece begins, and what each event does to them.
use Rattle.std.specs.Prelude.{ℕ, ◌+◌, ◌-◌, max, Bool, cond, ◌&&◌, List, [], ◌∷◌, ◌++◌, leb}
use Rattle.book.specs.Buffers.{Attempt, entry_flagged, piece_bytes, ends_entry, entry_behind}

pub record Book : Type 0 where
  pub submitted : ℕ
  pub consumed : ℕ
  pub ends : List ℕ
  pub retired : List ℕ
  pub pending : List ℕ
  -- where the next piece begins: the descriptor's index, and the bytes of it already moved
  pub index : ℕ
  pub offset : ℕ

abbrev pub book : ℕ → ℕ → List ℕ → List ℕ → List ℕ → ℕ → ℕ → Book
book submitted consumed ends retired pending index offset =
    record { submitted = submitted; consumed = consumed; ends = ends; retired = retired; pending = pending; index = index; offset = offset }

-- The completions that may be pending at most: at a flagged end with so many the limit stops a transfer.
abbrev pub limit : ℕ
limit = 4352

-- what happens to a stream
pub data Event : Type 0 where
  reset : Event
  restored : (submitted consumed : ℕ) → (positions : List ℕ) → (index offset : ℕ) → Event
  moved : Attempt → Event
  updated : (latency : ℕ) → Event
  -- a transfer that failed, and an opening that the host refused in `advance`
  failed : Attempt → Event
  refused : Event

-- positions up to a count, and those above it
abbrev pub up_to : ℕ → List ℕ → List ℕ
up_to c [] = []
up_to c (p ∷ ps) = cond (leb p c) (p ∷ up_to c ps) (up_to c ps)

abbrev pub above : ℕ → List ℕ → List ℕ
above c [] = []
above c (p ∷ ps) = cond (leb p c) (above c ps) (p ∷ above c ps)

-- a stream that is made or reset, by itself or with the controller: both counts 0, as in the Rust, and nothing listed
abbrev pub made : Book
made = book 0 0 [] [] [] 0 0

-- an accepted restore: the state's counts, positions and place; the positions are ends that none has retired of
abbrev pub restored_with : ℕ → ℕ → List ℕ → ℕ → ℕ → Book
restored_with submitted consumed positions index offset = book submitted consumed positions [] positions index offset

-- A piece of n bytes moved: they are submitted, and then a flagged end stands behind the ends and the pending ones, at that count. A piece that ends its descriptor leaves the next one, `behind`, to begin.
abbrev pub position_if : Bool → ℕ → List ℕ
position_if flagged submitted = cond flagged (submitted ∷ []) []

abbrev pub moved_to : ℕ → Bool → Bool → ℕ → Book → Book
moved_to n ended flagged behind b =
    let submitted = b.submitted + n in
    book submitted b.consumed (b.ends ++ position_if flagged submitted) b.retired (b.pending ++ position_if flagged submitted)
    (cond ended behind b.index) (cond ended 0 (b.offset + n))

abbrev pub moved_by : Attempt → Book → Book
moved_by a b =
    let ended = ends_entry a b.index b.offset b.submitted in
    moved_to (piece_bytes a b.index b.offset b.submitted) ended (ended && entry_flagged a b.index) (entry_behind a b.index) b

-- consumed moves: what is pending up to there retires, in order
abbrev pub consumed_to : ℕ → Book → Book
consumed_to c b = book b.submitted c b.ends (b.retired ++ up_to c b.pending) (above c b.pending) b.index b.offset

-- A position update moves consumed on to what is submitted and no longer held back by latency, never back. A failed transfer and a refused opening let stand what came before.
unfoldable pub note : Event → Book → Book
note reset b = made
note (restored submitted consumed positions index offset) b = restored_with submitted consumed positions index offset
note (moved attempt) b = moved_by attempt b
note (updated latency) b = consumed_to (max b.consumed (b.submitted - latency)) b
note (failed attempt) b = b
note refused b = b

unfoldable pub notes : List Event → Book → Book
notes [] b = b
notes (e ∷ es) b = notes es (note e b)
