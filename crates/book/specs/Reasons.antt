-- Why a transfer may fail, from document 01's sentences ("Stream transfer", "Where port and Rust part") and the registers, descriptor and memory that it met: no definition of the device is asked.
use Rattle.std.specs.Prelude.{ℕ, ◌+◌, ◌%◌, ◌≡◌, Bool, true, false, not, ◌&&◌, ◌||◌, List, [], ◌∷◌, eqb, leb, ltb, length}
use Rattle.book.specs.Buffers.{Attempt, entry_place, entry_address, entry_length, entry_flagged, piece_bytes, ends_entry}
use Rattle.book.specs.Book.{Book, limit, Event, reset, restored, moved, updated, failed, refused, note}

-- Each reason as a test: the cyclic length is 0 or no multiple of 4, the last index is above 255, the descriptor's index is above the last; memory has no such descriptor; its length is 0 or no multiple of 4,
-- the offset reaches it; memory does not have the bytes; submitted would pass its largest value. An address past 64 bits is one that memory does not have.
abbrev pub reasons_of : Attempt → ℕ → ℕ → ℕ → List Bool
reasons_of a index offset submitted =
    let n = piece_bytes a index offset submitted in
    eqb a.cyclic 0
    ∷ not (eqb (a.cyclic % 4) 0)
    ∷ ltb 255 a.last
    ∷ ltb a.last index
    ∷ ltb (length a.memory) (entry_place a index + 16)
    ∷ eqb (entry_length a index) 0
    ∷ not (eqb (entry_length a index % 4) 0)
    ∷ leb (entry_length a index) offset
    ∷ ltb (length a.memory) (entry_address a index + (offset + n))
    ∷ ltb 0xffff_ffff_ffff_ffff (submitted + n)
    ∷ []

abbrev pub any_of : List Bool → Bool
any_of [] = false
any_of (t ∷ ts) = t || any_of ts

unfoldable pub is_reason : Attempt → ℕ → ℕ → ℕ → Bool
is_reason a index offset submitted = any_of (reasons_of a index offset submitted)

-- the limit: the piece ends a flagged descriptor, and 4,352 are pending
unfoldable pub is_limit : Attempt → ℕ → ℕ → ℕ → ℕ → Bool
is_limit a index offset submitted pending = ends_entry a index offset submitted && (entry_flagged a index && leb limit pending)

-- a reason holds, and the limit does not, by the book as it then was
abbrev pub is_founded : Attempt → Book → Bool
is_founded a b = is_reason a b.index b.offset b.submitted

abbrev pub is_unlimited : Attempt → Book → Bool
is_unlimited a b = not (is_limit a b.index b.offset b.submitted (length b.pending))

-- a test holds of each failed transfer, by the book as it then was
abbrev pub Tested : (Attempt → Book → Bool) → Event → Book → Type 0
Tested test reset b = Unit {0}
Tested test (restored submitted consumed positions index offset) b = Unit {0}
Tested test (moved a) b = Unit {0}
Tested test (updated latency) b = Unit {0}
Tested test (failed a) b = test a b ≡ true
Tested test refused b = Unit {0}

abbrev pub Failures : (Attempt → Book → Bool) → List Event → Book → Type 0
Failures test [] b = Unit {0}
Failures test (e ∷ es) b = Tested test e b × Failures test es (note e b)
