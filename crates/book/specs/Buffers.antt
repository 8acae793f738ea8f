-- Where a transfer stands in a stream's cyclic buffer, by the registers, the descriptor's index and offset, and the descriptor as memory has it (HDA 1.0a 3.6.3): no definition of the device is asked.
use Rattle.std.specs.Prelude.{ℕ, ◌+◌, ◌-◌, ◌*◌, ◌/◌, ◌%◌, min, Bool, cond, List, eqb}
use Rattle.word.specs.Place.{word_at}

-- A piece that a transfer is to move: the registers of the cyclic buffer, the bytes of the transfer still to move, and guest memory as it then is.
pub record Attempt : Type 0 where
  pub base : ℕ
  pub cyclic : ℕ
  pub last : ℕ
  pub left : ℕ
  pub memory : List ℕ

-- The descriptor of an index: 16 bytes in a list on a 128-byte boundary, the buffer's address, its length, and flags of which bit 0 asks for a completion.
abbrev pub entry_place : Attempt → ℕ → ℕ
entry_place a index = a.base / 128 * 128 + 16 * index

abbrev pub entry_address : Attempt → ℕ → ℕ
entry_address a index = word_at 8 (entry_place a index) a.memory

abbrev pub entry_length : Attempt → ℕ → ℕ
entry_length a index = word_at 4 (entry_place a index + 8) a.memory

abbrev pub entry_flagged : Attempt → ℕ → Bool
entry_flagged a index = eqb (word_at 4 (entry_place a index + 12) a.memory % 2) 1

-- the bytes of the piece: up to the end of the transfer, of the descriptor's buffer or of the cyclic buffer, whichever comes first
abbrev pub piece_bytes : Attempt → ℕ → ℕ → ℕ → ℕ
piece_bytes a index offset submitted = min (min a.left (entry_length a index - offset)) (a.cyclic - submitted % a.cyclic)

-- whether it ends its descriptor, and the descriptor behind that one: the first again behind the last
abbrev pub ends_entry : Attempt → ℕ → ℕ → ℕ → Bool
ends_entry a index offset submitted = eqb (offset + piece_bytes a index offset submitted) (entry_length a index)

abbrev pub entry_behind : Attempt → ℕ → ℕ
entry_behind a index = cond (eqb index a.last) 0 (index + 1)
