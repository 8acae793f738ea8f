-- The register file in the table's terms, with the device's exceptions: what the theorems of proofs/ speak of.
use Rattle.std.specs.Prelude.{ℕ, zero, suc, ◌+◌, ◌-◌, ◌<◌, ◌≡◌, cond, List, [], ◌∷◌, length, set}
use Rattle.std.specs.Int.Bits.{bit_and, bit_or}
use lib.Text.{eqt}
use Rattle.word.specs.Value.{Bytes}
use Rattle.registers.specs.Places.{size, byte_at}
use Rattle.registers_hda.specs.Table.{Row, row, table, column_at, byte_after}
use Rattle.registers_hda.specs.Exceptions.{Exception, exceptions, None, special_of}

-- a row as the device has it
abbrev pub excepted : List Exception → Row → Row
excepted [] r = r
excepted (e ∷ es) r =
    cond (eqt e.name r.name) (row r.name r.place r.width e.written e.cleared r.driven r.reset) (excepted es r)

-- the bits of a byte that software writes and clears, and the byte at reset
unfoldable pub written_at : ℕ → ℕ
written_at = column_at (λ r. (excepted exceptions r).written) table

unfoldable pub cleared_at : ℕ → ℕ
cleared_at = column_at (λ r. (excepted exceptions r).cleared) table

unfoldable pub reset_at : ℕ → ℕ
reset_at = column_at (λ r. r.reset) table

-- the bits that neither software nor the controller changes: reserved or constant
unfoldable pub constant_at : ℕ → ℕ
constant_at a = 255 - bit_or (bit_or (written_at a) (cleared_at a)) (column_at (λ r. r.driven) table a)

-- a column as a register file: `n` bytes from `a` on, and all
abbrev pub bytes_from : (ℕ → ℕ) → ℕ → ℕ → List ℕ
bytes_from byte zero a = []
bytes_from byte (suc n) a = byte a ∷ bytes_from byte n (a + 1)

abbrev pub file_by : (ℕ → ℕ) → List ℕ
file_by byte = bytes_from byte size 0

-- A register file whose reserved and constant bits are as at reset. (A restored state may have others.)
pub record Regular (regs : List ℕ) : Type 0 where
  pub sized : length regs ≡ size
  pub bytes : Bytes regs
  pub constant : (a : ℕ) → a < size → bit_and (byte_at regs a) (constant_at a) ≡ bit_and (reset_at a) (constant_at a)

-- what the bytes `bs`, written from the place `a` on, make of it
abbrev pub after_write : List ℕ → ℕ → List ℕ → List ℕ
after_write regs a [] = regs
after_write regs a (b ∷ bs) = after_write (set regs a (byte_after (written_at a) (cleared_at a) (byte_at regs a) b)) (a + 1) bs

-- where masks say it of each of them
abbrev pub Plain : ℕ → List ℕ → Type 0
Plain a [] = Unit {0}
Plain a (b ∷ bs) = (special_of a b ≡ None) × Plain (a + 1) bs
