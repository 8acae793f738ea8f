-- Where the device's registers part from HDA 1.0a, by name (docs/DIFFERENCES.md lists them): the Rust decides there, and document 01 where it says so.
use Rattle.std.specs.Prelude.{ℕ, ◌%◌, Bool, true, false, cond, not, ◌&&◌, ◌||◌, List, [], ◌∷◌, eqb}
use Prim.Native.String.{String}
use Rattle.registers_hda.specs.Table.{all, top}

-- ---- masks
-- a register of which the device writes and clears these bits, not those of its row
pub record Exception : Type 0 where
  pub name : String
  pub written : ℕ
  pub cleared : ℕ

abbrev pub exception : String → ℕ → ℕ → Exception
exception name written cleared = record { name = name; written = written; cleared = cleared }

abbrev pub exceptions : List Exception
exceptions =
    -- all bits are kept, also those of serial data lines and streams that are not there
    exception "WAKEEN" (all 2) 0
    ∷ exception "INTCTL" (all 4) 0
    ∷ exception "SSYNC" (all 4) 0
    -- a one clears reserved bits too
    ∷ exception "STATESTS" 0 (all 2)
    ∷ exception "CORBSTS" 0 (all 1)
    ∷ exception "RIRBSTS" 0 (all 1)
    -- only a reset of the controller clears the flush status (document 01)
    ∷ exception "GSTS" 0 0
    -- the traffic priority bit is dropped
    ∷ exception "SDCTL" 0xf0_001f 0
    -- the reserved bits 15 and 7 are kept; such a format is unsupported
    ∷ exception "SDFMT" (all 2) 0
    ∷ []

-- ---- writes that masks do not say
pub data Special : Type 0 where
  None : Special
  -- CORBRP's high byte: bit 7 sets the read pointer to 0
  ReadPointerReset : Special
  -- RIRBWP's high byte: bit 7 sets the write pointer to 0
  WritePointerReset : Special
  -- ICIS: the immediate command (crate link_hda has what HDA says of it)
  ImmediateCommand : Special
  -- size code 3, in CORBSIZE or RIRBSIZE: reserved in HDA; the device leaves the register as it is
  SizeReserved : Special

abbrev pub is_none : Special → Bool
is_none None = true
is_none ReadPointerReset = false
is_none WritePointerReset = false
is_none ImmediateCommand = false
is_none SizeReserved = false

-- the places of CORBSIZE and RIRBSIZE
abbrev pub is_size : ℕ → Bool
is_size a = eqb a 0x4e || eqb a 0x5e

-- of the byte `b` at the place `a`
unfoldable pub special_of : ℕ → ℕ → Special
special_of a b =
    cond (eqb a 0x4b) ReadPointerReset
    (cond (eqb a 0x59) WritePointerReset
    (cond (eqb a 0x68) ImmediateCommand (cond (is_size a && eqb (b % 4) 3) SizeReserved None)))

-- In CORBRP's high byte the device parts from HDA where a zero in bit 7 meets a pointer that is not 0: in HDA the pointer stays; the device sets it to 0.
abbrev pub pointer_cleared : ℕ → ℕ → Bool
pointer_cleared old b = not (top b) && not (eqb (old % 0x8000) 0)
