-- The table is well laid out, and no exception is idle.
use Prim.Native.Nat.{ℕ, ◌+◌, ◌^◌}
use Prim.Native.String.{String}
use mathlib.Core.Path.{◌≡◌, refl, sym, ap, ◌∙◌}
use mathlib.Core.Bool.{Bool, true, false, cond, not, ◌&&◌, ◌||◌}
use mathlib.Core.List.{List, [], ◌∷◌}
use native.Mathlib.Omega.{arith}
use borrow.Author.Tests.{eqb-false}
use lib.Bits.{bit_and}
use lib.Dec.{eqb, leb, ltb}
use lib.ListN.{set}
use lib.Text.{eqt}
use Rattle.word.specs.Place.{put_at, word_at, store_at}
use Rattle.word.specs.Each.{each_of}
use Rattle.codec.specs.Codecs.{fresh_of, verb_of}
use Rattle.registers.specs.Places.{gctl, byte_at}
use Rattle.registers.specs.Reset.{reset_stream_of, reset_of}
use Rattle.registers.specs.Writes.{control_byte_of, write_byte_of, align_of}
use Rattle.immediate.specs.Immediate.{immediate_of}
use Rattle.rings.specs.Rings.{link_of}
use Rattle.bus.specs.Bus.{front_of, byte_of}
use Rattle.registers_hda.specs.Table.{Row, table, byte_after, read_pointer_of}
use Rattle.registers_hda.specs.Exceptions.{Exception, exceptions, Special, None, ReadPointerReset, WritePointerReset, SizeReserved, ImmediateCommand, special_of, pointer_cleared}
use Rattle.registers_hda.specs.Files.{written_at, cleared_at, reset_at, constant_at, Regular}
use Rattle.registers_hda.proofs.Keeping.{regular-set}
use Rattle.registers_hda.proofs.Resets.{reset-regular}

-- ---- the table
-- a row's columns fit its width, and no bit is both written and cleared by a one
abbrev fits : Row → Bool
fits r =
    ltb r.written (256 ^ r.width)
    && (ltb r.cleared (256 ^ r.width)
    && (ltb r.driven (256 ^ r.width) && (ltb r.reset (256 ^ r.width) && eqb (bit_and r.written r.cleared) 0)))

-- the rows from a place on that begin before it, or do not fit
abbrev pub misplaced : ℕ → List Row → List String
misplaced from [] = []
misplaced from (r ∷ rs) =
    let rest = misplaced (r.place + r.width) rs in
    cond (leb from r.place && fits r) rest (r.name ∷ rest)

-- Rows stand in the order of their places, and none overlaps the next.
pub laid_out : misplaced 0 table ≡ []
laid_out = refl

-- ---- exceptions of masks
-- a register of that name has other masks
abbrev parted : Exception → List Row → Bool
parted e [] = false
parted e (r ∷ rs) = eqt e.name r.name && not (eqb e.written r.written && eqb e.cleared r.cleared) || parted e rs

abbrev pub idle : List Exception → List String
idle [] = []
idle (e ∷ es) = cond (parted e table) (idle es) (e.name ∷ idle es)

-- Each exception differs from its row.
pub real : idle exceptions ≡ []
real = refl

-- ---- writes that masks do not say
-- a regular file and a byte written, which leaves something else than its masks would
pub record Parted (s : Special) : Type 0 where
  pub regs : List ℕ
  pub regular : Regular regs
  pub place : ℕ
  pub byte : ℕ
  pub raised : special_of place byte ≡ s
  pub differs : ¬ (align_of (byte_of (front_of regs (link_of fresh_of 0)) place byte).regs
      ≡ set regs place (byte_after (written_at place) (cleared_at place) (byte_at regs place) byte))

-- `at` has `v` after it, and by its masks `w`
witness : {s : Special} {regs : List ℕ} → Regular regs → (place byte at v w : ℕ) → special_of place byte ≡ s
    → byte_at (align_of (byte_of (front_of regs (link_of fresh_of 0)) place byte).regs) at ≡ v
    → byte_at (set regs place (byte_after (written_at place) (cleared_at place) (byte_at regs place) byte)) at ≡ w
    → eqb v w ≡ false → Parted s
witness {s} {regs} r place byte at v w raised hv hw d =
    record {
      regs = regs;
      regular = r;
      place = place;
      byte = byte;
      raised = raised;
      differs = λ same. eqb-false v w d (sym hv ∙ ap (λ (l : List ℕ). byte_at l at) same ∙ hw);
    }

pub special-real : (s : Special) → ¬ (s ≡ None) → Parted s
unfolding special_of written_at cleared_at reset_at constant_at byte_of write_byte_of control_byte_of immediate_of verb_of fresh_of align_of each_of put_at store_at word_at reset_stream_of reset_of
special-real None h = absurd (h refl)
special-real ReadPointerReset h = witness (regular-set reset-regular 0x4a 5 (omega arith) refl) 0x4b 0x80 0x4a 0 5 refl refl refl refl
special-real WritePointerReset h = witness (regular-set reset-regular 0x58 5 (omega arith) refl) 0x59 0x80 0x58 0 5 refl refl refl refl
special-real SizeReserved h = witness reset-regular 0x4e 3 0x4e 0x72 0x73 refl refl refl refl
special-real ImmediateCommand h = witness (regular-set reset-regular gctl 1 (omega arith) refl) 0x68 1 0x68 2 1 refl refl refl refl

-- a zero written to CORBRP's high byte while the pointer is 5: HDA leaves it, the device sets it to 0
abbrev moved : List ℕ
moved = set reset_of 0x4a 5

pub pointer-real : (pointer_cleared (word_at 2 0x4a moved) 0 ≡ true) × (read_pointer_of (word_at 2 0x4a moved) 0 ≡ 5) × (word_at 2 0x4a (align_of (write_byte_of moved 0x4b 0)) ≡ 0)
unfolding write_byte_of control_byte_of align_of each_of put_at store_at word_at reset_stream_of reset_of
pointer-real = (refl, refl, refl)

-- ---- irregular files
-- Reserved bits of GCTL that a restored state has set are cleared by the next write: the table has them stay. So the theorems ask for regular files.
abbrev irregular : List ℕ
irregular = set reset_of gctl 0xfc

pub reserved-cleared : (byte_at (align_of (write_byte_of irregular gctl 1)) gctl ≡ 1) × (byte_after (written_at gctl) (cleared_at gctl) (byte_at irregular gctl) 1 ≡ 0xfd)
unfolding written_at cleared_at write_byte_of control_byte_of align_of each_of put_at store_at reset_stream_of reset_of
reserved-cleared = (refl, refl)
