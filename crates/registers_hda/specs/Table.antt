-- The controller's registers as HDA 1.0a has them (chapter 3): where each stands, its value at reset, and by whom its bits change. Bits that nobody changes are reserved or
-- constant. Written from its tables, not from the device.
use Rattle.std.specs.Prelude.{ℕ, zero, suc, ◌+◌, ◌-◌, ◌*◌, ◌/◌, ◌%◌, ◌^◌, Bool, cond, not, ◌&&◌, List, [], ◌∷◌, ◌++◌, eqb, leb, ltb}
use Prim.Native.String.{String}
use Rattle.std.specs.Int.Bits.{bit_and, bit_or}
use Rattle.stream.specs.Box.{streams, captures}

pub record Row : Type 0 where
  pub name : String
  pub place : ℕ
  -- in bytes
  pub width : ℕ
  -- the bits that software writes (RW)
  pub written : ℕ
  -- .. that it clears by a one (RW1C)
  pub cleared : ℕ
  -- .. and that the controller drives: status and counts, also those that software clears, and the flush and run bits that it clears itself
  pub driven : ℕ
  pub reset : ℕ

abbrev pub row : String → ℕ → ℕ → ℕ → ℕ → ℕ → ℕ → Row
row name place width written cleared driven reset =
    record { name = name; place = place; width = width; written = written; cleared = cleared; driven = driven; reset = reset }

-- ---- what HDA leaves to the maker
-- how many of the first `n` streams pass a test
abbrev pub count : (ℕ → Bool) → ℕ → ℕ
count test zero = 0
count test (suc n) = count test n + cond (test n) 1 0

-- GCAP: output streams in bits 15..12, input streams in bits 11..8, no bidirectional ones, one serial data out line, 64-bit addresses (bit 0)
abbrev pub capabilities : ℕ
capabilities = 0x1000 * count (λ i. not (captures i)) streams + 0x100 * count captures streams + 1

-- a ring may have 256, 16 or 2 entries (bits 6..4), and has 256 (code 2 in bits 1..0)
abbrev pub ring_size : ℕ
ring_size = 0x72

-- a FIFO of 1,024 bytes, less one
abbrev pub fifo_size : ℕ
fifo_size = 1023

-- ---- the table
-- every bit of a register of `n` bytes, and a bit for each stream
abbrev pub all : ℕ → ℕ
all n = 256 ^ n - 1

abbrev pub stream_bits : ℕ
stream_bits = 2 ^ streams - 1

-- Name, place, width, written, cleared, driven, reset (3.3.2 to 3.3.34; the immediate command 3.4). A frame has 60 words out and 29 in; OUTSTRMPAY and INSTRMPAY are the
-- maker's. Bit 15 of CORBRP reads as it was written, that of RIRBWP as 0.
abbrev pub global_rows : List Row
global_rows =
    row "GCAP" 0x00 2 0 0 0 capabilities
    ∷ row "VMIN" 0x02 1 0 0 0 0
    ∷ row "VMAJ" 0x03 1 0 0 0 1
    ∷ row "OUTPAY" 0x04 2 0 0 0 60
    ∷ row "INPAY" 0x06 2 0 0 0 29
    ∷ row "GCTL" 0x08 4 0x103 0 0x2 0
    ∷ row "WAKEEN" 0x0c 2 0x7fff 0 0 0
    ∷ row "STATESTS" 0x0e 2 0 0x7fff 0x7fff 0
    ∷ row "GSTS" 0x10 2 0 0x2 0x2 0
    ∷ row "OUTSTRMPAY" 0x18 2 0 0 0 0
    ∷ row "INSTRMPAY" 0x1a 2 0 0 0 0
    ∷ row "INTCTL" 0x20 4 (2 ^ 31 + 2 ^ 30 + stream_bits) 0 0 0
    ∷ row "INTSTS" 0x24 4 0 0 (2 ^ 31 + 2 ^ 30 + stream_bits) 0
    ∷ row "WALCLK" 0x30 4 0 0 (all 4) 0
    ∷ row "SSYNC" 0x38 4 stream_bits 0 0 0
    ∷ row "CORBLBASE" 0x40 4 0xffff_ff80 0 0 0
    ∷ row "CORBUBASE" 0x44 4 (all 4) 0 0 0
    ∷ row "CORBWP" 0x48 2 0xff 0 0 0
    ∷ row "CORBRP" 0x4a 2 0x8000 0 0xff 0
    ∷ row "CORBCTL" 0x4c 1 0x3 0 0 0
    ∷ row "CORBSTS" 0x4d 1 0 0x1 0x1 0
    ∷ row "CORBSIZE" 0x4e 1 0x3 0 0 ring_size
    ∷ row "RIRBLBASE" 0x50 4 0xffff_ff80 0 0 0
    ∷ row "RIRBUBASE" 0x54 4 (all 4) 0 0 0
    ∷ row "RIRBWP" 0x58 2 0 0 0xff 0
    ∷ row "RINTCNT" 0x5a 2 0xff 0 0 0
    ∷ row "RIRBCTL" 0x5c 1 0x7 0 0 0
    ∷ row "RIRBSTS" 0x5d 1 0 0x5 0x5 0
    ∷ row "RIRBSIZE" 0x5e 1 0x3 0 0 ring_size
    ∷ row "ICOI" 0x60 4 (all 4) 0 0 0
    ∷ row "ICII" 0x64 4 0 0 (all 4) 0
    ∷ row "ICIS" 0x68 2 0x1 0x2 0xff 0
    ∷ row "DPLBASE" 0x70 4 0xffff_ff81 0 0 0
    ∷ row "DPUBASE" 0x74 4 (all 4) 0 0 0
    ∷ []

-- Stream i's (3.3.35 to 3.3.43). With no bidirectional stream and one serial data out line, SDCTL's direction and stripe bits are constant.
abbrev pub stream_rows : ℕ → List Row
stream_rows i =
    let base : ℕ = 0x80 + 0x20 * i in
    row "SDCTL" base 3 0xf4_001f 0 0x2 0
    ∷ row "SDSTS" (base + 0x03) 1 0 0x1c 0x3c 0
    ∷ row "SDLPIB" (base + 0x04) 4 0 0 (all 4) 0
    ∷ row "SDCBL" (base + 0x08) 4 (all 4) 0 0 0
    ∷ row "SDLVI" (base + 0x0c) 2 0xff 0 0 0
    ∷ row "SDFIFOS" (base + 0x10) 2 0 0 0 fifo_size
    ∷ row "SDFMT" (base + 0x12) 2 0x7f7f 0 0 0
    ∷ row "SDBDPL" (base + 0x18) 4 0xffff_ff80 0 0 0
    ∷ row "SDBDPU" (base + 0x1c) 4 (all 4) 0 0 0
    ∷ []

-- those of the first `n` streams
abbrev pub all_stream_rows : ℕ → List Row
all_stream_rows zero = []
all_stream_rows (suc n) = all_stream_rows n ++ stream_rows n

abbrev pub table : List Row
table = global_rows ++ all_stream_rows streams

-- the byte of a column at a place; 0 where no row has the place
abbrev pub column_at : (Row → ℕ) → List Row → ℕ → ℕ
column_at column [] a = 0
column_at column (r ∷ rs) a =
    cond (leb r.place a && ltb a (r.place + r.width)) (column r / 256 ^ (a - r.place) % 256) (column_at column rs a)

-- ---- what a write does
-- To a byte: the bits of `written` come from the new one, those of `cleared` where the new one has a one become 0, all others stay.
abbrev pub byte_after : ℕ → ℕ → ℕ → ℕ → ℕ
byte_after written cleared old new = bit_or (bit_and new written) (bit_and old (255 - bit_or written (bit_and new cleared)))

-- To a ring's pointer, whose word is `old`, where the byte `b` is written to its high byte: bit 15 of the word is the byte's bit 7.
abbrev pub top : ℕ → Bool
top b = eqb (b / 0x80 % 2) 1

-- CORBRP: a one in bit 15 sets the pointer to 0, and is read back; a zero is read back, and the pointer stays
abbrev pub read_pointer_of : ℕ → ℕ → ℕ
read_pointer_of old b = cond (top b) 0x8000 (old % 0x8000)

-- RIRBWP: a one in bit 15 sets the pointer to 0, and is not read back; a zero does nothing
abbrev pub write_pointer_of : ℕ → ℕ → ℕ
write_pointer_of old b = cond (top b) 0 old
