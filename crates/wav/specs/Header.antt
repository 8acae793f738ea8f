-- The header of a take as RIFF WAVE (T-02): 16-bit stereo PCM with one data chunk. Little-endian fields, each with its place, its width in bytes and its value, as the RIFF WAVE layout has them.
use Rattle.std.specs.Prelude.{ℕ, ◌+◌, ◌*◌, ◌/◌, List, [], ◌∷◌, replicate}
use Rattle.word.specs.Value.{value_of}
use Rattle.word.specs.Place.{store_at}

-- bytes of the header
abbrev pub header_size : ℕ
header_size = 44

-- stereo, bits of a sample, and the bytes of a frame that follow from them
abbrev pub channels : ℕ
channels = 2

abbrev pub sample_bits : ℕ
sample_bits = 16

abbrev pub frame_size : ℕ
frame_size = channels * (sample_bits / 8)

pub record Field : Type 0 where
  pub place : ℕ
  pub width : ℕ
  pub value : ℕ

abbrev field : ℕ → ℕ → ℕ → Field
field place width value = record { place = place; width = width; value = value }

-- a chunk's or a form's name: four letters in their order
abbrev letters : ℕ → ℕ → ℕ → ℕ → ℕ
letters a b c d = value_of (a ∷ b ∷ c ∷ d ∷ [])

-- the table, for frames a second and bytes of frames
abbrev pub fields : ℕ → ℕ → List Field
fields rate size =
    -- the file: `RIFF`, the bytes behind this size, and the form `WAVE`
    field 0 4 (letters 0x52 0x49 0x46 0x46)
    ∷ field 4 4 (36 + size)
    ∷ field 8 4 (letters 0x57 0x41 0x56 0x45)
    -- the format chunk: `fmt `, its size, PCM, channels, frames and bytes a second, bytes of a frame, bits of a sample
    ∷ field 12 4 (letters 0x66 0x6d 0x74 0x20)
    ∷ field 16 4 16
    ∷ field 20 2 1
    ∷ field 22 2 channels
    ∷ field 24 4 rate
    ∷ field 28 4 (rate * frame_size)
    ∷ field 32 2 frame_size
    ∷ field 34 2 sample_bits
    -- the data chunk: `data`, and its size
    ∷ field 36 4 (letters 0x64 0x61 0x74 0x61)
    ∷ field 40 4 size
    ∷ []

-- bytes with each field at its place
abbrev pub laid : List Field → List ℕ → List ℕ
laid [] bytes = bytes
laid (f ∷ fs) bytes = laid fs (store_at f.width f.place f.value bytes)

unfoldable pub header_of : ℕ → ℕ → List ℕ
header_of rate size = laid (fields rate size) (replicate header_size 0)
