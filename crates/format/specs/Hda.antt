-- The stream format word of HDA 1.0a, as the table of section 3.7.1 has it: the fields, what their codes stand for, and the PCM format that a word describes.
-- Nothing here is of this device, which takes few of these formats (specs/Format.antt).
use Rattle.std.specs.Prelude.{ℕ, ◌+◌, ◌*◌, ◌/◌, ◌%◌, ◌^◌, Bool, cond, ◌&&◌, List, [], ◌∷◌, eqb, ltb, length, get_or, Option, None, Some}

-- ---- the fields of the word, 16 bits

-- bit 15, TYPE: 0 PCM, 1 not PCM
abbrev pub type_field : ℕ → ℕ
type_field w = w / 2 ^ 15 % 2

-- bit 14, BASE: the base rate
abbrev pub base_field : ℕ → ℕ
base_field w = w / 2 ^ 14 % 2

-- bits 13..11, MULT: what the base rate is multiplied by
abbrev pub mult_field : ℕ → ℕ
mult_field w = w / 2 ^ 11 % 8

-- bits 10..8, DIV: what it is divided by
abbrev pub div_field : ℕ → ℕ
div_field w = w / 2 ^ 8 % 8

-- bit 7, reserved: 0
abbrev pub reserved_field : ℕ → ℕ
reserved_field w = w / 2 ^ 7 % 2

-- bits 6..4, BITS: bits per sample
abbrev pub bits_field : ℕ → ℕ
bits_field w = w / 2 ^ 4 % 8

-- bits 3..0, CHAN: channels in each frame
abbrev pub chan_field : ℕ → ℕ
chan_field w = w % 16

-- ---- what the codes stand for

-- BASE: 0 is 48 kHz, 1 is 44.1 kHz
abbrev pub base_rate : ℕ → ℕ
base_rate code = cond (eqb code 0) 48_000 44_100

-- MULT, by code: x1, x2, x3, x4; codes 4..7 are reserved
abbrev pub multipliers : List ℕ
multipliers = 1 ∷ 2 ∷ 3 ∷ 4 ∷ []

-- DIV: 0 divides by 1, up to 7, which divides by 8
abbrev pub divisor_of : ℕ → ℕ
divisor_of code = code + 1

-- BITS, by code; codes 5..7 are reserved
abbrev pub sample_bits : List ℕ
sample_bits = 8 ∷ 16 ∷ 20 ∷ 24 ∷ 32 ∷ []

-- CHAN: 0 is one channel, up to 15, which is 16
abbrev pub channels_of : ℕ → ℕ
channels_of code = code + 1

-- ---- the format

-- a PCM format; its rate is numerator / divisor, not always a whole number
pub record Pcm : Type 0 where
  pub numerator : ℕ
  pub divisor : ℕ
  pub bits : ℕ
  pub channels : ℕ

-- PCM, the reserved bit clear, no reserved code
abbrev pub defined : ℕ → Bool
defined w =
    eqb (type_field w) 0
    && eqb (reserved_field w) 0
    && ltb (mult_field w) (length multipliers)
    && ltb (bits_field w) (length sample_bits)

-- the PCM format that a word describes, where it describes one
unfoldable pub pcm_of : ℕ → Option Pcm
pcm_of w =
    cond (defined w)
    (Some
    (record {
      numerator = base_rate (base_field w) * get_or multipliers (mult_field w) 0;
      divisor = divisor_of (div_field w);
      bits = get_or sample_bits (bits_field w) 0;
      channels = channels_of (chan_field w);
    }))
    None
