-- The marked lines of document 01's table "Worked by hand".
use Rattle.std.specs.Prelude.{◌≡◌, [], ◌∷◌, ℤ, pos, negsuc, ℕ}
use Rattle.gain.specs.Gain.{gain_of, scaled}
use Rattle.clock.specs.declared.Clock.{Clock}
use Rattle.clock.specs.Clock.{advance_of}
use Rattle.codec.specs.declared.Codec.{Codec}
use Rattle.codec.specs.Codecs.{verb_of, words_of}

abbrev pub clock : ℕ → ℕ → Clock
clock ticks fraction = record { ticks = ticks; fraction = fraction }

pub record Marked : Type 0 where
  -- byte 0x4a leaves all samples, 0xca silences all
  pub unity : (z : ℤ) → scaled (gain_of 0x4a) z ≡ z
  pub muted : (z : ℤ) → scaled (gain_of 0xca) z ≡ pos 0
  -- +20 dB: the clamp on both sides
  pub louder : scaled (gain_of 0x5e) (pos 3276) ≡ pos 32760
  pub top : scaled (gain_of 0x5e) (pos 3277) ≡ pos 32767
  pub bottom : scaled (gain_of 0x5e) (negsuc 3276) ≡ negsuc 32767
  -- -20 dB: halves away from zero
  pub below_half : scaled (gain_of 0x36) (pos 4) ≡ pos 0
  pub half : scaled (gain_of 0x36) (pos 5) ≡ pos 1
  pub minus-half : scaled (gain_of 0x36) (negsuc 4) ≡ negsuc 0
  -- -74 dB: the smallest sample that is heard
  pub unheard : scaled (gain_of 0x00) (pos 2505) ≡ pos 0
  pub heard : scaled (gain_of 0x00) (pos 2506) ≡ pos 1
  -- from remainder 0
  pub no-tick : advance_of (clock 0 0) 41 ≡ clock 0 984_000_000
  pub one-tick : advance_of (clock 0 0) 42 ≡ clock 1 8_000_000
  -- whatever the codec's state
  pub vendor : (c : Codec) → words_of (verb_of c 0x000f_0000).reply ≡ 0x1af4_0022 ∷ []
  pub other-codec : (c : Codec) → words_of (verb_of c 0x1000_0000).reply ≡ []
