-- What a turn reads of the registers, the codec and the host end. None of it changes while the turn lasts, so it is read once: a turn writes a stream's control,
-- status and position alone.
use Rattle.std.specs.Prelude.{ℕ, ◌/◌, List}
use Rattle.word.specs.Place.{word_at}
use Rattle.codec.specs.declared.Codec.{Codec}
use Rattle.codec.specs.Codecs.{connected_of, amplifier_byte_of}
use Rattle.stream.specs.declared.Cyclic.{Cyclic}
use Rattle.stream.specs.Box.{captures}
use Rattle.registers.specs.Places.{dplbase, tag, cbl, lvi, fmt, bdpl, byte_at}
use Rattle.turn.specs.declared.Setup.{Setup}

-- a stream's cyclic buffer (HDA 1.0a 3.3.38 to 3.3.42)
abbrev pub cyclic_of : List ℕ → ℕ → Cyclic
cyclic_of regs i = record { capture = captures i; bdl = word_at 8 (bdpl i) regs; lvi = word_at 2 (lvi i) regs; cbl = word_at 4 (cbl i) regs }

-- Whether the codec's converter of that direction is set to the stream's tag and format, and its amplifier bytes; `limit` is what the queue may hold.
unfoldable pub setup_of : List ℕ → Codec → ℕ → ℕ → ℕ → Setup
setup_of regs codec i downstream limit =
    record {
      cyclic = cyclic_of regs i;
      connected = connected_of codec (captures i) (byte_at regs (tag i) / 16) (word_at 2 (fmt i) regs);
      left = amplifier_byte_of codec (captures i) 0;
      right = amplifier_byte_of codec (captures i) 1;
      downstream = downstream;
      limit = limit;
      dplbase = word_at 8 dplbase regs;
      index = i;
    }
