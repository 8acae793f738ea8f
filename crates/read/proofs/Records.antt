-- The device in a record: each of its streams is the one whose numbers stand there, and what the check asks of it is asked of the record. Assumes nothing.
use Prim.Native.Nat.{ℕ, zero, suc, ◌+◌, ◌*◌, ◌≤◌}
use mathlib.Core.Path.{◌≡◌, refl, ap}
use mathlib.Core.Bool.{Bool, ◌&&◌}
use mathlib.Core.List.{List}
use native.Mathlib.Omega.{arith}
use lib.Dec.{eqb, leb, ltb}
use Rattle.std.specs.List.{list_all, range_with_len}
use lib.ListN.{take, drop}
use lib.Seq.{take-take}
use Rattle.word.specs.Value.{value_of}
use Rattle.word.specs.Place.{word_at}
use Rattle.clock.specs.Billionths.{billion}
use Rattle.stream.specs.Streams as stream
use Rattle.stream.specs.Box.{streams}
use Rattle.stream.specs.Streams.{list_size}
use Rattle.configuration.specs.Configuration.{identity}
use Rattle.device.specs.Devices.{streams_valid, valid_of}
use Rattle.record.specs.Loads.{stream_at, device_at}
use Rattle.record.proofs.Theorems.{stream-loaded}

-- the identity is the first word of the configuration
identity-there : (b : List ℕ) → word_at 4 0 (device_at b).config ≡ word_at 4 6 b
unfolding device_at word_at
identity-there b = ap value_of (take-take 4 256 (drop 6 b) (omega arith))

-- what the check asks of a device in a record
pub valid_there : (b lists : List ℕ) → valid_of (device_at b) lists
    ≡ (ltb (word_at 8 670 b) billion && (leb (word_at 2 678 b) 255 && (eqb (word_at 4 6 b) identity && streams_valid streams 0 (device_at b) lists)))
unfolding valid_of device_at
valid_there b lists = rw (identity-there b) refl

-- what the check asks of stream `i`, where its numbers and its list stand
abbrev pub held_at : List ℕ → List ℕ → ℕ → Bool
held_at b lists i = stream.valid_of (stream_at (680 + 34 * i) b) (take list_size (drop (list_size * i) lists))

-- what the scan over the numbers gives
pub valid_list : (b lists : List ℕ) (n i : ℕ) → i + n ≤ streams → list_all (held_at b lists) (range_with_len i n) ≡ streams_valid n i (device_at b) lists
unfolding streams_valid
valid_list b lists zero i few = refl
valid_list b lists (suc n) i few = rw (stream-loaded b i (omega arith), valid_list b lists n (i + 1) (omega arith)) refl
