-- A device's saved state, HDA1 (document 01, "Numbers returned"; the Rust's `save_state`): the head of a device's record, then every
-- stream.
use Rattle.std.specs.Prelude.{ℕ, zero, suc, ◌+◌, ◌*◌, ◌≤◌, ◌<◌, List, [], ◌++◌, length, take}
use Rattle.word.specs.Parts.{part_of}
use Rattle.stream.specs.declared.Stream.{Stream}
use Rattle.stream.specs.Streams.{places, list_size}
use Rattle.stream.specs.Box.{streams}
use Rattle.device.specs.declared.Hda.{Hda}
use Rattle.device.specs.Devices.{stream_at}
use Rattle.record.specs.Devices.{head_of, numbers_of}

-- a stream's numbers, and 8 bytes for each of its pending positions
unfoldable pub stream_of : Stream → List ℕ → List ℕ
stream_of s list = numbers_of s ++ take (8 * s.pending) list

-- stream `i` and those after it
unfoldable pub streams_of : ℕ → ℕ → Hda → List ℕ → List ℕ
streams_of zero i d lists = []
streams_of (suc n) i d lists = stream_of (stream_at d i) (part_of list_size i lists) ++ streams_of n (i + 1) d lists

unfoldable pub state_of : Hda → List ℕ → List ℕ
state_of d lists = head_of d ++ streams_of streams 0 d lists

-- its length: 748 + 8 × pending for two streams
unfoldable pub sizes_of : ℕ → ℕ → Hda → ℕ
sizes_of zero i d = 0
sizes_of (suc n) i d = 34 + 8 * (stream_at d i).pending + sizes_of n (i + 1) d

unfoldable pub size_of : Hda → ℕ
size_of d = 680 + sizes_of streams 0 d

-- what the check leaves known: no list is longer than its places, and there is space for all of them
abbrev pub Few : Hda → Type 0
Few d = (i : ℕ) → i < streams → (stream_at d i).pending ≤ places

pub record Kept (d : Hda) (lists : List ℕ) : Type 0 where
  pub few : Few d
  pub long : list_size * streams ≤ length lists
