-- What a run of `advance` can tell apart of two machines, as far as the streams' submitted counts go.
use Rattle.std.specs.Prelude.{ℕ, ◌+◌, ◌-◌, ◌*◌, ◌/◌, ◌≤◌, ◌<◌, min, ◌≡◌, Bool, cond, List, length, take, get_or, Option, None, Some}
use Rattle.word.specs.Place.{word_at}
use Rattle.word.specs.Parts.{part_of}
use Rattle.clock.specs.Frames.{accrue_of, whole_frames_of}
use Rattle.format.specs.Format.{format_of}
use Rattle.stream.specs.Streams.{places, list_size}
use Rattle.stream.specs.Box.{streams, captures}
use Rattle.queue.specs.Queues.{capacity}
use Rattle.host.specs.declared.Host.{Host}
use Rattle.host.specs.Hosts.{queue_at}
use Rattle.registers.specs.Places.{corbbase, bdpl, fmt}
use Rattle.device.specs.declared.Hda.{Hda}
use Rattle.device.specs.Devices.{stream_at}
use Rattle.device.specs.Machines.{Machine}

-- ---- of elapsed time: the frames that a stream can move
-- whole frames due after `nanos`: none where the format is not supported
abbrev pub frames_by : ℕ → ℕ → Option ℕ → ℕ
frames_by fraction nanos None = 0
frames_by fraction nanos (Some rate) = whole_frames_of (accrue_of rate nanos fraction)

-- of these a capture moves all, since a short read ends in silence, and a playback no more than its queue takes
abbrev pub movable_by : Bool → ℕ → ℕ → ℕ
movable_by capture queued frames = cond capture frames (min frames ((capacity - queued) / 4))

unfoldable pub movable_of : Hda → Host → ℕ → ℕ → ℕ
movable_of d h i nanos = movable_by (captures i) (queue_at h i).length (frames_by (stream_at d i).fraction nanos (format_of (word_at 2 (fmt i) d.regs)))

-- ---- of guest memory: each stream's descriptor list and the command ring, at most 256 entries each
abbrev pub list_at : List ℕ → ℕ → ℕ
list_at regs i = word_at 8 (bdpl i) regs / 128 * 128

abbrev pub list_window : ℕ
list_window = 4096

abbrev pub ring_at : List ℕ → ℕ
ring_at regs = word_at 8 corbbase regs / 128 * 128

abbrev pub ring_window : ℕ
ring_window = 1024

pub data Seen (regs : List ℕ) (p : ℕ) : Type 0 where
  listed : (i : ℕ) → i < streams → list_at regs i ≤ p → p < list_at regs i + list_window → Seen regs p
  commanded : ring_at regs ≤ p → p < ring_at regs + ring_window → Seen regs p

-- lists of bytes as long as each other, with the same byte at each place of a set
pub record Agree (P : ℕ → Type 0) (m m' : List ℕ) : Type 0 where
  pub long : length m ≡ length m'
  pub same : (p : ℕ) → P p → get_or m p 0 ≡ get_or m' p 0

-- ---- of a stream's list: the n positions that are pending
pub record Pending (n : ℕ) (l l' : List ℕ) : Type 0 where
  pub few : n ≤ places
  pub long : length l ≡ list_size
  pub long' : length l' ≡ list_size
  pub same : take (8 * n) l ≡ take (8 * n) l'

-- ---- all of it: the same device and host end, each stream's pending positions and queue, and memory as far as it is seen
pub record Copied (x y : Machine) : Type 0 where
  pub hda : x.hda ≡ y.hda
  pub host : x.host ≡ y.host
  pub lists : (i : ℕ) → i < streams → Pending (stream_at x.hda i).pending (part_of list_size i x.lists) (part_of list_size i y.lists)
  pub queues : (i : ℕ) → i < streams → part_of capacity i x.queues ≡ part_of capacity i y.queues
  pub memory : Agree (Seen x.hda.regs) x.memory y.memory
