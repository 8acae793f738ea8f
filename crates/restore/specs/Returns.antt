-- What comes back of a device that was saved: which devices' states are taken, and what a device that takes one has of it.
use Rattle.std.specs.Prelude.{ℕ, ◌<◌, ◌≡◌, Bool, true, false, cond, not, ◌&&◌, ◌||◌, List, eqb}
use Rattle.word.specs.Place.{word_at, store_at}
use Rattle.word.specs.Parts.{part_of}
use Rattle.clock.specs.Clock.{shown_of}
use Rattle.codec.specs.Codecs.{node_at}
use Rattle.node.specs.Nodes as node
use Rattle.format.specs.Format as format
use Rattle.stream.specs.declared.Stream.{Stream}
use Rattle.stream.specs.Streams.{list_size, uncrowded_of}
use Rattle.stream.specs.Box as box
use Rattle.queue.specs.declared.Queue.{Queue}
use Rattle.queue.specs.Queues.{queue}
use Rattle.host.specs.declared.Host.{Host}
use Rattle.host.specs.Hosts as hosts
use Rattle.registers.specs.Places.{walclk, ctl, fmt, byte_at, has}
use Rattle.device.specs.declared.Hda.{Hda}
use Rattle.device.specs.Devices.{hda, stream_at}
use Rattle.record.specs.Rows.{row_of}
use Rattle.restore.specs.Restores.{later_of, kept_of}

-- 5 for a format word that is not supported (document 01, "Numbers returned")
abbrev pub word_number : ℕ → ℕ
word_number w = format.number_of (format.format_of w)

-- a stream whose format register is 0 and that does not run has no format
abbrev pub stream_number : Hda → ℕ → ℕ
stream_number d i =
    let raw = word_at 2 (fmt i) d.regs in
    cond (eqb raw 0 && not (has 2 (byte_at d.regs (ctl i)))) 0 (word_number raw)

-- both converters' formats and those of the streams are supported
pub record Formats (d : Hda) : Type 0 where
  pub output : word_number (node.format_of (node_at d.link.codec 2)) ≡ 0
  pub input : word_number (node.format_of (node_at d.link.codec 4)) ≡ 0
  pub streams : (i : ℕ) → i < box.streams → stream_number d i ≡ 0

-- the devices whose states are taken: their formats are supported, and no list is crowded where that is refused
pub record Restorable (strict : Bool) (d : Hda) (lists : List ℕ) : Type 0 where
  pub formats : Formats d
  pub uncrowded : strict ≡ true → (i : ℕ) → i < box.streams → uncrowded_of (stream_at d i) (part_of list_size i lists) ≡ true

-- a stream of the saved device, with an empty list where its own is crowded and that is not refused
abbrev pub returned_stream : Bool → Hda → List ℕ → ℕ → Stream
returned_stream strict saved lists i = kept_of strict (stream_at saved i) (part_of list_size i lists)

-- The saved device on one whose clock may be later. Behind it comes the end of every call, which brings register 0x24 and the interrupt bit of the configuration
-- up to date.
unfoldable pub returned_device : Bool → Hda → List ℕ → Hda → Hda
returned_device strict saved lists d =
    let c = later_of d.clock saved.clock in
    hda saved.config (store_at 4 walclk (shown_of c) saved.regs) saved.link (row_of (returned_stream strict saved lists) box.streams 0) c saved.microphone saved.paused false

-- a stream's opening is asked for where it runs, an input's only with a microphone
abbrev pub asks_of : Hda → ℕ → Bool
asks_of saved i = has 2 (byte_at saved.regs (ctl i)) && (not (box.captures i) || saved.microphone)

-- a host end that refuses none of them
abbrev pub Willing : Hda → Host → Type 0
Willing saved h = (i : ℕ) → i < box.streams → (asks_of saved i && hosts.fails_of h i) ≡ false

-- the host end: empty queues, open where an opening was asked for
abbrev pub returned_queue : Hda → ℕ → Queue
returned_queue saved i = queue (asks_of saved i) 0

unfoldable pub returned_host : Hda → Host → Host
returned_host saved h = hosts.host h.playback h.capture h.downstream (row_of (returned_queue saved) box.streams 0)
