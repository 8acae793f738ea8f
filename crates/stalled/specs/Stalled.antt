-- A stall that 31 callbacks do not end (request T-10): so its bound of 32 is met, and its conditions are those of a machine that there is.
use Rattle.std.specs.Prelude.{ℕ, ◌+◌, ◌-◌, ◌*◌, ◌≡◌, refl, false, true, List, [], ◌∷◌, ◌++◌, set, replicate}
use Rattle.word.specs.Value.{bytes_of}
use Rattle.word.specs.Place.{store_at}
use Rattle.clock.specs.Billionths.{billion}
use Rattle.stream.specs.Box.{streams}
use Rattle.stream.specs.Streams as stream
use Rattle.stream.specs.Streams.{list_size}
use Rattle.queue.specs.Queues.{capacity, queue, closed}
use Rattle.host.specs.declared.Host.{Host}
use Rattle.host.specs.Hosts.{host}
use Rattle.registers.specs.Places.{gctl, ctl, sts, cbl, fmt}
use Rattle.registers.specs.Reset.{reset_of}
use Rattle.driver.specs.Calls.{playback_stream}
use Rattle.device.specs.declared.Hda.{Hda}
use Rattle.device.specs.Devices.{hda, fresh_of}
use Rattle.device.specs.Machines.{Machine, machine}
use Rattle.book.specs.Lists.{run}
use Rattle.catchup.specs.Callbacks.{Callback, steps_of, deferred_of, Throughout}
use Rattle.catchup.specs.Claim.{least_pull}

-- the controller out of reset; the playback stream runs at 48,000, over a cyclic buffer of 1,024 bytes and one descriptor whose list is at address 0, and has moved frames before
abbrev pub registers : List ℕ
registers = set (set (set (store_at 4 (cbl playback_stream) 1024 (set reset_of (fmt playback_stream) 0x11)) (ctl playback_stream) 2) (sts playback_stream) 0x20) gctl 1

-- that descriptor, unflagged, and its 1,024 bytes behind the list
abbrev pub memory : List ℕ
memory = bytes_of 8 128 ++ (bytes_of 4 1024 ++ replicate 1140 0)

-- a new device but for that, with DMA on; k callbacks have moved 256 frames each of the 8,192 that were deferred, and all but the queue is heard
abbrev pub device_at : ℕ → Hda
device_at k =
    let d = fresh_of false in
    hda (set d.config 4 4) registers d.link (stream.fresh_of ∷ stream.stream 0 0 (2 * capacity + 1024 * k) (capacity + 1024 * k) ((8192 - 256 * k) * billion) 0 ∷ []) d.clock false false false

-- its host end holds so many bytes for the stream, and nothing downstream
abbrev pub holding : ℕ → Host
holding bytes = host false false 0 (closed ∷ queue true bytes ∷ [])

abbrev pub queues : List ℕ
queues = replicate (capacity * streams) 0

-- the machine, its queue full
abbrev pub stalled_at : ℕ → Machine
stalled_at k = machine (device_at k) (holding capacity) (replicate (list_size * streams) 0) queues memory

-- 256 frames are pulled, which leaves room for as many
abbrev pub callback : Callback
callback =
    record {
      pulling = record { host = holding capacity; sized = refl; queues = queues; memory = memory };
      into = replicate (4 * least_pull) 0;
      advancing = record { host = holding (capacity - 4 * least_pull); sized = refl; queues = queues; memory = memory };
    }

abbrev pub callbacks : List Callback
callbacks = replicate 31 callback

pub record Met : Type 0 where
  pub throughout : Throughout playback_stream least_pull callbacks (stalled_at 0)
  pub deferred : deferred_of playback_stream (stalled_at 0) ≡ 8192
  pub left : deferred_of playback_stream (run (steps_of callbacks) (stalled_at 0)) ≡ 256
