-- A host end's bytes, a host end out of them, and which bytes are a host end record: others give number 9 (document 01, "What must change shape").
use Rattle.std.specs.Prelude.{ℕ, zero, suc, ◌+◌, ◌*◌, Bool, true, ◌&&◌, List, ◌∷◌, ◌++◌, length, eqb}
use Rattle.word.specs.Value.{bytes_of}
use Rattle.word.specs.Place.{word_at}
use Rattle.stream.specs.Box.{streams}
use Rattle.queue.specs.declared.Queue.{Queue}
use Rattle.queue.specs.Queues.{queue}
use Rattle.host.specs.declared.Host.{Host}
use Rattle.host.specs.Hosts as hosts
use Rattle.record.specs.Rows.{runs_of, row_of}
use Rattle.record.specs.Devices.{flag}
use Rattle.record.specs.Loads.{flag_at, is_flag_at}

-- bytes of the settings, of a queue, and of the record (docs/LAYOUT.md)
abbrev pub settings_size : ℕ
settings_size = 6

abbrev pub queue_size : ℕ
queue_size = 5

abbrev pub host_size : ℕ
host_size = settings_size + queue_size * streams

-- whether the stream is open, and the bytes queued
abbrev pub queue_bytes : Queue → List ℕ
queue_bytes q = flag q.live ∷ bytes_of 4 q.length

-- queue `i` and those after it
abbrev pub queues_bytes : ℕ → ℕ → Host → List ℕ
queues_bytes n i h = runs_of (λ k. queue_bytes (hosts.queue_at h k)) n i

-- the two switches, the downstream count, the queues
unfoldable pub host_bytes : Host → List ℕ
host_bytes h = flag h.playback ∷ flag h.capture ∷ (bytes_of 4 h.downstream ++ queues_bytes streams 0 h)

abbrev pub queue_at : ℕ → List ℕ → Queue
queue_at at b = queue (flag_at at b) (word_at 4 (at + 1) b)

abbrev pub queue_place : ℕ → ℕ
queue_place i = settings_size + queue_size * i

abbrev pub queues_at : ℕ → ℕ → List ℕ → List Queue
queues_at n i b = row_of (λ k. queue_at (queue_place k) b) n i

unfoldable pub host_at : List ℕ → Host
host_at b = hosts.host (flag_at 0 b) (flag_at 1 b) (word_at 4 2 b) (queues_at streams 0 b)

unfoldable pub queues_flagged : ℕ → ℕ → List ℕ → Bool
queues_flagged zero i b = true
queues_flagged (suc n) i b = is_flag_at (queue_place i) b && queues_flagged n (i + 1) b

unfoldable pub is_host : List ℕ → Bool
is_host b = eqb (length b) host_size && (is_flag_at 0 b && (is_flag_at 1 b && queues_flagged streams 0 b))
