-- The host end record: the two opening switches, the downstream count, and the queues (document 01, "Host end, added"), with its check: the
-- numbers 10 and 9, in that order (document 01, Numbers returned).
use Rattle.std.specs.Prelude.{ℕ, ◌*◌, ◌%◌, Bool, true, false, cond, ◌&&◌, List, get_or, set, replicate, ltb, leb, eqb}
use Rattle.std.specs.List.{list_all}
use Rattle.word.specs.Parts.{part_of}
use Rattle.stream.specs.Box.{streams, captures}
use Rattle.queue.specs.declared.Queue.{Queue}
use Rattle.queue.specs.Queues.{capacity, queue, closed, valid_queue, contents_of}
use Rattle.host.specs.declared.Host.{Host}

-- bytes that the host holds beyond the queue, at most (document 01, Host end, added)
abbrev pub max_downstream : ℕ
max_downstream = 14336

abbrev pub host : Bool → Bool → ℕ → List Queue → Host
host playback capture downstream queues = record { playback = playback; capture = capture; downstream = downstream; queues = queues }

-- a new host end: both switches off, downstream 0, every stream closed (document 01, Host end, added)
unfoldable pub fresh_of : Host
fresh_of = host false false 0 (replicate streams closed)

abbrev pub queue_at : Host → ℕ → Queue
queue_at h i = get_or h.queues i closed

abbrev pub with_queue : Host → ℕ → Queue → Host
with_queue h i q = host h.playback h.capture h.downstream (set h.queues i q)

-- number 12's condition on a downstream count (document 01, Numbers returned)
abbrev pub valid_downstream : ℕ → Bool
valid_downstream n = leb n max_downstream && eqb (n % 4) 0

-- what a host end record must meet, else number 9 (document 01, Numbers returned, below the table)
unfoldable pub valid_of : Host → Bool
valid_of h = valid_downstream h.downstream && list_all valid_queue h.queues

-- 10 for short queue space, 9 for a record that breaks a condition, else 0
unfoldable pub check_of : Host → ℕ → ℕ
check_of h space = cond (ltb space (capacity * streams)) 10 (cond (valid_of h) 0 9)

-- the switch that makes a stream's opening fail (document 01, Host end, added)
abbrev pub fails_of : Host → ℕ → Bool
fails_of h i = cond (captures i) h.capture h.playback

-- what an opening leaves: whether the stream is open, and the host end
pub record Opening : Type 0 where
  pub ok : Bool
  pub host : Host

abbrev pub opening_of : Bool → Host → Opening
opening_of ok h = record { ok = ok; host = h }

-- A stream that is open stays so, its queue too; else the switch decides, and opening empties the queue (the Rust's `Hda::open_stream`).
unfoldable pub open_of : Host → ℕ → Opening
open_of h i =
    cond (queue_at h i).live (opening_of true h)
    (cond (fails_of h i) (opening_of false h) (opening_of true (with_queue h i (queue true 0))))

-- closing empties the queue (document 01, Host end, added)
unfoldable pub close_of : Host → ℕ → Host
close_of h i = with_queue h i closed

-- the bytes queued for a stream
abbrev pub queued_of : Host → List ℕ → ℕ → List ℕ
queued_of h space i = contents_of (queue_at h i) (part_of capacity i space)
