-- One transfer of at most a period, between guest memory and a stream's host queue: document 01, "Stream transfer" and "Host end, added"; the Rust's
-- `transfer` from its first test to the host's queue.
use Rattle.std.specs.Prelude.{ℕ, ◌-◌, ◌≤◌, Bool, false, cond, List, ◌++◌, length, take, replicate, is_none}
use Rattle.gain.specs.Gain.{gain_of, amplified_of}
use Rattle.stream.specs.declared.Stream.{Stream}
use Rattle.stream.specs.declared.Cyclic.{Cyclic}
use Rattle.stream.specs.Streams.{list_size, period}
use Rattle.plan.specs.Plans.{limited, ready_of}
use Rattle.pieces.specs.Pieces.{Out, state_of, pieces_of}
use Rattle.queue.specs.declared.Queue.{Queue}
use Rattle.queue.specs.Queues.{capacity, Moved, moved_of, put_of, take_of}
use Rattle.transfer.specs.declared.Transferred.{Transferred}

-- whether it succeeded, whether the limit of pending completions stopped it, the stream and its queue
pub record Outcome : Type 0 where
  pub ok : Bool
  pub full : Bool
  pub stream : Stream
  pub queue : Queue

-- the same of the code's answer
abbrev pub told : Transferred → Outcome
told r = record { ok = is_none r.stop; full = limited r.stop; stream = r.stream; queue = r.queue }

-- all that a transfer leaves: the answer, the list, the queue's part of the lent space, and guest memory
pub record Transfer : Type 0 where
  pub transferred : Outcome
  pub list : List ℕ
  pub part : List ℕ
  pub memory : List ℕ

abbrev pub left_of : Transferred → List ℕ → List ℕ → List ℕ → Transfer
left_of r l part m = record { transferred = told r; list = l; part = part; memory = m }

abbrev pub transfer_out : Bool → Bool → Stream → Queue → List ℕ → List ℕ → List ℕ → Transfer
transfer_out ok full s q l part m =
    record { transferred = record { ok = ok; full = full; stream = s; queue = q }; list = l; part = part; memory = m }

-- what the pieces left, beside a queue and its part
abbrev pub with_pieces : Out → Queue → List ℕ → Transfer
with_pieces o q part = transfer_out o.ok o.full o.state.stream q o.state.list part o.state.memory

abbrev pub silence : ℕ → List ℕ
silence n = replicate n 0

-- A capture's samples. A connected stream takes frames out of its queue, ends a short read in silence, and amplifies; another takes none and is silent.
abbrev pub taken_of : Bool → Queue → List ℕ → ℕ → Moved
taken_of connected q part count = cond connected (take_of q part count) (moved_of 0 q part)

abbrev pub captured_of : Bool → ℕ → ℕ → List ℕ → Moved → ℕ → List ℕ
captured_of connected left right part m count =
    cond connected (amplified_of (gain_of left) (gain_of right) (take m.count part ++ silence (count - m.count))) (silence count)

-- frames that were taken stay taken where a piece fails
unfoldable pub capture_of : Cyclic → Stream → Queue → Bool → ℕ → ℕ → List ℕ → List ℕ → List ℕ → ℕ → Transfer
capture_of g s q connected left right l part m count =
    let taken = taken_of connected q part count in
    with_pieces (pieces_of count g count (state_of s l m (captured_of connected left right part taken count) 0)) taken.queue taken.part

-- A playback's samples go behind those queued, amplified where the stream is connected, else as silence. A failed transfer queues nothing.
abbrev pub heard_of : Bool → ℕ → ℕ → List ℕ → ℕ → List ℕ
heard_of connected left right pcm count = cond connected (amplified_of (gain_of left) (gain_of right) pcm) (silence count)

abbrev pub queued_of : Out → Moved → Queue → List ℕ → Transfer
queued_of o put q part = cond o.ok (with_pieces o put.queue put.part) (with_pieces o q part)

-- The queue, its part and the samples, where a stream plays and no piece failed, and else. The samples, which are those before gain, stay (T-03).
pub record Queued : Type 0 where
  pub queue : Queue
  pub part : List ℕ
  pub pcm : List ℕ

abbrev pub queued_in : Queue → List ℕ → List ℕ → Queued
queued_in q part pcm = record { queue = q; part = part; pcm = pcm }

abbrev pub queued_by : Bool → Queue → Bool → ℕ → ℕ → List ℕ → List ℕ → Queued
queued_by plays q connected left right part pcm =
    let put = put_of q part (heard_of connected left right pcm (length pcm)) (length pcm) in
    cond plays (queued_in put.queue put.part pcm) (queued_in q part pcm)

unfoldable pub playback_of : Cyclic → Stream → Queue → Bool → ℕ → ℕ → List ℕ → List ℕ → List ℕ → ℕ → Transfer
playback_of g s q connected left right l part m count =
    let o = pieces_of count g count (state_of s l m (silence count) 0) in
    queued_of o (put_of q part (heard_of connected left right o.state.pcm count) count) q part

-- a capture or a playback
abbrev pub frames_moved : Cyclic → Stream → Queue → Bool → ℕ → ℕ → List ℕ → List ℕ → List ℕ → ℕ → Transfer
frames_moved g s q connected left right l part m count =
    cond g.capture (capture_of g s q connected left right l part m count) (playback_of g s q connected left right l part m count)

-- a cyclic buffer that is not ready fails the transfer before anything is moved or taken
unfoldable pub transfer_of : Cyclic → Stream → Queue → Bool → ℕ → ℕ → List ℕ → List ℕ → List ℕ → ℕ → Transfer
transfer_of g s q connected left right l part m count =
    cond (ready_of g) (frames_moved g s q connected left right l part m count) (transfer_out false false s q l part m)

-- what a transfer requires: at most a period, a queue within its capacity, and room for every position and for the queue
pub record TransferNeeds (q : Queue) (count : ℕ) (list part : List ℕ) : Type 0 where
  pub short : count ≤ period
  pub queued : q.length ≤ capacity
  pub long : list_size ≤ length list
  pub space : capacity ≤ length part
