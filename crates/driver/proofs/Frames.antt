-- Feed and pull as seen by a stream: feed appends whole frames to the bytes queued for the capture stream, pull takes whole frames from the
-- front of those queued for the playback stream, and no other stream's bytes change. Assumes nothing.
use Prim.Native.Nat.{ℕ, ◌*◌, ◌/◌, ◌<◌, ◌≤◌}
use mathlib.Core.Path.{◌≡◌, sym, ap, ◌∙◌}
use mathlib.Core.List.{List, ◌++◌}
use mathlib.Core.Logic.{◌⊎◌, ⊎_elim}
use native.Mathlib.Omega.{arith}
use borrow.Author.Tests.{eq-eqb}
use lib.ListN.{length, take, drop}
use lib.Seq.{get_or-set_same, get_or-set_other}
use Rattle.word.specs.Parts.{part_of, with_part}
use Rattle.word.proofs.Lists.{length_part}
use Rattle.word.proofs.Parts.{part_same, part-other}
use Rattle.stream.specs.Box.{streams}
use Rattle.queue.specs.declared.Queue.{Queue}
use Rattle.queue.specs.Queues.{capacity, closed, contents_of, Moved, put_of, take_of, take_into_of}
use Rattle.queue.proofs.Contents.{put-appends, length-put-part, take-front, take-drops, length-take-part}
use Rattle.queue.proofs.Validity.{Valid, queue-conditions, fitting-whole, taken-whole}
use Rattle.host.specs.declared.Host.{Host}
use Rattle.host.specs.Hosts.{queue_at, with_queue, queued_of}
use Rattle.host.proofs.Checks.{checked, valid-queue}
use Rattle.driver.specs.Calls.{capture_stream, playback_stream, frame_check_of, Feed, fed_with, feed_of, Pull, pulled_with, pull_of}
use Rattle.driver.proofs.Checks.{frames-checked, frames-room, frames-ready}

-- a stream's queue and part anew
module _ (h : Host) (i : ℕ) (space : List ℕ) (q : Queue) (part : List ℕ) (stream : i < streams) (sized : length h.queues ≡ streams) (room : capacity * streams ≤ length space)
    (size : length part ≡ capacity) where
  pub queued-same : queued_of (with_queue h i q) (with_part capacity i space part) i ≡ contents_of q part
  queued-same = rw (get_or-set_same h.queues i q closed (omega arith), part_same capacity i space part size (omega arith))

  pub queued-other : (j : ℕ) → (j < i) ⊎ (i < j) → queued_of (with_queue h i q) (with_part capacity i space part) j ≡ queued_of h space j
  queued-other j o =
      rw (get_or-set_other h.queues i j q closed (λ e. ⊎_elim (λ b. omega arith) (λ b. omega arith) o), part-other capacity i space part size (omega arith) j o)

module _ (h : Host) (space frames : List ℕ) (sized : length h.queues ≡ streams) (passed : frame_check_of h (length space) (length frames) ≡ 0) where
  module _ (i : ℕ) (stream : i < streams) where
    conditions : Valid (queue_at h i)
    conditions = queue-conditions (queue_at h i) (valid-queue h (checked h (length space) (frames-checked h (length space) (length frames) passed).passed).valid i)

    part-size : length (part_of capacity i space) ≡ capacity
    part-size =
        let room = frames-room h space (length frames) passed in
        length_part capacity (capacity * i) space (omega arith)

  abbrev put : Moved
  put = put_of (queue_at h capture_stream) (part_of capacity capture_stream space) frames (length frames)

  fed : feed_of h space frames ≡ fed_with h capture_stream space put
  unfolding feed_of
  fed = rw (eq-eqb (frame_check_of h (length space) (length frames)) 0 passed)

  put-size : length put.part ≡ capacity
  put-size =
      let ready = frames-ready h space (length frames) passed capture_stream (omega arith) in
      length-put-part (queue_at h capture_stream) (part_of capacity capture_stream space) ready.0 ready.1 frames (length frames) (omega arith)
      ∙ part-size capture_stream (omega arith)

  pub feed-appends : queued_of (feed_of h space frames).fed.host (feed_of h space frames).space capture_stream
      ≡ queued_of h space capture_stream ++ take (4 * (feed_of h space frames).fed.frames) frames
  unfolding put_of
  feed-appends =
      let ready = frames-ready h space (length frames) passed capture_stream (omega arith) in
      let whole = fitting-whole (queue_at h capture_stream) (length frames) (conditions capture_stream (omega arith)) (frames-checked h (length space) (length frames) passed).whole in
      ap (λ (a : Feed). queued_of a.fed.host a.space capture_stream) fed
      ∙ queued-same h capture_stream space put.queue put.part (omega arith) sized (frames-room h space (length frames) passed) put-size
      ∙ put-appends (queue_at h capture_stream) (part_of capacity capture_stream space) ready.0 ready.1 frames (length frames) (omega arith)
      ∙ ap (λ (k : ℕ). queued_of h space capture_stream ++ take k frames) (sym whole)
      ∙ ap (λ (a : Feed). queued_of h space capture_stream ++ take (4 * a.fed.frames) frames) (sym fed)

  pub feed-elsewhere : (j : ℕ) → (j < capture_stream) ⊎ (capture_stream < j)
      → queued_of (feed_of h space frames).fed.host (feed_of h space frames).space j ≡ queued_of h space j
  feed-elsewhere j o =
      ap (λ (a : Feed). queued_of a.fed.host a.space j) fed
      ∙ queued-other h capture_stream space put.queue put.part (omega arith) sized (frames-room h space (length frames) passed) put-size j o

  -- a pull with a buffer of as many bytes as `frames`
  abbrev took : Moved
  took = take_of (queue_at h playback_stream) (part_of capacity playback_stream space) (length frames)

  pulled : pull_of h space frames ≡ pulled_with h playback_stream space (take_into_of (queue_at h playback_stream) (part_of capacity playback_stream space) frames)
  unfolding pull_of
  pulled = rw (eq-eqb (frame_check_of h (length space) (length frames)) 0 passed)

  took-size : length took.part ≡ capacity
  took-size =
      let ready = frames-ready h space (length frames) passed playback_stream (omega arith) in
      length-take-part (queue_at h playback_stream) (part_of capacity playback_stream space) ready.0 ready.1 (length frames)
      ∙ part-size playback_stream (omega arith)

  took-whole : 4 * (took.count / 4) ≡ took.count
  unfolding take_of
  took-whole = taken-whole (queue_at h playback_stream) (length frames) (conditions playback_stream (omega arith)) (frames-checked h (length space) (length frames) passed).whole

  pub pull-drops : queued_of (pull_of h space frames).fed.host (pull_of h space frames).space playback_stream
      ≡ drop (4 * (pull_of h space frames).fed.frames) (queued_of h space playback_stream)
  unfolding take_into_of
  pull-drops =
      let ready = frames-ready h space (length frames) passed playback_stream (omega arith) in
      ap (λ (a : Pull). queued_of a.fed.host a.space playback_stream) pulled
      ∙ queued-same h playback_stream space took.queue took.part (omega arith) sized (frames-room h space (length frames) passed) took-size
      ∙ take-drops (queue_at h playback_stream) (part_of capacity playback_stream space) ready.0 ready.1 (length frames)
      ∙ ap (λ (k : ℕ). drop k (queued_of h space playback_stream)) (sym took-whole)
      ∙ ap (λ (a : Pull). drop (4 * a.fed.frames) (queued_of h space playback_stream)) (sym pulled)

  pub pull-gives : (pull_of h space frames).into
      ≡ take (4 * (pull_of h space frames).fed.frames) (queued_of h space playback_stream) ++ drop (4 * (pull_of h space frames).fed.frames) frames
  unfolding take_into_of
  pull-gives =
      let ready = frames-ready h space (length frames) passed playback_stream (omega arith) in
      ap (λ (a : Pull). a.into) pulled
      ∙ ap (λ (l : List ℕ). l ++ drop took.count frames) (take-front (queue_at h playback_stream) (part_of capacity playback_stream space) ready.0 ready.1 (length frames))
      ∙ ap (λ (k : ℕ). take k (queued_of h space playback_stream) ++ drop k frames) (sym took-whole)
      ∙ ap (λ (a : Pull). take (4 * a.fed.frames) (queued_of h space playback_stream) ++ drop (4 * a.fed.frames) frames) (sym pulled)

  pub pull-elsewhere : (j : ℕ) → (j < playback_stream) ⊎ (playback_stream < j)
      → queued_of (pull_of h space frames).fed.host (pull_of h space frames).space j ≡ queued_of h space j
  unfolding take_into_of
  pull-elsewhere j o =
      ap (λ (a : Pull). queued_of a.fed.host a.space j) pulled
      ∙ queued-other h playback_stream space took.queue took.part (omega arith) sized (frames-room h space (length frames) passed) took-size j o
