-- A stream's turn keeps what types say: its offset and submitted count have their widths, so has its queue's length, and its queue's part and guest memory are bytes. Assumes nothing.
use Prim.Native.Nat.{ℕ, zero, suc, ◌+◌, ◌-◌, ◌*◌, ◌%◌, ◌^◌, ◌≤◌, ◌<◌, min}
use mathlib.Core.Path.{◌∙◌}
use mathlib.Core.Bool.{Bool, true, false, not, ◌&&◌}
use mathlib.Core.List.{List}
use native.Mathlib.Omega.{arith}
use lib.Dec.{eqb}
use lib.ListN.{length, take, drop, length-set}
use Rattle.word.specs.Value.{Bytes, bytes_of}
use Rattle.word.specs.Place.{put_at, word_at}
use Rattle.word.specs.Shift.{shift_of}
use Rattle.word.proofs.Choices.{by_cond}
use Rattle.word.proofs.Value.{bytes-bound}
use Rattle.word.proofs.Lists.{bytes_take, bytes_drop, bytes-append, bytes-zeros, set_keeps}
use Rattle.std.specs.Prelude.{Option, None, Some}
use Rattle.format.specs.Format.{format_of}
use Rattle.gain.specs.Gain.{gain_of}
use Rattle.gain.proofs.Laws.{amplified-bytes}
use Rattle.codec.specs.declared.Codec.{Codec}
use Rattle.memory.specs.Memory.{Access, write_of}
use Rattle.memory.proofs.Laws.{write-cases}
use Rattle.stream.specs.declared.Stream.{Stream}
use Rattle.stream.specs.declared.Cyclic.{Cyclic}
use Rattle.stream.specs.Streams.{max_count}
use Rattle.stream.specs.Box.{streams, captures}
use Rattle.stream.specs.Update.{update_of}
use Rattle.plan.specs.declared.End.{End}
use Rattle.plan.specs.declared.End.TheVariants.{Inside, Plain, Flagged}
use Rattle.plan.specs.Plans.{descriptor_at, ready_of}
use Rattle.pieces.specs.Pieces as pieces
use Rattle.pieces.specs.Pieces.{State, state_of, next_of, memory_of, pcm_of, pieces_of}
use Rattle.pieces.proofs.Plans.{length-bound}
use Rattle.pieces.proofs.Turns.{Moves, pieces-keep}
use Rattle.queue.specs.declared.Queue.{Queue}
use Rattle.queue.specs.Queues.{capacity, queue, closed, latency_of, Moved, moved_of, fitting_of, put_of, take_of}
use Rattle.transfer.specs.Transfers.{Transfer, transfer_out, with_pieces, silence, taken_of, captured_of, heard_of, capture_of, playback_of, transfer_of}
use Rattle.host.specs.declared.Host.{Host}
use Rattle.host.specs.Hosts.{Opening, queue_at, with_queue, fails_of, opening_of, open_of}
use Rattle.registers.specs.Places.{fmt}
use Rattle.turn.specs.declared.Setup.{Setup}
use Rattle.turn.specs.declared.Engine.{Engine}
use Rattle.turn.specs.Setups.{setup_of}
use Rattle.turn.specs.Engines.{Work, work_of, engine, stopped_of, moved_on, position_at, Published, placed_of, published_of, publish_of, Updated, updated_of, with_updated, frames_of, transferred_of, transfer_at, settled_of, round_of, again, rounds_of, accrued_of, due_of, timed_of, served_of}
use Rattle.turn.specs.Turns.{open_stream_of, engine_of, Turn, formatted_of, turn_of}
use Rattle.turn.proofs.Facts.{publish-by}
use Rattle.record.specs.Typed.{Fits}
use Rattle.host_record.specs.Typed.{TypedHost}

-- a stream's two numbers that no check bounds
pub record Counts (s : Stream) : Type 0 where
  pub offset : Fits 4 s.offset
  pub submitted : Fits 8 s.submitted

-- ---- bytes
bytes-put : (at : ℕ) (bs l : List ℕ) → Bytes bs → Bytes l → Bytes (put_at at bs l)
unfolding put_at
bytes-put at bs l b h = bytes-append (take at l) _ (bytes_take at l h) (bytes-append bs _ b (bytes_drop (at + length bs) l h))

pub bytes-part : (n at : ℕ) (l : List ℕ) → Bytes l → Bytes (take n (drop at l))
bytes-part n at l h = bytes_take n (drop at l) (bytes_drop at l h)

pub bytes-shift : (from count : ℕ) (l : List ℕ) → Bytes l → Bytes (shift_of from count l)
unfolding shift_of
bytes-shift from count l h = bytes-append (take count (drop from l)) _ (bytes-part count from l h) (bytes_drop count l h)

pub put-bytes : (q : Queue) (part bytes : List ℕ) (n : ℕ) → Bytes part → Bytes bytes → Bytes (put_of q part bytes n).part
unfolding put_of
put-bytes q part bytes n h b = bytes-put q.length (take (fitting_of q n) bytes) part (bytes_take (fitting_of q n) bytes b) h

pub take-bytes : (q : Queue) (part : List ℕ) (n : ℕ) → Bytes part → Bytes (take_of q part n).part
unfolding take_of
take-bytes q part n h = bytes-shift _ _ part h

-- a queue's length
pub put-fits : (q : Queue) (part bytes : List ℕ) (n : ℕ) → Fits 4 q.length → Fits 4 (put_of q part bytes n).queue.length
unfolding put_of
put-fits q part bytes n f = by_cond (λ (k : ℕ). q.length + k < 256 ^ 4) q.live (min n (capacity - q.length)) 0 (λ _. omega arith) (λ _. omega arith)

pub take-fits : (q : Queue) (part : List ℕ) (n : ℕ) → Fits 4 q.length → Fits 4 (take_of q part n).queue.length
unfolding take_of
take-fits q part n f = omega arith

-- ---- a transfer
record Going (x : State) : Type 0 where
  counts : Counts x.stream
  memory : Bytes x.memory
  pcm : Bytes x.pcm

next-counts : (s : Stream) (lvi n : ℕ) (end : End) → s.offset + n < 256 ^ 4 → s.submitted + n ≤ max_count → Counts (next_of s lvi n end)
next-counts s lvi n Inside o u = record { offset = o; submitted = omega arith }
next-counts s lvi n Plain o u = record { offset = omega arith; submitted = omega arith }
next-counts s lvi n Flagged o u = record { offset = omega arith; submitted = omega arith }

memory-bytes : (capture : Bool) (m : List ℕ) (at : ℕ) (pcm : List ℕ) (done n : ℕ) → Bytes m → Bytes pcm → Bytes (memory_of capture m at pcm done n)
memory-bytes true m at pcm done n h b = bytes-put at _ m (bytes-part n done pcm b) h
memory-bytes false m at pcm done n h b = h

pcm-bytes : (capture : Bool) (m : List ℕ) (at : ℕ) (pcm : List ℕ) (done n : ℕ) → Bytes m → Bytes pcm → Bytes (pcm_of capture m at pcm done n)
pcm-bytes true m at pcm done n h b = b
pcm-bytes false m at pcm done n h b = bytes-put done _ pcm (bytes-part n at m h) b

module _ (g : Cyclic) (count : ℕ) where
  moved-going : (x : State) (at n : ℕ) (end : End) → x.done < count → Moves g count x at n end → Going x → Going (pieces.moved_of g x at n end)
  moved-going x at n end more k h =
      let long = length-bound x.memory (descriptor_at g x.stream) h.memory k.there in
      record {
        counts = next-counts x.stream g.lvi n end (omega (arith, k.offset, long)) k.submitted;
        memory = memory-bytes g.capture x.memory at x.pcm x.done n h.memory h.pcm;
        pcm = pcm-bytes g.capture x.memory at x.pcm x.done n h.memory h.pcm;
      }

  pieces-going : (fuel : ℕ) (x : State) → Going x → Going (pieces_of fuel g count x).state
  pieces-going = pieces-keep g count Going moved-going

-- a stream at work: the engine's stream and queue, the queue's part, and memory
pub record Live (s : Stream) (q : Queue) (own m : List ℕ) : Type 0 where
  pub counts : Counts s
  pub queued : Fits 4 q.length
  pub part : Bytes own
  pub memory : Bytes m

abbrev Left : Transfer → Type 0
Left t = Live t.transferred.stream t.transferred.queue t.part t.memory

captured-bytes : (connected : Bool) (left right : ℕ) (part : List ℕ) (m : Moved) (count : ℕ) → Bytes part → Bytes (captured_of connected left right part m count)
captured-bytes connected left right part m count h =
    by_cond Bytes connected _ (silence count)
    (λ _. amplified-bytes (gain_of left) (gain_of right) _ (bytes-append (take m.count part) _ (bytes_take m.count part h) (bytes-zeros (count - m.count))))
    (λ _. bytes-zeros count)

heard-bytes : (connected : Bool) (left right : ℕ) (pcm : List ℕ) (count : ℕ) → Bytes pcm → Bytes (heard_of connected left right pcm count)
heard-bytes connected left right pcm count h =
    by_cond Bytes connected _ (silence count) (λ _. amplified-bytes (gain_of left) (gain_of right) pcm h) (λ _. bytes-zeros count)

module _ (g : Cyclic) (s : Stream) (q : Queue) (connected : Bool) (left right : ℕ) (l part m : List ℕ) (count : ℕ) (h : Live s q part m) where
  started : (pcm : List ℕ) → Bytes pcm → Going (pieces_of count g count (state_of s l m pcm 0)).state
  started pcm b = pieces-going g count count (state_of s l m pcm 0) (record { counts = h.counts; memory = h.memory; pcm = b })

  capture-left : Left (capture_of g s q connected left right l part m count)
  unfolding capture_of
  capture-left =
      let taken = taken_of connected q part count in
      let t = started (captured_of connected left right part taken count) (captured-bytes connected left right part taken count h.part) in
      record {
        counts = t.counts;
        queued = by_cond (λ (y : Moved). Fits 4 y.queue.length) connected (take_of q part count) (moved_of 0 q part) (λ _. take-fits q part count h.queued) (λ _. h.queued);
        part = by_cond (λ (y : Moved). Bytes y.part) connected (take_of q part count) (moved_of 0 q part) (λ _. take-bytes q part count h.part) (λ _. h.part);
        memory = t.memory;
      }

  playback-left : Left (playback_of g s q connected left right l part m count)
  unfolding playback_of
  playback-left =
      let o = pieces_of count g count (state_of s l m (silence count) 0) in
      let t = started (silence count) (bytes-zeros count) in
      let heard = heard_of connected left right o.state.pcm count in
      by_cond Left o.ok _ (with_pieces o q part)
      (λ _. record {
        counts = t.counts;
        queued = put-fits q part heard count h.queued;
        part = put-bytes q part heard count h.part (heard-bytes connected left right o.state.pcm count t.pcm);
        memory = t.memory;
      })
      (λ _. record { counts = t.counts; queued = h.queued; part = h.part; memory = t.memory })

  pub transfer-left : Left (transfer_of g s q connected left right l part m count)
  unfolding transfer_of
  transfer-left =
      by_cond Left (ready_of g) _ (transfer_out false false s q l part m) (λ _. by_cond Left g.capture _ _ (λ _. capture-left) (λ _. playback-left)) (λ _. h)

-- ---- the engine
abbrev Working : Work → Type 0
Working x = Live x.engine.stream x.engine.queue x.part x.memory

stopped-live : (e : Engine) (part m : List ℕ) → Live e.stream e.queue part m → Live (stopped_of e).stream (stopped_of e).queue part m
unfolding stopped_of
stopped-live e part m h = record { counts = record { offset = h.counts.offset; submitted = h.counts.submitted }; queued = omega arith; part = h.part; memory = h.memory }

publish-bytes : (g : Setup) (e : Engine) (m : List ℕ) → Bytes m → Bytes (publish_of g e m).memory
unfolding publish_of
publish-bytes g e m h =
    let bs = bytes_of 8 e.position in
    let at = position_at g.dplbase g.index in
    by_cond (λ (p : Published). Bytes p.memory) (eqb (g.dplbase % 2) 1) (placed_of e (write_of m at bs)) (published_of e m)
    (λ _. write-cases m at bs (λ (a : Access). Bytes a.bytes) (λ _. bytes-put at bs m (bytes-bound 8 e.position) h) (λ _. h))
    (λ _. h)

module _ (g : Setup) where
  updated-live : (e : Engine) (l part m : List ℕ) → Live e.stream e.queue part m
      → let u = updated_of g e l m in Live u.engine.stream u.engine.queue part u.memory
  unfolding updated_of update_of
  updated-live e l part m h =
      let u = update_of e.stream l (latency_of e.queue g.cyclic.capture g.downstream) in
      let e' = moved_on g e u.updated.stream u.updated.completed in
      let m' = (publish_of g e' m).memory in
      let on : Live e'.stream e'.queue part m' =
      record { counts = record { offset = h.counts.offset; submitted = h.counts.submitted }; queued = h.queued; part = h.part; memory = publish-bytes g e' m h.memory } in
      publish-by g e' m (λ e''. Live e''.stream e''.queue part m') on (stopped-live e' part m' on)

  round-working : (x : Work) → Working x → Working (round_of g x)
  unfolding round_of settled_of
  round-working x h =
      let e = x.engine in
      let n = frames_of g e in
      let t = transfer_at g x n in
      let k = transfer-left g.cyclic e.stream e.queue g.connected g.left g.right x.list x.part x.memory (4 * n) h in
      let e' = transferred_of e t.transferred.stream t.transferred.queue n in
      let e'' = engine e.running e.status e.position t.transferred.stream t.transferred.queue in
      by_cond (λ (u : Updated). Live u.engine.stream u.engine.queue t.part u.memory) t.transferred.ok (updated_of g e' t.list t.memory) _
      (λ _. updated-live e' t.list t.part t.memory
      (record { counts = record { offset = k.counts.offset; submitted = k.counts.submitted }; queued = k.queued; part = k.part; memory = k.memory }))
      (λ _. stopped-live e'' t.part t.memory k)

  again-working : (b : Bool) (x : Work) (rest : Work → Work) → ((y : Work) → Working y → Working (rest y)) → Working x → Working (again b g x rest)
  again-working true x rest more h = h
  again-working false x rest more h = more (round_of g x) (round-working x h)

  rounds-working : (fuel : ℕ) (x : Work) → Working x → Working (rounds_of fuel g x)
  unfolding rounds_of
  rounds-working zero x h = h
  rounds-working (suc fuel) x h = again-working (eqb (frames_of g x.engine) 0) x (rounds_of fuel g) (rounds-working fuel) h

  served-working : (rate nanos : ℕ) (x : Work) → Working x → Working (served_of g rate nanos x)
  unfolding served_of
  served-working rate nanos x h =
      let y = with_updated (updated_of g x.engine x.list x.memory) x.part in
      let k = updated-live x.engine x.list x.part x.memory h in
      let e = accrued_of rate nanos y.engine in
      by_cond Working y.engine.running (timed_of g rate nanos y) y
      (λ _. rounds-working (due_of e) (work_of e y.list y.part y.memory)
      (record { counts = record { offset = k.counts.offset; submitted = k.counts.submitted }; queued = k.queued; part = k.part; memory = k.memory }))
      (λ _. k)

-- ---- the host end
pub with-queue-typed : (h : Host) (i : ℕ) (q : Queue) → Fits 4 q.length → TypedHost h → TypedHost (with_queue h i q)
with-queue-typed h i q f t =
    record {
      downstream = t.downstream;
      count = length-set h.queues i q ∙ t.count;
      lengths = λ j few. set_keeps (λ (p : Queue). Fits 4 p.length) h.queues i j q closed f (t.lengths j few);
    }

pub open-typed : (h : Host) (i : ℕ) → TypedHost h → TypedHost (open_of h i).host
unfolding open_of
open-typed h i t =
    let P : Opening → Type 0 = λ o. TypedHost o.host in
    by_cond P (queue_at h i).live (opening_of true h) _ (λ _. t)
    (λ _. by_cond P (fails_of h i) (opening_of false h) (opening_of true (with_queue h i (queue true 0))) (λ _. t) (λ _. with-queue-typed h i (queue true 0) (omega arith) t))

pub open-stream-typed : (h : Host) (microphone : Bool) (i : ℕ) → TypedHost h → TypedHost (open_stream_of h microphone i).host
unfolding open_stream_of
open-stream-typed h microphone i t =
    by_cond (λ (o : Opening). TypedHost o.host) (captures i && not microphone) (opening_of true h) (open_of h i) (λ _. t) (λ _. open-typed h i t)

-- ---- a turn
pub record Turned (t : Turn) : Type 0 where
  pub counts : Counts t.turned.stream
  pub host : TypedHost t.turned.host
  pub part : Bytes t.part
  pub memory : Bytes t.memory

module _ (regs : List ℕ) (codec : Codec) (h : Host) (microphone : Bool) (i nanos limit : ℕ) (s : Stream) (l part m : List ℕ) (few : i < streams) (t : TypedHost h) (counts : Counts s)
    (bytes : Bytes part) (memory : Bytes m) where
  live : (h' : Host) → TypedHost h' → Live s (queue_at h' i) part m
  live h' t' = record { counts = counts; queued = t'.lengths i few; part = bytes; memory = memory }

  formatted-turned : (f : Option ℕ) → Turned (formatted_of regs codec h microphone i nanos limit s l part m f)
  formatted-turned None =
      let e = engine_of regs h i s in
      let k = stopped-live e part m (live h t) in
      record { counts = k.counts; host = with-queue-typed h i (stopped_of e).queue k.queued t; part = k.part; memory = k.memory }
  formatted-turned (Some rate) =
      let o = open_stream_of h microphone i in
      let u = open-stream-typed h microphone i t in
      let e = engine_of regs o.host i s in
      let g = setup_of regs codec i o.host.downstream limit in
      let x = served_of g rate nanos (work_of e l part m) in
      let k = served-working g rate nanos (work_of e l part m) (live o.host u) in
      let z = stopped-live e part m (live o.host u) in
      by_cond Turned o.ok _ _
      (λ _. record { counts = k.counts; host = with-queue-typed o.host i x.engine.queue k.queued u; part = k.part; memory = k.memory })
      (λ _. record { counts = z.counts; host = with-queue-typed o.host i (stopped_of e).queue z.queued u; part = z.part; memory = z.memory })

  pub turn-turned : Turned (turn_of regs codec h microphone i nanos limit s l part m)
  unfolding turn_of
  turn-turned = formatted-turned (format_of (word_at 2 (fmt i) regs))
