-- A stream's turn keeps it tied to the book: the position update, a transfer, the rounds, the turn. Assumes nothing.
use Prim.Native.Nat.{ℕ, zero, suc, ◌+◌, ◌-◌, ◌*◌, ◌/◌, ◌≤◌, ◌<◌, min}
use mathlib.Core.Path.{◌≡◌, refl, sym, ap, subst, ◌∙◌}
use mathlib.Core.Bool.{Bool, true, false, cond, not, ◌&&◌, or-false, true≢false}
use mathlib.Core.List.{List, [], ◌∷◌}
use mathlib.Core.Logic.{◌⊎◌, inl, inr, ⊎_elim}
use native.Mathlib.Omega.{arith}
use borrow.Author.Tests.{leb-true, eqb-false, le-ltb}
use lib.Dec.{leb, ltb, eqb}
use lib.ListN.{length, length-set}
use lib.Seq.{get_or-set_same}
use Rattle.word.proofs.Choices.{left, by-test, by_cond, by_both}
use Rattle.std.specs.Prelude.{Option, None, Some}
use Rattle.codec.specs.declared.Codec.{Codec}
use Rattle.clock.specs.Frames.{whole_frames_of}
use Rattle.clock.proofs.Theorems.{accrue-bound}
use Rattle.positions.proofs.View.{length-positions}
use Rattle.stream.specs.declared.Stream.{Stream}
use Rattle.stream.specs.declared.Cyclic.{Cyclic}
use Rattle.stream.specs.Box.{captures}
use Rattle.stream.specs.Update.{update_of}
use Rattle.plan.specs.Plans.{ready_of, plan_of}
use Rattle.plan.proofs.Laws.{ready-byte}
use Rattle.pieces.specs.Pieces.{State, state_of, pieces_of}
use Rattle.pieces.proofs.Facts.{pieces-submitted, pieces-done}
use Rattle.queue.specs.declared.Queue.{Queue}
use Rattle.queue.specs.Queues.{capacity, queue, closed, latency_of, put_of, take_of}
use Rattle.queue.proofs.Validity.{queue-bound}
use Rattle.transfer.specs.Transfers.{Transfer, with_pieces, silence, taken_of, captured_of, capture_of, playback_of, transfer_of}
use Rattle.transfer.proofs.Laws.{ready-cyclic}
use Rattle.host.specs.declared.Host.{Host}
use Rattle.host.specs.Hosts as hosts
use Rattle.host.specs.Hosts.{Opening, queue_at, with_queue, fails_of, opening_of, open_of}
use Rattle.host.proofs.Checks.{valid-queue}
use Rattle.turn.specs.declared.Setup.{Setup}
use Rattle.turn.specs.declared.Engine.{Engine}
use Rattle.turn.specs.Setups.{setup_of}
use Rattle.turn.specs.Engines.{Work, work_of, engine, stopped_of, moved_on, Updated, updated_of, with_updated, frames_of, transferred_of, transfer_at, settled_of, round_of, again, rounds_of, accrued_of, due_of, timed_of, served_of}
use Rattle.turn.specs.Turns.{open_stream_of, engine_of, Turn, formatted_of}
use Rattle.turn.proofs.Facts.{frames-few, publish-by, transfer-queue, transfer-queued}
use Rattle.turn.proofs.Validity.{open-stream-valid}
use Rattle.book.specs.Book.{Event, limit, updated, failed, refused}
use Rattle.book.specs.Reasons.{is_reason, is_limit}
use Rattle.book.specs.Events.{only_if, Given, given_of, pieces_events, samples_of, standing_of, attempt_of, failure_events, transfer_events, unheard, update_event, round_events, again_rounds, rounds_events, timed_events, served_events, formatted_events}
use Rattle.book.proofs.Ghosts.{Ghost, see, sees, sees-append}
use Rattle.book.proofs.Tied.{Tied, few-now, tied-times, tied-refused, tied-failed, tied-updated}
use Rattle.book.proofs.Reasons.{buffer_of, moves, Reasoned, below-limit, unready-reasoned, unmoved-reasoned}
use Rattle.book.proofs.Pieces.{Going, pieces-tied, pieces-stuck}

pub update-near : (s : Stream) (l : List ℕ) (latency : ℕ) → let u = (update_of s l latency).updated.stream in u.submitted ≤ u.consumed + latency
unfolding update_of
update-near s l latency = omega arith

-- tied, with a queue within its capacity
record Still (F : Type 0) (s : Stream) (q : Queue) (l : List ℕ) (a : Ghost) : Type 0 where
  pub tied : Tied F s l a
  pub queued : q.length ≤ capacity

module _ (F : Type 0) where
  -- a failure
  stopped-still : (e : Engine) (l : List ℕ) (a : Ghost) → Still F e.stream e.queue l a → Still F (stopped_of e).stream (stopped_of e).queue l a
  unfolding stopped_of
  stopped-still e l a t = record { tied = tied-times F e.stream l a _ (λ _. omega arith) t.tied; queued = omega arith }

  stopped-off : (e : Engine) → (stopped_of e).running ≡ false
  unfolding stopped_of
  stopped-off e = refl

  stopped_none : (g : Setup) (e : Engine) → frames_of g (stopped_of e) ≡ 0
  unfolding stopped_of
  stopped_none g e = omega (arith, (frames-few g (stopped_of e)).0)

  -- a playback's queue is up; its latency is then the book's
  abbrev Opened : Setup → Queue → Type 0
  Opened g q = g.cyclic.capture ≡ false → q.live ≡ true

  abbrev Latency : Setup → Given → Type 0
  Latency g v = (q : Queue) → Opened g q → latency_of q g.cyclic.capture g.downstream ≡ unheard v q.length

  module _ (v : Given) (g : Setup) (same : Latency g v) (buffered : g.cyclic ≡ buffer_of v) (down : g.downstream ≤ 14336) (limited : g.limit ≤ capacity) where
    -- the frames of the next transfer fit behind what the host holds
    frames-room : (e : Engine) → e.queue.length ≤ capacity → 4 * frames_of g e + latency_of e.queue g.cyclic.capture g.downstream ≤ 16384
    unfolding frames_of latency_of
    frames-room e few =
        let n = min (min (whole_frames_of e.stream.fraction) 256) ((g.limit - e.queue.length) / 4) in
        by_both (λ (n k : ℕ). 4 * n + k ≤ 16384) g.cyclic.capture _ n 0 _ (λ _. omega arith)
        (λ _. by_cond (λ (k : ℕ). 4 * n + k ≤ 16384) e.queue.live (e.queue.length + g.downstream) 0 (λ _. omega arith) (λ _. omega arith))

    -- between transfers: while it runs, and where frames are due, an update came before, so that it is ahead by no more than the host holds
    record Heard (e : Engine) (l : List ℕ) (a : Ghost) : Type 0 where
      still : Still F e.stream e.queue l a
      opened : (e.running ≡ true) ⊎ (0 < frames_of g e) → Opened g e.queue
      near : (e.running ≡ true) ⊎ (0 < frames_of g e) → e.stream.submitted ≤ e.stream.consumed + latency_of e.queue g.cyclic.capture g.downstream

    stopped-heard : (e : Engine) (l : List ℕ) (a : Ghost) → Still F e.stream e.queue l a → Heard (stopped_of e) l a
    stopped-heard e l a t =
        record {
          still = stopped-still e l a t;
          opened = ⊎_elim (λ z. absurd (true≢false (sym z ∙ stopped-off e))) (λ some. absurd (omega (arith, some, stopped_none g e)));
          near = ⊎_elim (λ z. absurd (true≢false (sym z ∙ stopped-off e))) (λ some. absurd (omega (arith, some, stopped_none g e)));
        }

    -- the position update
    updated-heard : (e : Engine) (l m : List ℕ) (a : Ghost) → Opened g e.queue → Still F e.stream e.queue l a
        → let u = updated_of g e l m in Heard u.engine u.list (see (update_event v e) a)
    unfolding updated_of
    updated-heard e l m a up t =
        let latency = latency_of e.queue g.cyclic.capture g.downstream in
        let u = update_of e.stream l latency in
        let a' = see (updated latency) a in
        let e' = moved_on g e u.updated.stream u.updated.completed in
        let still : Still F e'.stream e'.queue u.list a' = record { tied = tied-updated F e.stream l a latency t.tied; queued = t.queued } in
        rw (← same e.queue up)
        (publish-by g e' m (λ e''. Heard e'' u.list a') (record { still = still; opened = λ _. up; near = λ _. update-near e.stream l latency })
        (stopped-heard e' u.list a' still))

    -- a transfer leaves a queue up
    moved-opened : (x : Work) (n : ℕ) → Opened g x.engine.queue → Opened g (transfer_at g x n).transferred.queue
    unfolding take_of put_of
    moved-opened x n up =
        let e = x.engine in
        transfer-queue g.cyclic e.stream e.queue g.connected g.left g.right x.list x.part x.memory (4 * n) (Opened g) up up (λ pcm. up)

    -- a transfer that failed has its reason, by the book that the stream is tied to: not the limit, since it was at most 16,384 bytes ahead
    founded-by : (count : ℕ) (x : State) (a : Ghost) → Tied F x.stream x.list a → x.stream.submitted ≤ x.stream.consumed + 16384
        → Reasoned v x.stream x.memory (count - x.done) → Tied F x.stream x.list (see (failed (attempt_of v count x)) a)
    founded-by count x a t near reason =
        let attempt = attempt_of v count x in
        let s = x.stream in
        let few : length a.book.pending < limit = few-now s x.list a.book.pending t.valid t.pending t.spaced near in
        let pending : length a.book.pending ≡ s.pending = ap length (sym t.pending) ∙ length-positions s.pending x.list in
        let below : is_limit attempt s.descriptor s.offset s.submitted s.pending ≡ false = below-limit attempt s.descriptor s.offset s.submitted s.pending (omega (arith, few, pending)) in
        tied-failed F s x.list a attempt
        (rw (← t.submitted, ← t.index, ← t.offset) (rw (below, or-false (is_reason attempt s.descriptor s.offset s.submitted)) at reason))
        (rw (← t.submitted, ← t.index, ← t.offset, pending, below)) t

    -- what the pieces of `count` bytes leave, with the failure where they stopped
    pieces-ended : (s : Stream) (l m pcm : List ℕ) (count : ℕ) (a : Ghost) → 0 < g.cyclic.cbl
        → let y = state_of s l m pcm 0 in
        let o = pieces_of count g.cyclic count y in
        let z = o.state in
        Going F count z a → Tied F z.stream z.list (sees (failure_events v count s o.ok z.stream (standing_of count g.cyclic count y)) a)
    pieces-ended s l m pcm count a some t =
        let c = g.cyclic in
        let y = state_of s l m pcm 0 in
        let o = pieces_of count c count y in
        let z = o.state in
        by-test o.ok
        (λ ok. let all : ltb z.stream.submitted (s.submitted + count) ≡ false =
        le-ltb z.stream.submitted (s.submitted + count)
        (omega (arith, pieces-submitted c count count y, pieces-done c count some count y (omega arith) (omega arith) ok)) in
        rw (ok, all) t.tied)
        (λ stopped. let k = pieces-stuck c count count y stopped in
        rw (stopped, k.1)
        (founded-by count z a t.tied (omega (arith, t.room))
        (unmoved-reasoned v z.stream z.memory (count - z.done)
        (subst (λ (c : Cyclic). moves (plan_of c z.stream z.memory (count - z.done)) ≡ false) buffered k.0))))

    -- a transfer
    moved-still : (x : Work) (n : ℕ) (a : Ghost) → n ≤ 256 → Still F x.engine.stream x.engine.queue x.list a
        → x.engine.stream.submitted + 4 * n ≤ x.engine.stream.consumed + 16384
        → let t = transfer_at g x n in Still F t.transferred.stream t.transferred.queue t.list (sees (transfer_events v g x n) a)
    unfolding transfer_of capture_of playback_of transfer_events
    moved-still x n a short h room =
        let e = x.engine in
        let c = g.cyclic in
        let s = e.stream in
        let q = e.queue in
        let count = 4 * n in
        let start : List ℕ → State = λ pcm. state_of s x.list x.memory pcm 0 in
        let ended : Transfer → State → List Event = λ t y. failure_events v count s t.transferred.ok t.transferred.stream y in
        let P : Transfer → List Event → State → Type 0 = λ t es y. Tied F t.transferred.stream t.list (sees (ended t y) (sees es a)) in
        let Q : Transfer → List ℕ → Type 0 = λ t pcm. P t (pieces_events v count c count (start pcm)) (standing_of count c count (start pcm)) in
        let taken = taken_of g.connected q x.part count in
        let sound = captured_of g.connected g.left g.right x.part taken count in
        let o = pieces_of count c count (start (silence count)) in
        record {
          tied = let begun = start (samples_of c q g.connected g.left g.right x.part count) in
              rw (sees-append (only_if (ready_of c) (pieces_events v count c count begun)) (ended (transfer_at g x n) (cond (ready_of c) (standing_of count c count begun) begun)) a)
              (by-test (ready_of c)
              (λ ready. rw ready (
              let each : (pcm : List ℕ) → let z = pieces_of count c count (start pcm) in Q (with_pieces z q x.part) pcm =
              λ pcm. pieces-ended s x.list x.memory pcm count (sees (pieces_events v count c count (start pcm)) a) (ready-cyclic c ready)
              (pieces-tied F v c buffered count (ready-byte c ready) count (start pcm) a (record { tied = h.tied; room = omega (arith, room) })) in
              by_both Q c.capture (capture_of c s q g.connected g.left g.right x.list x.part x.memory count)
              (playback_of c s q g.connected g.left g.right x.list x.part x.memory count) sound (silence count)
              (λ _. each sound)
              (λ _. by_cond (λ t. Q t (silence count)) o.ok _ (with_pieces o q x.part) (λ _. each (silence count)) (λ _. each (silence count)))))
              (λ unready. rw unready
              (founded-by count begun a h.tied (omega (arith, room)) (unready-reasoned v s x.memory (count - 0) (ap ready_of (sym buffered) ∙ unready)))));
          queued = transfer-queued c s q g.connected g.left g.right x.list x.part x.memory count h.queued;
        }

    abbrev Ready : Work → Ghost → Type 0
    Ready x a = Heard x.engine x.list a

    round-ready : (x : Work) (a : Ghost) → 0 < frames_of g x.engine → Ready x a → Ready (round_of g x) (sees (round_events v g x) a)
    unfolding round_of settled_of round_events
    round-ready x a some r =
        let e = x.engine in
        let n = frames_of g e in
        let t = transfer_at g x n in
        let t' = t.transferred in
        let es = transfer_events v g x n in
        let a' = sees es a in
        let moved = moved-still x n a (frames-few g e).1 r.still (omega (arith, r.near (inr some), frames-room e r.still.queued)) in
        let up = moved-opened x n (r.opened (inr some)) in
        let e' = transferred_of e t'.stream t'.queue n in
        let e'' = engine e.running e.status e.position t'.stream t'.queue in
        let P : Updated → List Event → Type 0 = λ u fs. Ready (with_updated u t.part) (sees fs a') in
        rw (sees-append es (only_if t'.ok (update_event v e' ∷ [])) a)
        (by_both P t'.ok (updated_of g e' t.list t.memory) _ (update_event v e' ∷ []) []
        (λ _. updated-heard e' t.list t.memory a' up
        (record { tied = tied-times F t'.stream t.list a' _ (λ before. omega arith) moved.tied; queued = moved.queued }))
        (λ _. stopped-heard e'' t.list a' moved))

    again-still : (b : Bool) (x : Work) (a : Ghost) (rest : Work → Work) (events : Work → List Event) → eqb (frames_of g x.engine) 0 ≡ b
        → ((y : Work) (a' : Ghost) → Ready y a' → let z = rest y in Still F z.engine.stream z.engine.queue z.list (sees (events y) a'))
        → Ready x a → let z = again b g x rest in Still F z.engine.stream z.engine.queue z.list (sees (again_rounds b v g x events) a)
    again-still true x a rest events e more r = r.still
    again-still false x a rest events e more r =
        rw (sees-append (round_events v g x) (events (round_of g x)) a)
        (more (round_of g x) (sees (round_events v g x) a) (round-ready x a (omega (arith, eqb-false (frames_of g x.engine) 0 e)) r))

    rounds-still : (fuel : ℕ) (x : Work) (a : Ghost) → Ready x a
        → let z = rounds_of fuel g x in Still F z.engine.stream z.engine.queue z.list (sees (rounds_events fuel v g x) a)
    unfolding rounds_of rounds_events
    rounds-still zero x a r = r.still
    rounds-still (suc fuel) x a r = again-still (eqb (frames_of g x.engine) 0) x a (rounds_of fuel g) (rounds_events fuel v g) refl (rounds-still fuel) r

    served-tied : (rate nanos : ℕ) (x : Work) (a : Ghost) → Opened g x.engine.queue → Still F x.engine.stream x.engine.queue x.list a
        → let z = served_of g rate nanos x in Tied F z.engine.stream z.list (sees (served_events v g rate nanos x) a)
    unfolding served_of served_events
    served-tied rate nanos x a up t =
        let y = with_updated (updated_of g x.engine x.list x.memory) x.part in
        let a' = see (update_event v x.engine) a in
        let h = updated-heard x.engine x.list x.memory a up t in
        let s = y.engine.stream in
        let e = accrued_of rate nanos y.engine in
        by_both (λ (z : Work) (es : List Event). Tied F z.engine.stream z.list (sees es a')) y.engine.running (timed_of g rate nanos y) y (timed_events v g rate nanos y) []
        (λ on. (rounds-still (due_of e) (work_of e y.list y.part y.memory) a'
        (record {
          still = record { tied = tied-times F s y.list a' _ (λ _. accrue-bound rate nanos s.fraction) h.still.tied; queued = h.still.queued };
          opened = λ _. h.opened (inl on);
          near = λ _. h.near (inl on);
        })).tied)
        (λ _. h.still.tied)

-- a valid host end's downstream count
down-few : (h : Host) → hosts.valid_of h ≡ true → h.downstream ≤ 14336
unfolding hosts.valid_of
down-few h v = leb-true h.downstream 14336 (left (leb h.downstream 14336) _ (left (hosts.valid_downstream h.downstream) _ v))

setup-down : (regs : List ℕ) (codec : Codec) (i : ℕ) (h : Host) (limit : ℕ) → hosts.valid_of h ≡ true → (setup_of regs codec i h.downstream limit).downstream ≤ 14336
unfolding setup_of
setup-down regs codec i h limit v = down-few h v

setup-limit : (regs : List ℕ) (codec : Codec) (i downstream limit : ℕ) → limit ≤ capacity → (setup_of regs codec i downstream limit).limit ≤ capacity
unfolding setup_of
setup-limit regs codec i downstream limit few = few

-- the book's latency is that of an up stream, and its registers are those of the turn's buffer
latency-unheard : (v : Given) (c : Bool) → v.capture ≡ c → (q : Queue) → (c ≡ false → q.live ≡ true) → latency_of q c v.downstream ≡ unheard v q.length
unfolding latency_of
latency-unheard v true e q up = rw e
latency-unheard v false e q up = rw (e, up refl)

setup-latency : (regs : List ℕ) (codec : Codec) (i downstream limit : ℕ) → Latency ⊥ (setup_of regs codec i downstream limit) (given_of i downstream regs)
unfolding setup_of
setup-latency regs codec i downstream limit q up = latency-unheard (given_of i downstream regs) (captures i) refl q up

setup-buffered : (regs : List ℕ) (codec : Codec) (i downstream limit n : ℕ) → (setup_of regs codec i downstream limit).cyclic ≡ buffer_of (given_of i n regs)
unfolding setup_of
setup-buffered regs codec i downstream limit n = refl

pub setup-capture : (regs : List ℕ) (codec : Codec) (i downstream limit : ℕ) → (setup_of regs codec i downstream limit).cyclic.capture ≡ captures i
unfolding setup_of
setup-capture regs codec i downstream limit = refl

-- an opening that is not refused leaves a playback up, and none changes the downstream count or how many queues there are
module _ (h : Host) (microphone : Bool) (i : ℕ) where
  pub opened-live : captures i ≡ false → i < length h.queues → (open_stream_of h microphone i).ok ≡ true → (queue_at (open_stream_of h microphone i).host i).live ≡ true
  unfolding open_stream_of open_of
  opened-live plays few =
      let P : Opening → Type 0 = λ o. o.ok ≡ true → (queue_at o.host i).live ≡ true in
      by_cond P (captures i && not microphone) (opening_of true h) _ (λ e. absurd (true≢false (sym (left (captures i) (not microphone) e) ∙ plays)))
      (λ _. by_cond P (queue_at h i).live (opening_of true h) _ (λ live _. live)
      (λ _. by_cond P (fails_of h i) (opening_of false h) (opening_of true (with_queue h i (queue true 0))) (λ _ z. absurd (true≢false (sym z)))
      (λ _ _. rw (get_or-set_same h.queues i (queue true 0) closed few))))

  abbrev pub Same : Host → Type 0
  Same o = (length o.queues ≡ length h.queues) × (o.downstream ≡ h.downstream)

  pub opened-same : Same (open_stream_of h microphone i).host
  unfolding open_stream_of open_of
  opened-same =
      let P : Opening → Type 0 = λ o. Same o.host in
      by_cond P (captures i && not microphone) (opening_of true h) _ (λ _. (refl, refl))
      (λ _. by_cond P (queue_at h i).live (opening_of true h) _ (λ _. (refl, refl))
      (λ _. by_cond P (fails_of h i) (opening_of false h) (opening_of true (with_queue h i (queue true 0))) (λ _. (refl, refl)) (λ _. (length-set h.queues i (queue true 0), refl))))

module _ (F : Type 0) (regs : List ℕ) (codec : Codec) (h : Host) (microphone : Bool) (i nanos limit : ℕ) (s : Stream) (l part m : List ℕ) (a : Ghost)
    (limited : limit ≤ capacity) (downstream : ℕ) (told : h.downstream ≡ downstream) (few : i < length h.queues) (host : hosts.valid_of h ≡ true) (t : Tied F s l a) where
  begins : (h' : Host) → hosts.valid_of h' ≡ true → Still F s (queue_at h' i) l a
  begins h' v = record { tied = t; queued = queue-bound (queue_at h' i) (valid-queue h' v i) }

  pub formatted-tied : (f : Option ℕ)
      → let r = formatted_of regs codec h microphone i nanos limit s l part m f in
      Tied F r.turned.stream r.list (sees (formatted_events (given_of i downstream regs) regs codec h microphone i nanos limit s l part m f) a)
  formatted-tied None = (stopped-still F (engine_of regs h i s) l a (begins h host)).tied
  formatted-tied (Some rate) =
      let o = open_stream_of h microphone i in
      let v = open-stream-valid h microphone i host in
      let e = engine_of regs o.host i s in
      let g = setup_of regs codec i o.host.downstream limit in
      let down : g.downstream ≤ 14336 = setup-down regs codec i o.host limit v in
      let x = work_of e l part m in
      by_both (λ (r : Turn) (es : List Event). Tied F r.turned.stream r.list (sees es a)) o.ok _ _ _ (refused ∷ [])
      (λ ok. served-tied F (given_of i downstream regs) g
      (λ q up. setup-latency regs codec i o.host.downstream limit q up ∙ ap (λ (n : ℕ). unheard (given_of i n regs) q.length) ((opened-same h microphone i).1 ∙ told))
      (setup-buffered regs codec i o.host.downstream limit downstream) down (setup-limit regs codec i o.host.downstream limit limited) rate nanos x a
      (λ plays. opened-live h microphone i (sym (setup-capture regs codec i o.host.downstream limit) ∙ plays) few ok) (begins o.host v))
      (λ _. tied-refused F _ l a (stopped-still F e l a (begins o.host v)).tied)
