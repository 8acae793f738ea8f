-- A turn's rounds over two memories that agree on the stream's descriptor list, from frame times with as many frames to move, do the same. Assumes nothing.
use Prim.Native.Nat.{ℕ, zero, suc, ◌+◌, ◌-◌, ◌*◌, ◌/◌, ◌%◌, ◌≤◌, min}
use mathlib.Core.Path.{◌≡◌, refl, sym, ap, ◌∙◌, subst}
use mathlib.Core.Bool.{Bool, true, false, cond, true≢false}
use mathlib.Core.List.{List}
use mathlib.Core.Logic.{◌⊎◌, inl, inr}
use native.Mathlib.Omega.{arith}
use borrow.Author.Tests.{eqb-true, eqb-false}
use lib.Dec.{eqb}
use Rattle.word.specs.Value.{bytes_of}
use Rattle.word.proofs.Choices.{by-test, by_cond}
use Rattle.clock.specs.Billionths.{billion}
use Rattle.clock.specs.Frames.{accrue_of, whole_frames_of}
use Rattle.memory.specs.Memory.{write_of}
use Rattle.plan.specs.Plans.{ready_of}
use Rattle.pieces.specs.Pieces.{state_of, pieces_of}
use Rattle.stream.specs.declared.Stream.{Stream}
use Rattle.stream.specs.declared.Cyclic.{Cyclic}
use Rattle.positions.specs.Positions.{retire_of}
use Rattle.stream.specs.Update.{consumed_of, retired_of, update_of}
use Rattle.queue.specs.declared.Queue.{Queue}
use Rattle.queue.specs.Queues.{capacity, put_of, latency_of}
use Rattle.transfer.specs.Transfers.{Transfer, transfer_out, with_pieces, silence, capture_of, playback_of, transfer_of}
use Rattle.turn.specs.declared.Setup.{Setup}
use Rattle.turn.specs.declared.Engine.{Engine}
use Rattle.turn.specs.Engines.{Work, work_of, engine, with_fraction, stopped_of, position_at, Published, published_of, placed_of, publish_of, moved_on, Updated, update_out, updated_of, with_updated, frames_of, transferred_of, failed_of, settled_of, round_of, rounds_of, accrued_of, due_of, timed_of, served_of}
use Rattle.turn.proofs.Facts.{publish-by, transfer-fraction, frames-few, round-due}
use Rattle.turn.proofs.Rounds.{rounds-more, rounds-end}
use Rattle.counts.specs.Counts.{Agree, Pending}
use Rattle.counts.proofs.Agree.{agree-write}
use Rattle.counts.proofs.Lists.{pending-positions, pending-update}
use Rattle.counts.proofs.Pieces.{Listed}
use Rattle.counts.proofs.Transfers.{TransferAlike, transfer-alike}

-- ---- frames to move
-- frames that a queue may still take
abbrev pub room_of : Setup → Queue → ℕ
room_of g q = (g.limit - q.length) / 4

-- more are due, both times, than a playback's open queue takes
pub record Beyond (g : Setup) (q : Queue) (n n' : ℕ) : Type 0 where
  pub plays : g.cyclic.capture ≡ false
  pub live : q.live ≡ true
  pub one : room_of g q ≤ n
  pub other : room_of g q ≤ n'

-- n and n' frames due make as many to move
abbrev pub Frames : Setup → Queue → ℕ → ℕ → Type 0
Frames g q n n' = (n ≡ n') ⊎ Beyond g q n n'

frames-same : (g : Setup) (e : Engine) (n' : ℕ) → Frames g e.queue (due_of e) n'
    → frames_of g e ≡ cond g.cyclic.capture (min n' 256) (min (min n' 256) (room_of g e.queue))
unfolding frames_of
frames-same g e n' (inl same) = rw same
frames-same g e n' (inr b) = rw b.plays (omega (arith, b.one, b.other))

-- n frames of a playback fit
frames-fit : (g : Setup) (e : Engine) → g.cyclic.capture ≡ false → frames_of g e ≤ room_of g e.queue
unfolding frames_of
frames-fit g e plays = rw plays (omega arith)

-- n fewer are due, and there is room for n fewer
due-less : (f n : ℕ) → n ≤ f / billion → (f - n * billion) / billion + n ≡ f / billion
due-less f n h = omega arith

room-less : (limit q n : ℕ) → n ≤ (limit - q) / 4 → (limit - (q + 4 * n)) / 4 + n ≡ (limit - q) / 4
room-less limit q n h = omega arith

-- a playback's transfer that succeeds queues all of its bytes
module _ (g : Cyclic) (s : Stream) (q : Queue) (connected : Bool) (left right : ℕ) (l part m : List ℕ) (count : ℕ) where
  pub played : g.capture ≡ false → q.live ≡ true → count ≤ capacity - q.length
      → let t = (transfer_of g s q connected left right l part m count).transferred in t.ok ≡ true → (t.queue.live ≡ true) × (t.queue.length ≡ q.length + count)
  unfolding transfer_of playback_of put_of
  played plays live fits =
      let Q : Transfer → Type 0 = λ t. t.transferred.ok ≡ true → (t.transferred.queue.live ≡ true) × (t.transferred.queue.length ≡ q.length + count) in
      let o = pieces_of count g count (state_of s l m (silence count) 0) in
      by_cond Q (ready_of g) _ (transfer_out false false s q l part m)
      (λ _. by_cond Q g.capture (capture_of g s q connected left right l part m count) (playback_of g s q connected left right l part m count)
      (λ c. absurd (true≢false (sym c ∙ plays)))
      (λ _. by_cond Q o.ok _ (with_pieces o q part) (λ _ _. rw live (refl, omega arith)) (λ no ok. absurd (true≢false (sym ok ∙ no)))))
      (λ _ ok. absurd (true≢false (sym ok)))

-- ---- an engine with another frame time
abbrev pub with_time : Engine → ℕ → Engine
with_time e f = engine e.running e.status e.position (with_fraction e.stream f) e.queue

-- the same engine, but for a frame time that makes as many frames to move
pub record EngineAlike (g : Setup) (e e' : Engine) : Type 0 where
  pub engine : with_time e e'.stream.fraction ≡ e'
  pub frames : Frames g e.queue (due_of e) (due_of e')

stopped-alike : (g : Setup) (e : Engine) (f : ℕ) → EngineAlike g (stopped_of e) (stopped_of (with_time e f))
unfolding stopped_of
stopped-alike g e f = record { engine = refl; frames = inl (omega arith) }

pub stopped-pending : (e : Engine) (l l' : List ℕ) → Pending e.stream.pending l l' → Pending (stopped_of e).stream.pending l l'
unfolding stopped_of
stopped-pending e l l' p = p

module _ (P : ℕ → Type 0) (g : Setup) where
  pub record UpdatedAlike (u u' : Updated) : Type 0 where
    pub engine : EngineAlike g u.engine u'.engine
    pub list : Pending u.engine.stream.pending u.list u'.list
    pub memory : Agree P u.memory u'.memory

  pub record PublishedAlike (u u' : Published) : Type 0 where
    pub engine : EngineAlike g u.engine u'.engine
    pub memory : Agree P u.memory u'.memory

  publish-alike : (e : Engine) (f : ℕ) (m m' : List ℕ) → Agree P m m' → Frames g e.queue (due_of e) (whole_frames_of f)
      → PublishedAlike (publish_of g e m) (publish_of g (with_time e f) m')
  unfolding publish_of
  publish-alike e f m m' a frames = on (eqb (g.dplbase % 2) 1)
    where
      at : ℕ
      at = position_at g.dplbase g.index

      bs : List ℕ
      bs = bytes_of 8 e.position

      written : (b b' : Bool) → b ≡ b' → EngineAlike g (cond b e (stopped_of e)) (cond b' (with_time e f) (stopped_of (with_time e f)))
      written true true z = record { engine = refl; frames = frames }
      written false false z = stopped-alike g e f
      written true false z = absurd (true≢false z)
      written false true z = absurd (true≢false (sym z))

      on : (b : Bool) → PublishedAlike (cond b (placed_of e (write_of m at bs)) (published_of e m)) (cond b (placed_of (with_time e f) (write_of m' at bs)) (published_of (with_time e f) m'))
      on true = record { engine = written _ _ (agree-write P m m' a at bs).0; memory = (agree-write P m m' a at bs).1 }
      on false = record { engine = record { engine = refl; frames = frames }; memory = a }

  updated-alike : (e : Engine) (f : ℕ) (l l' m m' : List ℕ) → Pending e.stream.pending l l' → Agree P m m' → Frames g e.queue (due_of e) (whole_frames_of f)
      → UpdatedAlike (updated_of g e l m) (updated_of g (with_time e f) l' m')
  unfolding updated_of update_of stopped_of
  updated-alike e f l l' m m' listing a frames =
      let n = e.stream.pending in
      let latency = latency_of e.queue g.cyclic.capture g.downstream in
      let u = update_of e.stream l latency in
      let e' = moved_on g e u.updated.stream u.updated.completed in
      let p = publish-alike e' f m m' a frames in
      let kept = pending-update n l l' listing (consumed_of e.stream latency) in
      let k = retired_of e.stream l latency in
      rw (← pending-positions n l l' listing)
      record { engine = p.engine; list = publish-by g e' m (λ e''. Pending e''.stream.pending (retire_of k n l) (retire_of k n l')) kept kept; memory = p.memory }

  -- works that a turn of a stream cannot tell apart
  pub record WorkAlike (x y : Work) : Type 0 where
    pub engine : EngineAlike g x.engine y.engine
    pub list : Pending x.engine.stream.pending x.list y.list
    pub memory : Agree P x.memory y.memory
    pub part : g.cyclic.capture ≡ true → x.part ≡ y.part

  frames-alike : (x y : Work) → WorkAlike x y → frames_of g x.engine ≡ frames_of g y.engine
  unfolding frames_of
  frames-alike x y a =
      frames-same g x.engine (due_of y.engine) a.engine.frames
      ∙ ap (λ (q : Queue). cond g.cyclic.capture (min (due_of y.engine) 256) (min (min (due_of y.engine) 256) (room_of g q))) (ap (λ (e : Engine). e.queue) a.engine.engine)

  module _ (limited : g.limit ≤ capacity) (listed : ready_of g.cyclic ≡ true → Listed P g.cyclic) where
    settled-alike : (e : Engine) (f n : ℕ) (t t' : Transfer) → TransferAlike P g.cyclic.capture f t t' → t.transferred.stream.fraction ≡ e.stream.fraction
        → (t.transferred.ok ≡ true → Frames g t.transferred.queue (whole_frames_of (e.stream.fraction - n * billion)) (whole_frames_of (f - n * billion)))
        → UpdatedAlike (settled_of g e t.transferred n t.list t.memory) (settled_of g (with_time e f) t'.transferred n t'.list t'.memory)
    unfolding settled_of stopped_of
    settled-alike e f n t t' a time frames =
        rw (← a.stream, ← a.queue) (go t.transferred.ok t'.transferred.ok a.ok frames)
      where
        s : Stream
        s = t.transferred.stream

        q : Queue
        q = t.transferred.queue

        go : (b b' : Bool) → b ≡ b' → (b ≡ true → Frames g q (whole_frames_of (e.stream.fraction - n * billion)) (whole_frames_of (f - n * billion)))
            → UpdatedAlike (cond b (updated_of g (transferred_of e s q n) t.list t.memory) (update_out (failed_of e s q) t.list t.memory))
            (cond b' (updated_of g (transferred_of (with_time e f) (with_fraction s f) q n) t'.list t'.memory) (update_out (failed_of (with_time e f) (with_fraction s f) q) t'.list t'.memory))
        go true true z k = updated-alike (transferred_of e s q n) (f - n * billion) t.list t'.list t.memory t'.memory a.list a.memory (rw time (k refl))
        go false false z k = record { engine = stopped-alike g (engine e.running e.status e.position s q) f; list = a.list; memory = a.memory }
        go true false z k = absurd (true≢false z)
        go false true z k = absurd (true≢false (sym z))

    -- what is left to move after a transfer that succeeded
    moved-frames : (e : Engine) (f : ℕ) (l part m : List ℕ) → Frames g e.queue (due_of e) (whole_frames_of f)
        → let n = frames_of g e in let t = (transfer_of g.cyclic e.stream e.queue g.connected g.left g.right l part m (4 * n)).transferred in
        t.ok ≡ true → Frames g t.queue (whole_frames_of (e.stream.fraction - n * billion)) (whole_frames_of (f - n * billion))
    moved-frames e f l part m (inl same) ok = inl (omega arith)
    moved-frames e f l part m (inr b) ok =
        let n = frames_of g e in
        let fit = frames-fit g e b.plays in
        let k = played g.cyclic e.stream e.queue g.connected g.left g.right l part m (4 * n) b.plays b.live (omega arith) ok in
        let room : room_of g e.queue ≡ (g.limit - (e.queue.length + 4 * n)) / 4 + n = sym (room-less g.limit e.queue.length n fit) in
        let t = (transfer_of g.cyclic e.stream e.queue g.connected g.left g.right l part m (4 * n)).transferred in
        let left : room_of g t.queue ≡ (g.limit - (e.queue.length + 4 * n)) / 4 = ap (λ (q : ℕ). (g.limit - q) / 4) k.1 in
        inr record {
          plays = b.plays;
          live = k.0;
          one = omega (arith, left, room, b.one, due-less e.stream.fraction n (frames-few g e).0);
          other = omega (arith, left, room, b.other, due-less f n (omega (arith, fit, b.other)));
        }

    -- one round, all rounds
    round-from : (e : Engine) (f : ℕ) (l l' part part' m m' : List ℕ) → Pending e.stream.pending l l' → Agree P m m' → Frames g e.queue (due_of e) (whole_frames_of f)
        → (g.cyclic.capture ≡ true → part ≡ part') → WorkAlike (round_of g (work_of e l part m)) (round_of g (work_of (with_time e f) l' part' m'))
    unfolding round_of
    round-from e f l l' part part' m m' listing a frames same =
        let n = frames_of g e in
        let c = g.cyclic in
        let t = transfer-alike P c f e.stream e.queue g.connected g.left g.right l l' part part' m m' (4 * n) listing a listed same in
        let u = settled-alike e f n _ _ t (transfer-fraction c e.stream e.queue g.connected g.left g.right l part m (4 * n)) (moved-frames e f l part m frames) in
        rw (← frames-alike (work_of e l part m) (work_of (with_time e f) l' part' m') (record { engine = record { engine = refl; frames = frames }; list = listing; memory = a; part = same }))
        record { engine = u.engine; list = u.list; memory = u.memory; part = t.part }

    round-alike : (x y : Work) → WorkAlike x y → WorkAlike (round_of g x) (round_of g y)
    round-alike x y a =
        subst (λ (e : Engine). WorkAlike (round_of g x) (round_of g (work_of e y.list y.part y.memory))) a.engine.engine
        (round-from x.engine y.engine.stream.fraction x.list y.list x.part y.part x.memory y.memory a.list a.memory a.engine.frames a.part)

    pub rounds-alike : (fuel fuel' : ℕ) (x y : Work) → WorkAlike x y → due_of x.engine ≤ fuel → due_of y.engine ≤ fuel' → WorkAlike (rounds_of fuel g x) (rounds_of fuel' g y)
    rounds-alike zero fuel' x y a enough enough' =
        let none : frames_of g x.engine ≡ 0 = omega (arith, (frames-few g x.engine).0) in
        rw (rounds-end g x 0 none, rounds-end g y fuel' (sym (frames-alike x y a) ∙ none)) a
    rounds-alike (suc fuel) fuel' x y a enough enough' =
        by-test (eqb (frames_of g x.engine) 0)
        (λ t. let none = eqb-true (frames_of g x.engine) 0 t in rw (rounds-end g x (suc fuel) none, rounds-end g y fuel' (sym (frames-alike x y a) ∙ none)) a)
        (λ t.
        let some : frames_of g x.engine ≡ 0 → ⊥ = eqb-false (frames_of g x.engine) 0 t in
        let some' : frames_of g y.engine ≡ 0 → ⊥ = λ z. some (frames-alike x y a ∙ z) in
        let (j, ej, more) = rounds-more g y fuel' some' enough' in
        let (i, ei, first) = rounds-more g x (suc fuel) some enough in
        let same : i ≡ fuel = omega arith in
        rw (first, same, more) (rounds-alike fuel j (round_of g x) (round_of g y) (round-alike x y a) (omega (arith, round-due g x some)) (omega (arith, round-due g y some'))))

    -- an open stream's turn, from one engine and list, for two times that make as many frames to move
    updated-on : (e : Engine) (l m : List ℕ) → (updated_of g e l m).engine.running ≡ true
        → ((updated_of g e l m).engine.stream.fraction ≡ e.stream.fraction) × ((updated_of g e l m).engine.queue ≡ e.queue)
    unfolding updated_of update_of stopped_of
    updated-on e l m =
        publish-by g _ m (λ e'. e'.running ≡ true → (e'.stream.fraction ≡ e.stream.fraction) × (e'.queue ≡ e.queue)) (λ _. (refl, refl)) (λ z. absurd (true≢false (sym z)))

    abbrev Timed : ℕ → ℕ → ℕ → Engine → Type 0
    Timed rate nanos nanos' e = Frames g e.queue (whole_frames_of (accrue_of rate nanos e.stream.fraction)) (whole_frames_of (accrue_of rate nanos' e.stream.fraction))

    timed-from : (rate nanos nanos' : ℕ) (e : Engine) (l l' part part' m m' : List ℕ) → Timed rate nanos nanos' e → Pending e.stream.pending l l' → Agree P m m'
        → (g.cyclic.capture ≡ true → part ≡ part') → WorkAlike (timed_of g rate nanos (work_of e l part m)) (timed_of g rate nanos' (work_of e l' part' m'))
    timed-from rate nanos nanos' e l l' part part' m m' frames listing a same =
        rounds-alike (due_of (accrued_of rate nanos e)) (due_of (accrued_of rate nanos' e)) (work_of (accrued_of rate nanos e) l part m) (work_of (accrued_of rate nanos' e) l' part' m')
        (record { engine = record { engine = refl; frames = frames }; list = listing; memory = a; part = same }) (omega arith) (omega arith)

    pub served-alike : (rate nanos nanos' : ℕ) (e : Engine) (l l' part part' m m' : List ℕ) → Timed rate nanos nanos' e → Pending e.stream.pending l l' → Agree P m m'
        → (g.cyclic.capture ≡ true → part ≡ part') → WorkAlike (served_of g rate nanos (work_of e l part m)) (served_of g rate nanos' (work_of e l' part' m'))
    unfolding served_of
    served-alike rate nanos nanos' e l l' part part' m m' frames listing a same =
        go u.engine.running refl u'.engine.running refl (updated-alike e e.stream.fraction l l' m m' listing a (inl refl))
      where
        u : Updated
        u = updated_of g e l m

        u' : Updated
        u' = updated_of g e l' m'

        go : (b : Bool) → u.engine.running ≡ b → (b' : Bool) → u'.engine.running ≡ b' → UpdatedAlike u u'
            → WorkAlike (cond b (timed_of g rate nanos (with_updated u part)) (with_updated u part)) (cond b' (timed_of g rate nanos' (with_updated u' part')) (with_updated u' part'))
        go true z true z' k =
            let on = updated-on e l m z in
            let eq : u.engine ≡ u'.engine = subst (λ (v : ℕ). with_time u.engine v ≡ u'.engine) ((updated-on e l' m' z').0 ∙ sym on.0) k.engine.engine in
            let r = timed-from rate nanos nanos' u.engine u.list u'.list part part' u.memory u'.memory (rw (on.0, on.1) frames) k.list k.memory same in
            rw (← eq) r
        go false z false z' k = record { engine = k.engine; list = k.list; memory = k.memory; part = same }
        go true z false z' k = absurd (true≢false (sym z ∙ ap (λ (e₁ : Engine). e₁.running) k.engine.engine ∙ z'))
        go false z true z' k = absurd (true≢false (sym z' ∙ sym (ap (λ (e₁ : Engine). e₁.running) k.engine.engine) ∙ z))
