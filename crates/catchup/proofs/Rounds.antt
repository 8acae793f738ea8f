-- A playback's turn of 0 ns: it takes as many of the frames due as its queue may still hold, and while the stream runs each frame that is no longer due was moved, and stands in the queue. Assumes nothing.
use Prim.Native.Nat.{ℕ, zero, suc, ◌+◌, ◌-◌, ◌*◌, ◌/◌, ◌≤◌, ◌<◌, min}
use mathlib.Core.Path.{◌≡◌, refl, sym, ap, ◌∙◌}
use mathlib.Core.Bool.{Bool, true, false, true≢false}
use mathlib.Core.List.{List}
use native.Mathlib.Omega.{arith}
use native.Mathlib.Nat.{le_trans}
use borrow.Author.Tests.{eqb-true, eqb-false}
use lib.Dec.{eqb}
use Rattle.word.proofs.Choices.{by_cond}
use Rattle.clock.specs.Billionths.{billion}
use Rattle.clock.specs.Frames.{accrue_of}
use Rattle.stream.specs.declared.Stream.{Stream}
use Rattle.stream.specs.declared.Cyclic.{Cyclic}
use Rattle.stream.specs.Update.{update_of}
use Rattle.plan.specs.Plans.{ready_of}
use Rattle.pieces.specs.Pieces.{state_of, pieces_of}
use Rattle.pieces.proofs.Facts.{pieces-done, pieces-submitted}
use Rattle.queue.specs.declared.Queue.{Queue}
use Rattle.queue.specs.Queues.{capacity, put_of, take_of, latency_of}
use Rattle.transfer.specs.Transfers.{Transfer, transfer_out, with_pieces, silence, capture_of, playback_of, transfer_of}
use Rattle.turn.specs.declared.Setup.{Setup}
use Rattle.turn.specs.declared.Engine.{Engine}
use Rattle.turn.specs.Engines.{Work, work_of, engine, stopped_of, moved_on, updated_of, with_updated, frames_of, transferred_of, transfer_at, settled_of, round_of, again, rounds_of, accrued_of, due_of, timed_of, served_of}
use Rattle.turn.proofs.Facts.{transfer-queue, transfer-fraction, publish-by, frames-few, round-due}

-- ---- how many frames are left
-- frames that the queue may still take, and those due beyond them
abbrev room_of : Setup → Engine → ℕ
room_of g e = (g.limit - e.queue.length) / 4

abbrev pub late_of : Setup → Engine → ℕ
late_of g e = due_of e - room_of g e

-- n frames fewer due, and room for at most n fewer
room-less : (limit q q' n : ℕ) → q' ≤ q + 4 * n → (limit - q) / 4 ≤ (limit - q') / 4 + n
room-less limit q q' n h = omega arith

due-less : (f n : ℕ) → n ≤ f / billion → (f - n * billion) / billion + n ≡ f / billion
due-less f n h = omega arith

late-less : (due room due' room' n : ℕ) → due' + n ≡ due → room ≤ room' + n → due' - room' ≤ due - room
late-less due room due' room' n h k = omega arith

less-late : (due due' room : ℕ) → due' ≤ due → due' - room ≤ due - room
less-late due due' room h = omega arith

none-late : (due room most : ℕ) → due ≡ 0 → due - room ≤ most
none-late due room most h = omega arith

-- a transfer adds at most its bytes to the queue
module _ (g : Cyclic) (s : Stream) (q : Queue) (connected : Bool) (left right : ℕ) (l part m : List ℕ) (count : ℕ) where
  transfer-adds : (transfer_of g s q connected left right l part m count).transferred.queue.length ≤ q.length + count
  unfolding take_of put_of
  transfer-adds =
      transfer-queue g s q connected left right l part m count (λ q'. q'.length ≤ q.length + count) (omega arith) (omega arith)
      (λ pcm. by_cond (λ (k : ℕ). q.length + k ≤ q.length + count) q.live (min count (capacity - q.length)) 0 (λ _. omega arith) (λ _. omega arith))

-- no time is added in 0 ns
accrue-none : (rate fraction : ℕ) → accrue_of rate 0 fraction / billion ≤ fraction / billion
unfolding accrue_of
accrue-none rate fraction = omega arith

-- a failure leaves none due
pub stopped-late : (e : Engine) → due_of (stopped_of e) ≡ 0
unfolding stopped_of
stopped-late e = omega arith

-- frames of a playback's transfer fit
frames-fit : (g : Setup) (e : Engine) → g.cyclic.capture ≡ false → (frames_of g e ≤ room_of g e) × (frames_of g e ≡ 0 → due_of e ≤ late_of g e)
unfolding frames_of
frames-fit g e plays = rw plays (omega arith, λ none. omega arith)

module _ (g : Setup) where
  -- a position update leaves queue and time, or stops
  updated-late : (e : Engine) (l m : List ℕ) → late_of g (updated_of g e l m).engine ≤ late_of g e
  unfolding updated_of update_of
  updated-late e l m =
      let u = update_of e.stream l (latency_of e.queue g.cyclic.capture g.downstream) in
      let e' = moved_on g e u.updated.stream u.updated.completed in
      publish-by g e' m (λ e''. late_of g e'' ≤ late_of g e) (omega arith) (omega (arith, stopped-late e'))

  -- an update that stopped left none due
  updated-off : (e : Engine) (l m : List ℕ) → e.running ≡ true → (updated_of g e l m).engine.running ≡ false → due_of (updated_of g e l m).engine ≡ 0
  unfolding updated_of update_of
  updated-off e l m on =
      let u = update_of e.stream l (latency_of e.queue g.cyclic.capture g.downstream) in
      let e' = moved_on g e u.updated.stream u.updated.completed in
      publish-by g e' m (λ e''. e''.running ≡ false → due_of e'' ≡ 0) (λ off. absurd (true≢false (sym on ∙ off))) (λ _. stopped-late e')

  module _ (plays : g.cyclic.capture ≡ false) where
    round-late : (x : Work) → late_of g (round_of g x).engine ≤ late_of g x.engine
    unfolding round_of settled_of
    round-late x =
        let e = x.engine in
        let n = frames_of g e in
        let t = transfer_at g x n in
        let t' = t.transferred in
        let same = transfer-fraction g.cyclic e.stream e.queue g.connected g.left g.right x.list x.part x.memory (4 * n) in
        let adds = transfer-adds g.cyclic e.stream e.queue g.connected g.left g.right x.list x.part x.memory (4 * n) in
        let e' = transferred_of e t'.stream t'.queue n in
        let e'' = engine e.running e.status e.position t'.stream t'.queue in
        let gone : due_of e' + n ≡ due_of e = rw same (due-less e.stream.fraction n (frames-few g e).0) in
        let moved : late_of g e' ≤ late_of g e = late-less (due_of e) (room_of g e) (due_of e') (room_of g e') n gone (room-less g.limit e.queue.length t'.queue.length n adds) in
        by_cond (λ u. late_of g u.engine ≤ late_of g e) t'.ok (updated_of g e' t.list t.memory) _
        (λ _. le_trans (updated-late e' t.list t.memory) moved)
        (λ _. none-late (due_of (stopped_of e'')) (room_of g (stopped_of e'')) (late_of g e) (stopped-late e''))

    again-late : (fuel : ℕ) (x : Work) (b : Bool) → eqb (frames_of g x.engine) 0 ≡ b → due_of x.engine ≤ suc fuel
        → ((y : Work) → due_of y.engine ≤ fuel → due_of (rounds_of fuel g y).engine ≤ late_of g y.engine)
        → due_of (again b g x (rounds_of fuel g)).engine ≤ late_of g x.engine
    again-late fuel x true e enough rest = (frames-fit g x.engine plays).1 (eqb-true (frames_of g x.engine) 0 e)
    again-late fuel x false e enough rest =
        let less = round-due g x (eqb-false (frames_of g x.engine) 0 e) in
        le_trans (rest (round_of g x) (omega arith)) (round-late x)

    rounds-late : (fuel : ℕ) (x : Work) → due_of x.engine ≤ fuel → due_of (rounds_of fuel g x).engine ≤ late_of g x.engine
    unfolding rounds_of
    rounds-late zero x enough = omega arith
    rounds-late (suc fuel) x enough = again-late fuel x (eqb (frames_of g x.engine) 0) refl enough (rounds-late fuel)

    -- an open playback: what is due after its turn is at most what was due before, less what the queue could take
    pub served-late : (rate : ℕ) (x : Work) → x.engine.running ≡ true → due_of (served_of g rate 0 x).engine ≤ late_of g x.engine
    unfolding served_of
    served-late rate x on =
        let y = with_updated (updated_of g x.engine x.list x.memory) x.part in
        let e = accrued_of rate 0 y.engine in
        let late = updated-late x.engine x.list x.memory in
        by_cond (λ z. due_of z.engine ≤ late_of g x.engine) y.engine.running (timed_of g rate 0 y) y
        (λ _. le_trans (rounds-late (due_of e) (work_of e y.list y.part y.memory) (omega arith))
        (le_trans (less-late (due_of y.engine) (due_of e) (room_of g e) (accrue-none rate y.engine.stream.fraction)) late))
        (λ off. rw (updated-off x.engine x.list x.memory on off) (omega arith))

-- ---- where the others went
-- a ready buffer's length is not 0
ready-some : (g : Cyclic) → ready_of g ≡ true → 0 < g.cbl
unfolding ready_of
ready-some g = by_cond (λ (b : Bool). b ≡ true → 0 < g.cbl) (eqb g.cbl 0) false _ (λ _ z. absurd (true≢false (sym z))) (λ e _. omega (arith, eqb-false g.cbl 0 e))

-- an open queue within its bounds
abbrev pub Open : Queue → Type 0
Open q = (q.live ≡ true) × (q.length ≤ capacity)

-- a transfer that succeeds moves all its bytes, and a playback's queues them
module _ (g : Cyclic) (s : Stream) (q : Queue) (connected : Bool) (left right : ℕ) (l part m : List ℕ) (count : ℕ) where
  abbrev Moves : Transfer → Type 0
  Moves t = t.transferred.ok ≡ true → t.transferred.stream.submitted ≡ s.submitted + count

  pieces-all : (pcm : List ℕ) → ready_of g ≡ true → let o = pieces_of count g count (state_of s l m pcm 0) in o.ok ≡ true → o.state.stream.submitted ≡ s.submitted + count
  pieces-all pcm ready ok =
      let x = state_of s l m pcm 0 in
      omega (arith, pieces-submitted g count count x, pieces-done g count (ready-some g ready) count x (omega arith) (omega arith) ok)

  transfer-moves : Moves (transfer_of g s q connected left right l part m count)
  unfolding transfer_of capture_of playback_of
  transfer-moves =
      let o = pieces_of count g count (state_of s l m (silence count) 0) in
      by_cond Moves (ready_of g) _ (transfer_out false false s q l part m)
      (λ ready. by_cond Moves g.capture (capture_of g s q connected left right l part m count) (playback_of g s q connected left right l part m count)
      (λ _. pieces-all _ ready)
      (λ _. by_cond Moves o.ok _ (with_pieces o q part) (λ _. pieces-all (silence count) ready) (λ _. pieces-all (silence count) ready)))
      (λ _ z. absurd (true≢false (sym z)))

  abbrev Queues : Transfer → Type 0
  Queues t = t.transferred.ok ≡ true → (t.transferred.queue.live ≡ true) × (t.transferred.queue.length ≡ q.length + count)

  put_all : (pcm : List ℕ) → q.live ≡ true → q.length + count ≤ capacity → ((put_of q part pcm count).queue.live ≡ true) × ((put_of q part pcm count).queue.length ≡ q.length + count)
  unfolding put_of
  put_all pcm live fits = (live, rw live (least q.length fits))
    where
      least : (n : ℕ) → n + count ≤ capacity → n + min count (capacity - n) ≡ n + count
      least n h = omega arith

  transfer-queues : g.capture ≡ false → q.live ≡ true → q.length + count ≤ capacity → Queues (transfer_of g s q connected left right l part m count)
  unfolding transfer_of playback_of
  transfer-queues plays live fits =
      let o = pieces_of count g count (state_of s l m (silence count) 0) in
      by_cond Queues (ready_of g) _ (transfer_out false false s q l part m)
      (λ _. by_cond Queues g.capture (capture_of g s q connected left right l part m count) (playback_of g s q connected left right l part m count)
      (λ capture. absurd (true≢false (sym capture ∙ plays)))
      (λ _. by_cond Queues o.ok _ (with_pieces o q part) (λ _ _. put_all _ live fits) (λ off z. absurd (true≢false (sym z ∙ off)))))
      (λ _ z. absurd (true≢false (sym z)))

-- bytes submitted, and four for each frame due
abbrev pub total_of : Stream → ℕ
total_of s = s.submitted + 4 * (s.fraction / billion)

-- bytes queued, and four for each frame due
abbrev pub held_of : Stream → Queue → ℕ
held_of s q = q.length + 4 * (s.fraction / billion)

-- what stays of both from a stream and its queue on: nothing is dropped, and of an open queue nothing is anywhere else
pub record Carries (s₀ : Stream) (q₀ : Queue) (s : Stream) (q : Queue) : Type 0 where
  pub total : total_of s ≡ total_of s₀
  pub held : Open q₀ → Open q × (held_of s q ≡ held_of s₀ q₀)

pub carries_same : (s : Stream) (q : Queue) → Carries s q s q
carries_same s q = record { total = refl; held = λ o. (o, refl) }

joined : (s₀ : Stream) (q₀ : Queue) (s : Stream) (q : Queue) (s' : Stream) (q' : Queue) → Carries s₀ q₀ s q → Carries s q s' q' → Carries s₀ q₀ s' q'
joined s₀ q₀ s q s' q' a b = record { total = b.total ∙ a.total; held = λ o. let h = a.held o in let k = b.held h.0 in (k.0, k.1 ∙ h.1) }

accrue-same : (rate f : ℕ) → f < 8193 * billion → accrue_of rate 0 f / billion ≡ f / billion
unfolding accrue_of
accrue-same rate f few = omega arith

module _ (g : Setup) (plays : g.cyclic.capture ≡ false) (limited : g.limit ≤ capacity) where
  updated-few : (e : Engine) (l m : List ℕ) → e.stream.fraction < 8193 * billion → (updated_of g e l m).engine.stream.fraction < 8193 * billion
  unfolding updated_of update_of stopped_of
  updated-few e l m few = publish-by g _ m (λ e''. e''.stream.fraction < 8193 * billion) few (omega arith)

  -- where `e` goes on running, so did `e₀`, and nothing was lost between
  abbrev Keeps : Engine → Engine → Type 0
  Keeps e₀ e = e.running ≡ true → (e₀.running ≡ true) × Carries e₀.stream e₀.queue e.stream e.queue

  chained : (a b c : Engine) → Keeps a b → Keeps b c → Keeps a c
  chained a b c f h on = let r = h on in let q = f r.0 in (q.0, joined a.stream a.queue b.stream b.queue c.stream c.queue q.1 r.1)

  stopped-keeps : (e₀ e : Engine) → Keeps e₀ (stopped_of e)
  unfolding stopped_of
  stopped-keeps e₀ e z = absurd (true≢false (sym z))

  updated-keeps : (e₀ e : Engine) (l m : List ℕ) → Keeps e₀ e → Keeps e₀ (updated_of g e l m).engine
  unfolding updated_of update_of
  updated-keeps e₀ e l m k =
      let u = update_of e.stream l (latency_of e.queue g.cyclic.capture g.downstream) in
      let e' = moved_on g e u.updated.stream u.updated.completed in
      publish-by g e' m (Keeps e₀)
      (λ on. let r = k on in (r.0, record { total = r.1.total; held = λ o. r.1.held o })) (stopped-keeps e₀ e')

  round_keeps : (x : Work) → Keeps x.engine (round_of g x).engine
  unfolding round_of settled_of
  round_keeps x =
      let e = x.engine in
      let n = frames_of g e in
      let t = transfer_at g x n in
      let t' = t.transferred in
      let same = transfer-fraction g.cyclic e.stream e.queue g.connected g.left g.right x.list x.part x.memory (4 * n) in
      let gone : (t'.stream.fraction - n * billion) / billion + n ≡ e.stream.fraction / billion = rw same (due-less e.stream.fraction n (frames-few g e).0) in
      let e' = transferred_of e t'.stream t'.queue n in
      by_cond (λ u. Keeps e u.engine) t'.ok (updated_of g e' t.list t.memory) _
      (λ ok. updated-keeps e e' t.list t.memory
      (λ on. (
        on,
        record {
          total = whole t'.stream.submitted e.stream.submitted n _ _
              (transfer-moves g.cyclic e.stream e.queue g.connected g.left g.right x.list x.part x.memory (4 * n) ok) gone;
          held = λ o.
              let fits : e.queue.length + 4 * n ≤ capacity = room g.limit e.queue.length n limited o.1 (frames-fit g e plays).0 in
              let k = transfer-queues g.cyclic e.stream e.queue g.connected g.left g.right x.list x.part x.memory (4 * n) plays o.0 fits ok in
              ((k.0, rw k.1 fits), whole t'.queue.length e.queue.length n _ _ k.1 gone);
        },
      )))
      (λ _. stopped-keeps e (engine e.running e.status e.position t'.stream t'.queue))
    where
      whole : (s' s n due' due : ℕ) → s' ≡ s + 4 * n → due' + n ≡ due → s' + 4 * due' ≡ s + 4 * due
      whole s' s n due' due h k = omega arith

      room : (limit q n : ℕ) → limit ≤ capacity → q ≤ capacity → n ≤ (limit - q) / 4 → q + 4 * n ≤ capacity
      room limit q n few held fits = omega arith

  again-keeps : (b : Bool) (x : Work) (rest : Work → Work) → ((y : Work) → Keeps y.engine (rest y).engine) → Keeps x.engine (again b g x rest).engine
  again-keeps true x rest more = λ on. (on, carries_same x.engine.stream x.engine.queue)
  again-keeps false x rest more = chained x.engine (round_of g x).engine (rest (round_of g x)).engine (round_keeps x) (more (round_of g x))

  rounds-keep : (fuel : ℕ) (x : Work) → Keeps x.engine (rounds_of fuel g x).engine
  unfolding rounds_of
  rounds-keep zero x = λ on. (on, carries_same x.engine.stream x.engine.queue)
  rounds-keep (suc fuel) x = again-keeps (eqb (frames_of g x.engine) 0) x (rounds_of fuel g) (rounds-keep fuel)

  -- 0 ns leave the time as it is
  accrued-keeps : (rate : ℕ) (e : Engine) → e.stream.fraction < 8193 * billion → Keeps e (accrued_of rate 0 e)
  accrued-keeps rate e few on =
      let same = accrue-same rate e.stream.fraction few in
      (on, record { total = ap (λ (n : ℕ). e.stream.submitted + 4 * n) same; held = λ o. (o, ap (λ (n : ℕ). e.queue.length + 4 * n) same) })

  pub served-keeps : (rate : ℕ) (x : Work) → x.engine.stream.fraction < 8193 * billion → Keeps x.engine (served_of g rate 0 x).engine
  unfolding served_of
  served-keeps rate x few =
      let y = with_updated (updated_of g x.engine x.list x.memory) x.part in
      let e = accrued_of rate 0 y.engine in
      let updated = updated-keeps x.engine x.engine x.list x.memory (λ on. (on, carries_same x.engine.stream x.engine.queue)) in
      by_cond (λ z. Keeps x.engine z.engine) y.engine.running (timed_of g rate 0 y) y
      (λ _.
      let z = (timed_of g rate 0 y).engine in
      chained x.engine y.engine z updated
      (chained y.engine e z (accrued-keeps rate y.engine (updated-few x.engine x.list x.memory few)) (rounds-keep (due_of e) (work_of e y.list y.part y.memory))))
      (λ _. updated)
