-- What follows from demand 3: counts in rising lists, and the engine after a turn. Assumes nothing.
use Prim.Native.Nat.{ℕ, zero, suc, ◌+◌, ◌*◌, ◌≤◌, ◌<◌}
use mathlib.Core.Path.{◌≡◌, refl, sym, ap, ◌∙◌}
use mathlib.Core.Bool.{Bool, true, false, cond, true≢false}
use mathlib.Core.List.{List, [], ◌∷◌, ◌++◌}
use native.Mathlib.Omega.{arith}
use borrow.Author.Tests.{eqb-true, ne_eqb}
use lib.Dec.{eqb}
use Rattle.word.proofs.Choices.{by_cond}
use Rattle.stream.specs.Box.{streams}
use Rattle.stream.specs.Update.{update_of}
use Rattle.pieces.specs.Pieces.{state_of}
use Rattle.pieces.proofs.Turns.{pieces-keep}
use Rattle.pieces.proofs.Facts.{next-consumed}
use Rattle.queue.specs.Queues.{latency_of}
use Rattle.turn.specs.declared.Setup.{Setup}
use Rattle.turn.specs.declared.Engine.{Engine}
use Rattle.turn.specs.Engines.{Work, work_of, stopped_of, position_of, moved_on, Updated, updated_of, with_updated, frames_of, transferred_of, transfer_at, settled_of, round_of, again, rounds_of, accrued_of, due_of, timed_of, served_of}
use Rattle.turn.proofs.Facts.{publish-by, transfer-stream}
use Rattle.device.specs.Machines.{Machine}
use Rattle.book.specs.Book.{Book}
use Rattle.book.specs.Lists.{Step, book_of}
use Rattle.book.specs.Claim.{Rises, Starts}
use Rattle.book.specs.Corollaries.{times, Once, Told}
use Rattle.book.proofs.Orders.{rises-same, rises-room, rises-append}
use Rattle.book.proofs.Turns.{update-near}
use Rattle.book.proofs.Theorem.{agrees, past}

-- ---- how often a position stands in a rising list
times-append : (p : ℕ) (ps qs : List ℕ) → times p (ps ++ qs) ≡ times p ps + times p qs
times-append p [] qs = omega arith
times-append p (q ∷ ps) qs = omega (arith, times-append p ps qs)

none_below : (p lo : ℕ) (ps : List ℕ) (hi : ℕ) → p ≤ lo → Rises lo ps hi → times p ps ≡ 0
none_below p lo [] hi h r = refl
none_below p lo (q ∷ ps) hi h r = rw (ne_eqb p q (λ e. omega (arith, h, r.0, e)), none_below p q ps hi (omega (arith, h, r.0)) r.1)

none_above : (p lo : ℕ) (ps : List ℕ) (hi : ℕ) → hi < p → Rises lo ps hi → times p ps ≡ 0
none_above p lo [] hi h r = refl
none_above p lo (q ∷ ps) hi h r = rw (ne_eqb p q (λ e. omega (arith, h, e, rises-room q ps hi r.1)), none_above p q ps hi h r.1)

once-step : (b : Bool) (n : ℕ) → (b ≡ true → n ≡ 0) → n ≤ 1 → cond b 1 0 + n ≤ 1
once-step true n f h = omega (arith, f refl)
once-step false n f h = omega (arith, h)

at-most-once : (p lo : ℕ) (ps : List ℕ) (hi : ℕ) → Rises lo ps hi → times p ps ≤ 1
at-most-once p lo [] hi r = omega arith
at-most-once p lo (q ∷ ps) hi r =
    once-step (eqb p q) (times p ps) (λ e. none_below p q ps hi (omega (arith, eqb-true p q e)) r.1) (at-most-once p q ps hi r.1)

-- retired positions up to consumed, and pending ones from there on, are the ends
pub once-each : (b : Book) → Rises 0 b.retired b.consumed → Rises b.consumed b.pending b.submitted → b.ends ≡ b.retired ++ b.pending → Once b
once-each b gone left exact =
    record {
      once = λ p. rw exact (at-most-once p 0 (b.retired ++ b.pending) b.submitted (rises-append 0 b.retired b.consumed b.pending b.submitted gone left));
      parted = λ p. ap (times p) exact ∙ times-append p b.retired b.pending;
      early = λ p h. none_above p 0 b.retired b.consumed h gone;
      late = λ p h. none_below p b.consumed b.pending b.submitted h left;
    }

pub once : (i : ℕ) → i < streams → (cs : List Step) (x : Machine) → Starts x → Once (book_of i cs x)
once i few cs x start =
    let a = agrees i few cs x start in
    once-each (book_of i cs x) (past i few cs x start) (rises-same a.consumed a.pending a.submitted a.rises) a.exact

-- ---- a turn: each position update tells position and count, and a transfer that fails moves neither
stopped-told : (g : Setup) (e : Engine) → e.position ≡ position_of e.stream.consumed g.cyclic.cbl → Told g (stopped_of e)
unfolding stopped_of
stopped-told g e p = record { position = p; ahead = λ z. absurd (true≢false (sym z)) }

module _ (g : Setup) where
  updated-told : (e : Engine) (l m : List ℕ) → Told g (updated_of g e l m).engine
  unfolding updated_of
  updated-told e l m =
      let latency = latency_of e.queue g.cyclic.capture g.downstream in
      let u = update_of e.stream l latency in
      let e' = moved_on g e u.updated.stream u.updated.completed in
      publish-by g e' m (Told g) (record { position = refl; ahead = λ _. update-near e.stream l latency }) (stopped-told g e' refl)

  transfer-consumed : (x : Work) (n : ℕ) → (transfer_at g x n).transferred.stream.consumed ≡ x.engine.stream.consumed
  transfer-consumed x n =
      let e = x.engine in
      let c = g.cyclic in
      let s = e.stream in
      transfer-stream c s e.queue g.connected g.left g.right x.list x.part x.memory (4 * n) (λ s' l'. s'.consumed ≡ s.consumed) refl
      (λ pcm _. pieces-keep c (4 * n) (λ y. y.stream.consumed ≡ s.consumed) (λ y at k end more w h. next-consumed y.stream c.lvi k end ∙ h) (4 * n)
      (state_of s x.list x.memory pcm 0) refl)

  round-told : (x : Work) → Told g x.engine → Told g (round_of g x).engine
  unfolding round_of settled_of
  round-told x t =
      let e = x.engine in
      let n = frames_of g e in
      let o = transfer_at g x n in
      let r = o.transferred in
      by_cond (λ (u : Updated). Told g u.engine) r.ok (updated_of g (transferred_of e r.stream r.queue n) o.list o.memory) _
      (λ _. updated-told (transferred_of e r.stream r.queue n) o.list o.memory)
      (λ _. stopped-told g _ (rw (transfer-consumed x n) t.position))

  again-told : (b : Bool) (x : Work) (rest : Work → Work) → ((y : Work) → Told g y.engine → Told g (rest y).engine) → Told g x.engine
      → Told g (again b g x rest).engine
  again-told true x rest more t = t
  again-told false x rest more t = more (round_of g x) (round-told x t)

  rounds-told : (fuel : ℕ) (x : Work) → Told g x.engine → Told g (rounds_of fuel g x).engine
  unfolding rounds_of
  rounds-told zero x t = t
  rounds-told (suc fuel) x t = again-told (eqb (frames_of g x.engine) 0) x (rounds_of fuel g) (rounds-told fuel) t

  pub told : (rate nanos : ℕ) (x : Work) → Told g (served_of g rate nanos x).engine
  unfolding served_of
  told rate nanos x =
      let y = with_updated (updated_of g x.engine x.list x.memory) x.part in
      let t = updated-told x.engine x.list x.memory in
      let e = accrued_of rate nanos y.engine in
      by_cond (λ (z : Work). Told g z.engine) y.engine.running (timed_of g rate nanos y) y
      (λ _. rounds-told (due_of e) (work_of e y.list y.part y.memory) (record { position = t.position; ahead = t.ahead })) (λ _. t)
