-- A stream's turn sees guest memory through its own descriptor list alone, elapsed time through the frames that it makes to move, and of the registers not the wall
-- clock's. Assumes nothing.
use Prim.Native.Nat.{ℕ, ◌+◌, ◌-◌, ◌*◌, ◌/◌, ◌≤◌, ◌<◌}
use mathlib.Core.Path.{◌≡◌, refl, sym, ap, ◌∙◌}
use mathlib.Core.Bool.{Bool, true, false, cond, not, ◌&&◌}
use mathlib.Core.List.{List}
use mathlib.Core.Logic.{◌⊎◌, inl, inr}
use native.Mathlib.Omega.{arith}
use borrow.Author.Tests.{ltb-true, ltb-false}
use lib.Dec.{ltb}
use lib.ListN.{length, set, length-set}
use Rattle.word.specs.Place.{word_at, store_at}
use Rattle.word.proofs.Choices.{by-test, by_cond}
use Rattle.word.proofs.Lists.{at_set}
use Rattle.word.proofs.Place.{length-store}
use Rattle.clock.specs.Frames.{accrue_of, whole_frames_of}
use Rattle.std.specs.Prelude.{Option, None, Some}
use Rattle.format.specs.Format.{format_of}
use Rattle.codec.specs.declared.Codec.{Codec}
use Rattle.plan.specs.Plans.{ready_of}
use Rattle.stream.specs.declared.Stream.{Stream}
use Rattle.stream.specs.Box.{streams, captures}
use Rattle.queue.specs.declared.Queue.{Queue}
use Rattle.queue.specs.Queues.{capacity, queue, closed, valid_queue}
use Rattle.queue.proofs.Validity.{queue-conditions}
use Rattle.host.specs.declared.Host.{Host}
use Rattle.host.specs.Hosts.{Opening, opening_of, open_of, fails_of, queue_at, with_queue}
use Rattle.registers.specs.Places.{size, ctl, sts, lpib, fmt, dplbase, byte_at, keep_bits}
use Rattle.turn.specs.declared.Setup.{Setup}
use Rattle.turn.specs.declared.Engine.{Engine}
use Rattle.turn.specs.Setups.{cyclic_of, setup_of}
use Rattle.turn.specs.Engines.{Work, work_of, with_fraction, stopped_of, served_of}
use Rattle.turn.specs.Turns.{open_stream_of, engine_of, store_engine, Turn, finished, formatted_of, turn_of}
use Rattle.book.proofs.Turns.{opened-live}
use Rattle.counts.specs.Counts.{movable_by, Agree, Pending}
use Rattle.counts.proofs.Agree.{agree-word, agree-set, agree-store}
use Rattle.counts.proofs.Pieces.{Listed}
use Rattle.counts.proofs.Engines.{room_of, Frames, WorkAlike, stopped-pending, served-alike}

-- every place of the register file but the wall clock's
abbrev pub Timeless : ℕ → Type 0
Timeless k = (k < 0x30) ⊎ (0x34 ≤ k)

-- what a turn leaves, but for its frame time, its list and memory outside of the set
pub record TurnAlike (P : ℕ → Type 0) (t t' : Turn) : Type 0 where
  pub refused : t.turned.refused ≡ t'.turned.refused
  pub stream : with_fraction t.turned.stream t'.turned.stream.fraction ≡ t'.turned.stream
  pub host : t.turned.host ≡ t'.turned.host
  pub regs : Agree Timeless t.regs t'.regs
  pub memory : Agree P t.memory t'.memory

-- of a stream's registers
module _ (regs regs' : List ℕ) (r : Agree Timeless regs regs') (i : ℕ) where
  word-alike : (n k : ℕ) → word_at n (0x80 + 0x20 * i + k) regs ≡ word_at n (0x80 + 0x20 * i + k) regs'
  word-alike n k = agree-word Timeless regs regs' r n (0x80 + 0x20 * i + k) (λ p lo hi. inr (omega arith))

  byte-alike : (k : ℕ) → byte_at regs (0x80 + 0x20 * i + k) ≡ byte_at regs' (0x80 + 0x20 * i + k)
  byte-alike k = r.same (0x80 + 0x20 * i + k) (inr (omega arith))

  pub format-alike : word_at 2 (fmt i) regs ≡ word_at 2 (fmt i) regs'
  format-alike = word-alike 2 0x12

  setup-alike : (codec : Codec) (downstream limit : ℕ) → setup_of regs codec i downstream limit ≡ setup_of regs' codec i downstream limit
  unfolding setup_of
  setup-alike codec downstream limit =
      let base : word_at 8 dplbase regs ≡ word_at 8 dplbase regs' = agree-word Timeless regs regs' r 8 dplbase (λ p lo hi. inr (omega arith)) in
      rw (word-alike 8 0x18, word-alike 2 0x0c, word-alike 4 0x08, word-alike 2 0x12, byte-alike 0x02, base)

  engine-alike : (h : Host) (s : Stream) → engine_of regs h i s ≡ engine_of regs' h i s
  engine-alike h s = rw (byte-alike 0x03, word-alike 4 0x04)

  module _ (few : i < streams) (sized : length regs ≡ size) where
    store-alike : (e : Engine) → Agree Timeless (store_engine i e regs) (store_engine i e regs')
    unfolding store_engine
    store-alike e = go e.running
      where
        k : List ℕ
        k = store_at 4 (lpib i) e.position (set regs (sts i) e.status)

        k' : List ℕ
        k' = store_at 4 (lpib i) e.position (set regs' (sts i) e.status)

        put : Agree Timeless k k'
        put = agree-store Timeless _ _ (agree-set Timeless regs regs' r (sts i) e.status (omega arith)) 4 (lpib i) e.position (omega (arith, length-set regs (sts i) e.status))

        long : length k ≡ size
        long = length-store 4 (lpib i) e.position (set regs (sts i) e.status) (omega (arith, length-set regs (sts i) e.status)) ∙ length-set regs (sts i) e.status ∙ sized

        go : (b : Bool) → Agree Timeless (cond b k (keep_bits (ctl i) 0xfd k)) (cond b k' (keep_bits (ctl i) 0xfd k'))
        go true = put
        go false = rw (← put.same (ctl i) (inr (omega arith))) (agree-set Timeless k k' put (ctl i) _ (omega (arith, long)))

    finished-alike : (P : ℕ → Type 0) (g : Setup) (refused : Bool) (h : Host) (x y : Work) → WorkAlike P g x y → TurnAlike P (finished refused regs h i x) (finished refused regs' h i y)
    unfolding store_engine
    finished-alike P g refused h x y a =
        rw (← a.engine.engine) record { refused = refl; stream = refl; host = refl; regs = timed; memory = a.memory }
      where
        timed : Agree Timeless (store_engine i x.engine regs) (store_engine i x.engine regs')
        timed = store-alike x.engine

    module _ (P : ℕ → Type 0) (codec : Codec) (nanos nanos' : ℕ) (s : Stream) (l l' part part' m m' : List ℕ) (listing : Pending s.pending l l') (a : Agree P m m')
        (listed : ready_of (cyclic_of regs i) ≡ true → Listed P (cyclic_of regs i)) (same : captures i ≡ true → part ≡ part') (h : Host) (microphone : Bool)
        (hosted : length h.queues ≡ streams) (valid : valid_queue (queue_at h i) ≡ true) where
      abbrev o : Opening
      o = open_stream_of h microphone i

      abbrev Whole : ℕ → ℕ → ℕ
      Whole rate t = whole_frames_of (accrue_of rate t s.fraction)

      abbrev Movable : ℕ → Type 0
      Movable rate = movable_by (captures i) (queue_at h i).length (Whole rate nanos) ≡ movable_by (captures i) (queue_at h i).length (Whole rate nanos')

      stopped : (refused : Bool) (h' : Host) → TurnAlike P (finished refused regs h' i (work_of (stopped_of (engine_of regs h' i s)) l part m)) (finished refused regs' h' i (work_of (stopped_of (engine_of regs' h' i s)) l' part' m'))
      unfolding setup_of
      stopped refused h' =
          rw (← engine-alike h' s)
          (finished-alike P (setup_of regs codec i 0 0) refused h' (work_of (stopped_of (engine_of regs h' i s)) l part m) (work_of (stopped_of (engine_of regs h' i s)) l' part' m')
          (record { engine = record { engine = refl; frames = inl refl }; list = stopped-pending (engine_of regs h' i s) l l' listing; memory = a; part = same }))

      -- as many frames to move make the open stream's turn the same
      to-move : (g : Setup) (q : Queue) → g.cyclic.capture ≡ captures i → g.limit ≡ capacity → q.length ≡ (queue_at h i).length → (captures i ≡ false → q.live ≡ true) → (n n' : ℕ)
          → movable_by (captures i) (queue_at h i).length n ≡ movable_by (captures i) (queue_at h i).length n' → Frames g q n n'
      to-move g q eg el eq up n n' e = go (captures i) refl e
        where
          room : room_of g q ≡ (capacity - (queue_at h i).length) / 4
          room = ap (λ (k : ℕ). (k - q.length) / 4) el ∙ ap (λ (k : ℕ). (capacity - k) / 4) eq

          go : (c : Bool) → captures i ≡ c → movable_by c (queue_at h i).length n ≡ movable_by c (queue_at h i).length n' → Frames g q n n'
          go true ec k = inl k
          go false ec k =
              by-test (ltb n ((capacity - (queue_at h i).length) / 4))
              (λ t. let less = ltb-true n ((capacity - (queue_at h i).length) / 4) t in inl (omega arith))
              (λ t. let more = ltb-false n ((capacity - (queue_at h i).length) / 4) t in inr record { plays = eg ∙ ec; live = up ec; one = omega (arith, room); other = omega (arith, room) })

      opened-length : (queue_at o.host i).length ≡ (queue_at h i).length
      unfolding open_stream_of open_of
      opened-length =
          let Q : Opening → Type 0 = λ k. (queue_at k.host i).length ≡ (queue_at h i).length in
          by_cond Q (captures i && not microphone) (opening_of true h) (open_of h i) (λ _. refl)
          (λ _. by_cond Q (queue_at h i).live (opening_of true h) _ (λ _. refl)
          (λ off. let none = (queue-conditions (queue_at h i) valid).empty off in
          by_cond Q (fails_of h i) (opening_of false h) (opening_of true (with_queue h i (queue true 0))) (λ _. refl)
          (λ _. at_set (λ (q : Queue). q.length ≡ (queue_at h i).length) h.queues i (queue true 0) closed (sym none) (sym none))))

      served : (rate : ℕ) → o.ok ≡ true → Movable rate
          → TurnAlike P (finished false regs o.host i (served_of (setup_of regs codec i o.host.downstream capacity) rate nanos (work_of (engine_of regs o.host i s) l part m)))
          (finished false regs' o.host i (served_of (setup_of regs' codec i o.host.downstream capacity) rate nanos' (work_of (engine_of regs' o.host i s) l' part' m')))
      unfolding setup_of
      served rate ok movable =
          let g = setup_of regs codec i o.host.downstream capacity in
          let e = engine_of regs o.host i s in
          let frames = to-move g e.queue refl refl opened-length (λ plays. opened-live h microphone i plays (omega (arith, hosted, few)) ok) (Whole rate nanos) (Whole rate nanos') movable in
          rw (← engine-alike o.host s, ← setup-alike codec o.host.downstream capacity)
          (finished-alike P g false o.host _ _ (served-alike P g (omega arith) listed rate nanos nanos' e l l' part part' m m' frames listing a same))

      pub turn-alike : ((rate : ℕ) → format_of (word_at 2 (fmt i) regs) ≡ Some rate → Movable rate)
          → TurnAlike P (turn_of regs codec h microphone i nanos capacity s l part m) (turn_of regs' codec h microphone i nanos' capacity s l' part' m')
      unfolding turn_of
      turn-alike movable = rw (← format-alike) (go (format_of (word_at 2 (fmt i) regs)) movable)
        where
          opened : (rate : ℕ) (b : Bool) → o.ok ≡ b → Movable rate
              → TurnAlike P
              (cond b (finished false regs o.host i (served_of (setup_of regs codec i o.host.downstream capacity) rate nanos (work_of (engine_of regs o.host i s) l part m)))
              (finished true regs o.host i (work_of (stopped_of (engine_of regs o.host i s)) l part m)))
              (cond b (finished false regs' o.host i (served_of (setup_of regs' codec i o.host.downstream capacity) rate nanos' (work_of (engine_of regs' o.host i s) l' part' m')))
              (finished true regs' o.host i (work_of (stopped_of (engine_of regs' o.host i s)) l' part' m')))
          opened rate true ok k = served rate ok k
          opened rate false ok k = stopped true o.host

          go : (f : Option ℕ) → ((rate : ℕ) → f ≡ Some rate → Movable rate) → TurnAlike P (formatted_of regs codec h microphone i nanos capacity s l part m f) (formatted_of regs' codec h microphone i nanos' capacity s l' part' m' f)
          go None k = stopped false h
          go (Some rate) k = opened rate o.ok refl (k rate refl)
