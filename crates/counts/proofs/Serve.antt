-- Every stream's turn in order, for two times that make as many frames to move for each stream, over memories that agree on the descriptor lists. Assumes nothing.
use Prim.Native.Nat.{ℕ, zero, suc, ◌+◌, ◌*◌, ◌≤◌, ◌<◌}
use mathlib.Core.Path.{◌≡◌, refl, sym, ap, ◌∙◌}
use mathlib.Core.Bool.{Bool, true, false, cond, not, true≢false}
use mathlib.Core.List.{List, [], ◌∷◌}
use mathlib.Core.Logic.{inr, ◌≢◌}
use native.Mathlib.Omega.{arith}
use native.Mathlib.Nat.{suc_inj}
use borrow.Author.Tests.{ltb-true, ltb-false}
use lib.Dec.{ltb}
use lib.ListN.{length, get_or, set, length-set, get_or-eq_default}
use lib.Seq.{get_or-set_other}
use Rattle.word.specs.Place.{word_at}
use Rattle.word.specs.Parts.{part_of}
use Rattle.word.specs.Each.{further, each_of}
use Rattle.word.proofs.Choices.{by-test}
use Rattle.word.proofs.Lists.{length_part}
use Rattle.word.proofs.Parts.{part-other}
use Rattle.word.proofs.Place.{word_byte}
use Rattle.clock.specs.Frames.{accrue_of, whole_frames_of}
use Rattle.std.specs.Prelude.{Some}
use Rattle.format.specs.Format.{format_of}
use Rattle.plan.specs.Plans.{ready_of}
use Rattle.stream.specs.declared.Stream.{Stream}
use Rattle.stream.specs.Streams.{list_size, fresh_of}
use Rattle.stream.specs.Box.{streams, captures}
use Rattle.stream.proofs.Validity.{valid-parts}
use Rattle.queue.specs.declared.Queue.{Queue}
use Rattle.queue.specs.Queues.{capacity}
use Rattle.queue.proofs.Validity.{queue-bound}
use Rattle.host.specs.Hosts.{queue_at}
use Rattle.host.proofs.Checks.{valid-queue}
use Rattle.registers.specs.Places.{size, ssync, base_of, ctl, fmt}
use Rattle.turn.specs.declared.Engine.{Engine}
use Rattle.turn.specs.Setups.{cyclic_of}
use Rattle.turn.specs.Turns.{store_engine, Turn, turn_of}
use Rattle.turn.proofs.Validity.{turn-valid}
use Rattle.turn.proofs.Turns.{turn_by}
use Rattle.turn.proofs.Leaves.{turn-leaves}
use Rattle.device.specs.Devices.{stream_at}
use Rattle.device.specs.Machines.{Machine}
use Rattle.device.proofs.Checks.{device-parts}
use Rattle.serve.specs.Serve.{runs, Turns, taken_of, turn_at, goes_on, serve_of}
use Rattle.calls.proofs.Turns.{turn-file}
use Rattle.calls.proofs.Devices.{Stands, part-size}
use Rattle.calls.proofs.Advance.{turn-stands}
use Rattle.book.proofs.Shown.{stored-size, stored-elsewhere, turn-regs}
use Rattle.book.proofs.Serve.{anything}
use Rattle.book.proofs.Turns.{opened-same}
use Rattle.counts.specs.Counts.{movable_by, Agree, Pending}
use Rattle.counts.proofs.Agree.{agree-word}
use Rattle.counts.proofs.Pieces.{Listed}
use Rattle.counts.proofs.Turns.{Timeless, TurnAlike, turn-alike}

-- an engine put back leaves what stands behind its position
stored_past : (i : ℕ) (e : Engine) (regs : List ℕ) → i < streams → length regs ≡ size → (p : ℕ) → base_of i + 8 ≤ p → get_or (store_engine i e regs) p 0 ≡ get_or regs p 0
stored_past i e regs few sized p h =
    by-test (ltb p size)
    (λ t. let low = ltb-true p size t in
    sym (word_byte p (store_engine i e regs) (omega (arith, stored-size i e regs few sized))) ∙ stored-elsewhere i e regs few sized 1 p (inr h) ∙ word_byte p regs (omega (arith, sized)))
    (λ t. let past = ltb-false p size t in
    get_or-eq_default (store_engine i e regs) 0 {n = p} (omega (arith, stored-size i e regs few sized)) ∙ sym (get_or-eq_default regs 0 {n = p} (omega (arith, sized))))

-- a stream put back in two lists as long as each other
set-alike : (f : Stream → ℕ) (l l' : List Stream) (i j : ℕ) (v v' d : Stream) → length l ≡ length l' → f v ≡ f v' → f (get_or l j d) ≡ f (get_or l' j d)
    → f (get_or (set l i v) j d) ≡ f (get_or (set l' i v') j d)
set-alike f [] [] i j v v' d e new old = old
set-alike f [] (y ∷ ys) i j v v' d e new old = absurd (omega arith)
set-alike f (x ∷ xs) [] i j v v' d e new old = absurd (omega arith)
set-alike f (x ∷ xs) (y ∷ ys) zero zero v v' d e new old = new
set-alike f (x ∷ xs) (y ∷ ys) zero (suc j) v v' d e new old = old
set-alike f (x ∷ xs) (y ∷ ys) (suc i) zero v v' d e new old = old
set-alike f (x ∷ xs) (y ∷ ys) (suc i) (suc j) v v' d e new old = set-alike f xs ys i j v v' d (suc_inj e) new old

-- Machines that the turns from stream i on cannot tell apart; in `regs` stand the registers, in `ss` the streams and in `qs` the queues as before the first turn.
pub record MachineAlike (P : ℕ → Type 0) (regs : List ℕ) (ss : ℕ → Stream) (qs : ℕ → Queue) (i : ℕ) (x y : Machine) : Type 0 where
  pub codec : x.hda.link.codec ≡ y.hda.link.codec
  pub microphone : x.hda.microphone ≡ y.hda.microphone
  pub timeless : Agree Timeless x.hda.regs y.hda.regs
  pub ahead : Agree (λ (k : ℕ). base_of i ≤ k) regs x.hda.regs
  pub count : length x.hda.streams ≡ length y.hda.streams
  pub unserved : (j : ℕ) → i ≤ j → stream_at x.hda j ≡ ss j
  pub unserved' : (j : ℕ) → i ≤ j → stream_at y.hda j ≡ ss j
  pub submitted : (j : ℕ) → (stream_at x.hda j).submitted ≡ (stream_at y.hda j).submitted
  pub host : x.host ≡ y.host
  pub hosted : length x.host.queues ≡ streams
  pub unheard : (j : ℕ) → i ≤ j → queue_at x.host j ≡ qs j
  pub lists : (j : ℕ) → i ≤ j → j < streams → Pending (ss j).pending (part_of list_size j x.lists) (part_of list_size j y.lists)
  pub queues : (j : ℕ) → i ≤ j → j < streams → captures j ≡ true → part_of capacity j x.queues ≡ part_of capacity j y.queues
  pub memory : Agree P x.memory y.memory
  pub stands : Stands x
  pub stands' : Stands y

module _ (P : ℕ → Type 0) (regs : List ℕ) (ss : ℕ → Stream) (qs : ℕ → Queue) (nanos nanos' : ℕ)
    (windows : (j : ℕ) → j < streams → ready_of (cyclic_of regs j) ≡ true → Listed P (cyclic_of regs j))
    (movable : (j : ℕ) → j < streams → (rate : ℕ) → format_of (word_at 2 (fmt j) regs) ≡ Some rate
    → movable_by (captures j) (qs j).length (whole_frames_of (accrue_of rate nanos (ss j).fraction)) ≡ movable_by (captures j) (qs j).length (whole_frames_of (accrue_of rate nanos' (ss j).fraction))) where
  abbrev Alike : ℕ → Machine → Machine → Type 0
  Alike = MachineAlike P regs ss qs

  runs-alike : (i : ℕ) (x y : Machine) → Alike i x y → runs x.hda.regs i ≡ runs y.hda.regs i
  runs-alike i x y a =
      rw (a.timeless.same (ctl i) (inr (omega arith)), agree-word Timeless x.hda.regs y.hda.regs a.timeless 4 ssync (λ p lo hi. inr (omega arith)))

  abbrev turn_for : ℕ → ℕ → Machine → Turn
  turn_for t i x = turn_of x.hda.regs x.hda.link.codec x.host x.hda.microphone i t capacity (stream_at x.hda i) (part_of list_size i x.lists) (part_of capacity i x.queues) x.memory

  -- a stream's own turn
  own-alike : (i : ℕ) (x y : Machine) → i < streams → Alike i x y → TurnAlike P (turn_for nanos i x) (turn_for nanos' i y)
  own-alike i x y few a =
      let r = x.hda.regs in
      let cyclic : cyclic_of regs i ≡ cyclic_of r i = rw (at 8 0x18, at 2 0x0c, at 4 0x08) in
      rw (← a.codec, ← a.microphone, ← a.host, a.unserved' i (omega arith), a.unserved i (omega arith))
      (turn-alike r y.hda.regs a.timeless i few a.stands.holds.file.sized P x.hda.link.codec nanos nanos' (ss i) (part_of list_size i x.lists) (part_of list_size i y.lists)
      (part_of capacity i x.queues) (part_of capacity i y.queues) x.memory y.memory (a.lists i (omega arith) few) a.memory (rw cyclic at (windows i few)) (a.queues i (omega arith) few)
      x.host x.hda.microphone a.hosted (valid-queue x.host a.stands.holds.host i) (rw (a.unheard i (omega arith)) (rw (at 2 0x12) at (movable i few))))
    where
      at : (n k : ℕ) → word_at n (0x80 + 0x20 * i + k) regs ≡ word_at n (0x80 + 0x20 * i + k) x.hda.regs
      at n k = agree-word (λ (k : ℕ). base_of i ≤ k) regs x.hda.regs a.ahead n (0x80 + 0x20 * i + k) (λ p lo hi. omega arith)

  -- how many queues there are stays, and so do the other streams' queues
  turned-count : (t i : ℕ) (x : Machine) → length (turn_for t i x).turned.host.queues ≡ length x.host.queues
  turned-count t i x =
      let d = x.hda in
      turn_by (λ s q l. Unit {0}) anything (λ h. length h.queues ≡ length x.host.queues) (λ r. length r.turned.host.queues ≡ length x.host.queues) d.regs i
      (λ refused h y e _. length-set h.queues i y.engine.queue ∙ e)
      d.link.codec x.host d.microphone t capacity (stream_at d i) (part_of list_size i x.lists) (part_of capacity i x.queues) x.memory refl
      (opened-same x.host d.microphone i).0 tt

  turned-others : (t i : ℕ) (x : Machine) → i < streams → Stands x → (j : ℕ) → j ≢ i → queue_at (turn_for t i x).turned.host j ≡ queue_at x.host j
  turned-others t i x few s =
      let d = x.hda in
      let long = part-size x.lists s.lists i few in
      (turn-leaves d.regs d.link.codec x.host d.microphone i t capacity (stream_at d i) (part_of list_size i x.lists) (part_of capacity i x.queues) x.memory
      (record {
        stream = few;
        pending = (valid-parts (stream_at d i) (part_of list_size i x.lists) ((device-parts d x.lists s.holds.device).streams i few)).few;
        queued = queue-bound (queue_at x.host i) (valid-queue x.host s.holds.host i);
        limited = omega arith;
        long = omega arith;
        space = omega (arith, length_part capacity (capacity * i) x.queues (omega (arith, s.queues)));
      })).others

  -- the machine after it
  abbrev Step : ℕ → Turns → Turns → Type 0
  Step i w w' = (w.refused ≡ w'.refused) × Alike i w.machine w'.machine

  part-long : (t i : ℕ) (x : Machine) → i < streams → Stands x → length (turn_for t i x).part ≡ capacity
  part-long t i x few s =
      let d = x.hda in
      let l = part_of list_size i x.lists in
      let q = part_of capacity i x.queues in
      let long : length l ≡ list_size = part-size x.lists s.lists i few in
      let wide : length q ≡ capacity = length_part capacity (capacity * i) x.queues (omega (arith, s.queues)) in
      (turn-file d.regs d.link.codec x.host d.microphone i t capacity (stream_at d i) l q x.memory few s.holds.file (omega arith) (omega arith)
      ((device-parts d x.lists s.holds.device).streams i few) (valid-queue x.host s.holds.host i)).1 ∙ wide

  list-long : (t i : ℕ) (x : Machine) → i < streams → Stands x → length (turn_for t i x).list ≡ list_size
  list-long t i x few s =
      let d = x.hda in
      let l = part_of list_size i x.lists in
      let q = part_of capacity i x.queues in
      let long : length l ≡ list_size = part-size x.lists s.lists i few in
      (turn-valid d.regs d.link.codec x.host d.microphone i t capacity (stream_at d i) l q x.memory (omega arith)
      ((device-parts d x.lists s.holds.device).streams i few) (valid-queue x.host s.holds.host i)).sized ∙ long

  taken-alike : (i : ℕ) (x y : Machine) → i < streams → Alike i x y → Stands (taken_of i x (turn_for nanos i x)).machine → Stands (taken_of i y (turn_for nanos' i y)).machine
      → Step (i + 1) (taken_of i x (turn_for nanos i x)) (taken_of i y (turn_for nanos' i y))
  taken-alike i x y few a st st' =
      let t = turn_for nanos i x in
      let t' = turn_for nanos' i y in
      let k = own-alike i x y few a in (
        k.refused,
        record {
          codec = a.codec;
          microphone = a.microphone;
          timeless = k.regs;
          ahead = past;
          count = length-set x.hda.streams i t.turned.stream ∙ a.count ∙ sym (length-set y.hda.streams i t'.turned.stream);
          unserved = λ j h. get_or-set_other x.hda.streams i j t.turned.stream fresh_of (λ z. omega arith) ∙ a.unserved j (omega arith);
          unserved' = λ j h. get_or-set_other y.hda.streams i j t'.turned.stream fresh_of (λ z. omega arith) ∙ a.unserved' j (omega arith);
          submitted = λ j. set-alike (λ (s : Stream). s.submitted) x.hda.streams y.hda.streams i j t.turned.stream t'.turned.stream fresh_of a.count (ap (λ (s : Stream). s.submitted) k.stream) (a.submitted j);
          host = k.host;
          hosted = turned-count nanos i x ∙ a.hosted;
          unheard = λ j h. turned-others nanos i x few a.stands j (λ z. omega arith) ∙ a.unheard j (omega arith);
          lists = λ j h small.
              rw (
                part-other list_size i x.lists t.list (list-long nanos i x few a.stands) (omega (arith, a.stands.lists)) j (inr (omega arith)),
                part-other list_size i y.lists t'.list (list-long nanos' i y few a.stands') (omega (arith, a.stands'.lists)) j (inr (omega arith)),
              ) (a.lists j (omega arith) small);
          queues = λ j h small c.
              part-other capacity i x.queues t.part (part-long nanos i x few a.stands) (omega (arith, a.stands.queues)) j (inr (omega arith))
              ∙ a.queues j (omega arith) small c
              ∙ sym (part-other capacity i y.queues t'.part (part-long nanos' i y few a.stands') (omega (arith, a.stands'.queues)) j (inr (omega arith)));
          memory = k.memory;
          stands = st;
          stands' = st';
        },
      )
    where
      past : Agree (λ (k : ℕ). base_of (i + 1) ≤ k) regs (turn_for nanos i x).regs
      past =
          let sized = a.stands.holds.file.sized in
          turn-regs x.hda.regs x.hda.link.codec x.host x.hda.microphone i nanos capacity (stream_at x.hda i) (part_of list_size i x.lists) (part_of capacity i x.queues) x.memory
          (λ (r : List ℕ). Agree (λ (k : ℕ). base_of (i + 1) ≤ k) regs r)
          (λ e. record {
            long = a.ahead.long ∙ sized ∙ sym (stored-size i e x.hda.regs few sized);
            same = λ p h. a.ahead.same p (omega arith) ∙ sym (stored_past i e x.hda.regs few sized p (omega arith));
          })

  turn_step : (i : ℕ) (w w' : Turns) → i < streams → Step i w w' → Step (i + 1) (turn_at nanos i w) (turn_at nanos' i w')
  unfolding turn_at
  turn_step i w w' few (er, a) = go (turn-stands nanos i w few a.stands) (turn-stands nanos' i w' few a.stands')
    where
      x : Machine
      x = w.machine

      y : Machine
      y = w'.machine

      later : Alike i x y → Alike (i + 1) x y
      later k = record {
        codec = k.codec;
        microphone = k.microphone;
        timeless = k.timeless;
        ahead = record { long = k.ahead.long; same = λ p h. k.ahead.same p (omega arith) };
        count = k.count;
        unserved = λ j h. k.unserved j (omega arith);
        unserved' = λ j h. k.unserved' j (omega arith);
        submitted = k.submitted;
        host = k.host;
        hosted = k.hosted;
        unheard = λ j h. k.unheard j (omega arith);
        lists = λ j h. k.lists j (omega arith);
        queues = λ j h. k.queues j (omega arith);
        memory = k.memory;
        stands = k.stands;
        stands' = k.stands';
      }

      pick : (b : Bool) → Stands (cond b (taken_of i x (turn_for nanos i x)) w).machine → Stands (cond b (taken_of i y (turn_for nanos' i y)) w').machine
          → Step (i + 1) (cond b (taken_of i x (turn_for nanos i x)) w) (cond b (taken_of i y (turn_for nanos' i y)) w')
      pick true st st' = taken-alike i x y few a st st'
      pick false st st' = (er, later a)

      go : Stands (turn_at nanos i w).machine → Stands (turn_at nanos' i w').machine → Step (i + 1) (turn_at nanos i w) (turn_at nanos' i w')
      go st st' = rw (← runs-alike i x y a) (pick (runs x.hda.regs i) st (rw (← runs-alike i x y a) at st'))

  -- the counts after all turns
  abbrev Counts : Turns → Turns → Type 0
  Counts w w' = (j : ℕ) → (stream_at w.machine.hda j).submitted ≡ (stream_at w'.machine.hda j).submitted

  on_alike : (n i : ℕ) (w w' : Turns) (b b' : Bool) → b ≡ b' → Counts w w' → Counts (each_of goes_on (turn_at nanos) n (i + 1) w) (each_of goes_on (turn_at nanos') n (i + 1) w')
      → Counts (further b w (each_of goes_on (turn_at nanos) n (i + 1))) (further b' w' (each_of goes_on (turn_at nanos') n (i + 1)))
  on_alike n i w w' true true e k r = r
  on_alike n i w w' false false e k r = k
  on_alike n i w w' true false e k r = absurd (true≢false e)
  on_alike n i w w' false true e k r = absurd (true≢false (sym e))

  each-alike : (n i : ℕ) (w w' : Turns) → i + n ≡ streams → Step i w w' → Counts (each_of goes_on (turn_at nanos) n i w) (each_of goes_on (turn_at nanos') n i w')
  unfolding each_of
  each-alike zero i w w' e (er, a) = a.submitted
  each-alike (suc n) i w w' e k =
      let s = turn_step i w w' (omega arith) k in
      on_alike n i (turn_at nanos i w) (turn_at nanos' i w') (goes_on (turn_at nanos i w)) (goes_on (turn_at nanos' i w')) (ap not s.0) s.1.submitted
      (each-alike n (i + 1) (turn_at nanos i w) (turn_at nanos' i w') (omega arith) s)

  pub serve-alike : (x y : Machine) → Alike 0 x y → (j : ℕ) → (stream_at (serve_of nanos x).machine.hda j).submitted ≡ (stream_at (serve_of nanos' y).machine.hda j).submitted
  unfolding serve_of
  serve-alike x y a = each-alike streams 0 _ _ (omega arith) (refl, a)
