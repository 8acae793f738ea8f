-- The streams' turns of 0 ns: the other streams' leave a playback's record, queue and registers; its own takes what its queue can. Assumes nothing.
use Prim.Native.Nat.{ℕ, suc, ◌+◌, ◌-◌, ◌*◌, ◌/◌, ◌≤◌, ◌<◌}
use mathlib.Core.Path.{◌≡◌, refl, sym, ap, subst, ◌∙◌}
use mathlib.Core.Bool.{Bool, true, false, not, ◌&&◌, true≢false}
use mathlib.Core.List.{List}
use mathlib.Core.Logic.{◌⊎◌, inl, inr, ⊎_elim, ◌≢◌}
use native.Mathlib.Omega.{arith}
use lib.ListN.{length, get_or, set, length-set}
use lib.Seq.{get_or-set_same, get_or-set_other}
use Rattle.word.specs.Parts.{part_of}
use Rattle.word.specs.Each.{each_of, further}
use Rattle.word.proofs.Choices.{by_cond}
use Rattle.word.proofs.Place.{word_byte}
use Rattle.clock.specs.Billionths.{billion}
use Rattle.stream.specs.declared.Stream.{Stream}
use Rattle.stream.specs.Box.{streams, captures}
use Rattle.stream.specs.Streams.{list_size, fresh_of}
use Rattle.queue.specs.declared.Queue.{Queue}
use Rattle.queue.specs.Queues.{capacity, queue, closed}
use Rattle.host.specs.declared.Host.{Host}
use Rattle.host.specs.Hosts.{Opening, open_of, opening_of, fails_of, queue_at, with_queue}
use Rattle.registers.specs.Places.{size, base_of, ssync, ctl, byte_at}
use Rattle.turn.specs.declared.Engine.{Engine}
use Rattle.turn.specs.Turns.{open_stream_of, store_engine, Turn, turn_of}
use Rattle.turn.proofs.Turns.{turn_by}
use Rattle.device.specs.Devices.{stream_at}
use Rattle.device.specs.Machines.{Machine}
use Rattle.serve.specs.Serve.{Turns, turns_of, runs, taken_of, turn_at, goes_on, serve_of}
use Rattle.book.proofs.Loops.{each-split, each-range, each_turn}
use Rattle.book.proofs.Shown.{stored-size, stored-elsewhere, turn-regs}
use Rattle.book.proofs.Serve.{anything}
use Rattle.book.proofs.Turns.{opened-same}
use Rattle.catchup.proofs.Rounds.{Carries}
use Rattle.catchup.proofs.Turns.{whole_of, turn-late, turn-kept}

-- an engine put back into the registers leaves bytes that are none of its stream's first eight, and so whether other streams run
module _ (j : ℕ) (e : Engine) (regs : List ℕ) (few : j < streams) (sized : length regs ≡ size) where
  pub stored-byte : (at : ℕ) → at < size → (at < base_of j) ⊎ (base_of j + 8 ≤ at) → byte_at (store_engine j e regs) at ≡ byte_at regs at
  stored-byte at small h =
      let away : (at + 1 ≤ base_of j) ⊎ (base_of j + 8 ≤ at) = ⊎_elim (λ (b : at < base_of j). inl (omega arith)) (λ (b : base_of j + 8 ≤ at). inr b) h in
      sym (word_byte at (store_engine j e regs) (omega (arith, stored-size j e regs few sized))) ∙ stored-elsewhere j e regs few sized 1 at away ∙ word_byte at regs (omega (arith, sized))

  stored-runs : (i : ℕ) → i < streams → (i < j) ⊎ (j < i) → runs (store_engine j e regs) i ≡ runs regs i
  stored-runs i own apart =
      let away : (ctl i < base_of j) ⊎ (base_of j + 8 ≤ ctl i) = ⊎_elim (λ (b : i < j). inl (omega arith)) (λ (b : j < i). inr (omega arith)) apart in
      rw (stored-byte (ctl i) (omega arith) away, stored-elsewhere j e regs few sized 4 ssync (inl (omega arith)))

-- stream j's turn of 0 ns
abbrev pub turn_for : ℕ → Machine → Turn
turn_for j x =
    let d = x.hda in
    turn_of d.regs d.link.codec x.host d.microphone j 0 capacity (stream_at d j) (part_of list_size j x.lists) (part_of capacity j x.queues) x.memory

-- what holds with any engine put back holds after a turn
pub turned-regs : (j : ℕ) (x : Machine) (P : List ℕ → Type 0) → ((e : Engine) → P (store_engine j e x.hda.regs)) → P (turn_for j x).regs
turned-regs j x P stores =
    let d = x.hda in
    turn-regs d.regs d.link.codec x.host d.microphone j 0 capacity (stream_at d j) (part_of list_size j x.lists) (part_of capacity j x.queues) x.memory P stores

-- and of the host end what an opening and another queue of that stream leave
turned-host : (j : ℕ) (x : Machine) (P : Host → Type 0) → P x.host → P (open_stream_of x.host x.hda.microphone j).host → ((h : Host) (q : Queue) → P h → P (with_queue h j q)) → P (turn_for j x).turned.host
turned-host j x P unopened opened sets =
    let d = x.hda in
    turn_by (λ s q l. Unit {0}) anything P (λ t. P t.turned.host) d.regs j (λ refused h y p _. sets h y.engine.queue p)
    d.link.codec x.host d.microphone 0 capacity (stream_at d j) (part_of list_size j x.lists) (part_of capacity j x.queues) x.memory unopened opened tt

-- how many queues there are stays
turned-count : (j : ℕ) (x : Machine) → length (turn_for j x).turned.host.queues ≡ length x.host.queues
turned-count j x =
    turned-host j x (λ h. length h.queues ≡ length x.host.queues) refl (opened-same x.host x.hda.microphone j).0 (λ h q e. length-set h.queues j q ∙ e)

-- ---- another stream's turn leaves stream i's record and queue
module _ (i j : ℕ) (own : i < streams) (few : j < streams) (apart : (i < j) ⊎ (j < i)) where
  other : i ≢ j
  other = ⊎_elim (λ (b : i < j) e. omega arith) (λ (b : j < i) e. omega arith) apart

  other-set : (h : Host) (q : Queue) → queue_at (with_queue h j q) i ≡ queue_at h i
  other-set h q = get_or-set_other h.queues j i q closed other

  other-open : (h : Host) (microphone : Bool) → queue_at (open_stream_of h microphone j).host i ≡ queue_at h i
  unfolding open_stream_of open_of
  other-open h microphone =
      let P : Opening → Type 0 = λ o. queue_at o.host i ≡ queue_at h i in
      by_cond P (captures j && not microphone) (opening_of true h) (open_of h j) (λ _. refl)
      (λ _. by_cond P (queue_at h j).live (opening_of true h) _ (λ _. refl)
      (λ _. by_cond P (fails_of h j) (opening_of false h) (opening_of true (with_queue h j (queue true 0))) (λ _. refl) (λ _. other-set h (queue true 0))))

  other-stream : (x : Machine) (t : Stream) → get_or (set x.hda.streams j t) i fresh_of ≡ stream_at x.hda i
  other-stream x t = get_or-set_other x.hda.streams j i t fresh_of other

  other-queue : (x : Machine) → queue_at (turn_for j x).turned.host i ≡ queue_at x.host i
  other-queue x = turned-host j x (λ h. queue_at h i ≡ queue_at x.host i) refl (other-open x.host x.hda.microphone) (λ h q e. other-set h q ∙ e)

  other-sized : (x : Machine) → length x.hda.regs ≡ size → length (turn_for j x).regs ≡ size
  other-sized x sized = turned-regs j x (λ l. length l ≡ size) (λ e. stored-size j e x.hda.regs few sized)

  other-runs : (x : Machine) → length x.hda.regs ≡ size → runs (turn_for j x).regs i ≡ runs x.hda.regs i
  other-runs x sized = turned-regs j x (λ l. runs l i ≡ runs x.hda.regs i) (λ e. stored-runs j e x.hda.regs few sized i own apart)

-- ---- every stream's turn
as-found : (n limit : ℕ) (s s' : Stream) (q q' : Queue) → s ≡ s' → q ≡ q' → n ≤ whole_of s - (limit - q.length) / 4 → n ≤ whole_of s' - (limit - q'.length) / 4
as-found n limit s s' q q' es eq h = rw (es, eq) at h

carried : (s₀ s₁ : Stream) (q₀ q₁ : Queue) (s s' : Stream) (q q' : Queue) → s₀ ≡ s₁ → q₀ ≡ q₁ → s ≡ s' → q ≡ q' → Carries s₀ q₀ s q → Carries s₁ q₁ s' q'
carried s₀ s₁ q₀ q₁ s s' q q' es₀ eq₀ es eq c = rw (es₀, eq₀, es, eq) at c

module _ (i : ℕ) (own : i < streams) (plays : captures i ≡ false) (s : Stream) (q : Queue) (time : s.fraction < 8193 * billion) where
  -- a machine that waits for the stream's turn
  pub record Waits (x : Machine) : Type 0 where
    pub sized : length x.hda.regs ≡ size
    pub count : length x.hda.streams ≡ streams
    pub hosted : length x.host.queues ≡ streams
    pub runs : runs x.hda.regs i ≡ true
    pub stream : stream_at x.hda i ≡ s
    pub queue : queue_at x.host i ≡ q

  -- and one that has seen it
  pub record Served (x : Machine) : Type 0 where
    pub sized : length x.hda.regs ≡ size
    pub late : whole_of (stream_at x.hda i) ≤ whole_of s - (capacity - q.length) / 4
    pub kept : runs x.hda.regs i ≡ true → Carries s q (stream_at x.hda i) (queue_at x.host i)

  module _ (j : ℕ) (w : Turns) (few : j < streams) (apart : (i < j) ⊎ (j < i)) where
    other-waits : Waits w.machine → Waits (turn_at 0 j w).machine
    unfolding turn_at
    other-waits t =
        let x = w.machine in
        by_cond (λ (v : Turns). Waits v.machine) (runs x.hda.regs j) (taken_of j x (turn_for j x)) w
        (λ _. record {
          sized = other-sized i j own few apart x t.sized;
          count = length-set x.hda.streams j _ ∙ t.count;
          hosted = turned-count j x ∙ t.hosted;
          runs = other-runs i j own few apart x t.sized ∙ t.runs;
          stream = other-stream i j own few apart x (turn_for j x).turned.stream ∙ t.stream;
          queue = other-queue i j own few apart x ∙ t.queue;
        })
        (λ _. t)

    other-served : Served w.machine → Served (turn_at 0 j w).machine
    unfolding turn_at
    other-served t =
        let x = w.machine in
        let same = other-stream i j own few apart x (turn_for j x).turned.stream in
        by_cond (λ (v : Turns). Served v.machine) (runs x.hda.regs j) (taken_of j x (turn_for j x)) w
        (λ _. record {
          sized = other-sized i j own few apart x t.sized;
          late = rw same t.late;
          kept = λ z. carried s s q q (stream_at x.hda i) _ (queue_at x.host i) _ refl refl (sym same) (sym (other-queue i j own few apart x))
              (t.kept (sym (other-runs i j own few apart x t.sized) ∙ z));
        })
        (λ _. t)

  own-served : (w : Turns) → Waits w.machine → Served (turn_at 0 i w).machine
  unfolding turn_at
  own-served w t =
      let x = w.machine in
      let d = x.hda in
      let r = (turn_for i x).turned in
      let l = part_of list_size i x.lists in
      let p = part_of capacity i x.queues in
      let there : get_or (set d.streams i r.stream) i fresh_of ≡ r.stream = get_or-set_same d.streams i r.stream fresh_of (omega (arith, t.count)) in
      let late = turn-late d.regs d.link.codec x.host d.microphone i capacity (stream_at d i) l p x.memory plays in
      let kept = turn-kept d.regs d.link.codec x.host d.microphone i capacity (stream_at d i) l p x.memory plays (omega arith) (omega (arith, t.hosted))
      (subst (λ (y : Stream). y.fraction < 8193 * billion) (sym t.stream) time) in
      rw t.runs
      (record {
        sized = turned-regs i x (λ k. length k ≡ size) (λ e. stored-size i e d.regs own t.sized);
        late = rw there (as-found (whole_of r.stream) capacity (stream_at d i) s (queue_at x.host i) q t.stream t.queue late);
        kept = λ z. carried (stream_at d i) s (queue_at x.host i) q r.stream _ (queue_at r.host i) _ t.stream t.queue (sym there) refl (kept z);
      })

  from-own : (b : Bool) (w : Turns) (k : ℕ) → i + suc k ≡ streams → goes_on w ≡ b → Waits w.machine
      → let v = further b w (each_of goes_on (turn_at 0) (suc k) i) in v.refused ≡ false → Served v.machine
  from-own true w k e on t _ =
      each_turn goes_on (turn_at 0) (λ v. Served v.machine) k i w (own-served w t)
      (λ p. each-range goes_on (turn_at 0) (λ v. Served v.machine) (i + 1) streams (λ j y from less. other-served j y less (inl (omega arith))) k (i + 1) (turn_at 0 i w)
      (omega arith) (omega arith) p)
  from-own false w k e on t kept = absurd (true≢false (sym (ap not kept) ∙ on))

  -- all turns, where no opening is refused
  pub serve-served : (x : Machine) → Waits x → (serve_of 0 x).refused ≡ false → Served (serve_of 0 x).machine
  unfolding serve_of
  serve-served x t =
      let w = each_of goes_on (turn_at 0) i 0 (turns_of false x) in
      let k = streams - (i + 1) in
      let count : i + suc k ≡ streams = omega arith in
      let before : Waits w.machine = each-range goes_on (turn_at 0) (λ v. Waits v.machine) 0 i
      (λ j y from less. other-waits j y (omega arith) (inr less)) i 0 (turns_of false x) (omega arith) (omega arith) t in
      rw (each-split goes_on (turn_at 0) i (suc k) streams 0 i (turns_of false x) count (omega arith) refl)
      (from-own (goes_on w) w k count refl before)
