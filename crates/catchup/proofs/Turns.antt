-- A playback's turn of 0 ns, whatever becomes of it: how many whole frames are left, and, where the stream still runs, that nothing was lost. Assumes nothing.
use Prim.Native.Nat.{ℕ, ◌+◌, ◌-◌, ◌*◌, ◌/◌, ◌%◌, ◌≤◌, ◌<◌}
use mathlib.Core.Path.{◌≡◌, refl, sym, ap, subst, ◌∙◌}
use mathlib.Core.Bool.{Bool, true, false, not, ◌&&◌, true≢false}
use mathlib.Core.List.{List}
use native.Mathlib.Omega.{arith}
use native.Mathlib.Nat.{le_trans}
use borrow.Author.Tests.{eqb-true}
use lib.Bits.{bit_and, and_mask, and_mod, and_le_r}
use lib.ListN.{length, set}
use lib.Seq.{get_or-set_same}
use Rattle.word.specs.Place.{word_at, store_at}
use Rattle.word.proofs.Choices.{left, by-test, by_cond}
use Rattle.word.proofs.Lists.{at_set}
use Rattle.clock.specs.Billionths.{billion}
use Rattle.clock.specs.Frames.{whole_frames_of}
use Rattle.std.specs.Prelude.{Option, None, Some}
use Rattle.format.specs.Format.{format_of}
use Rattle.codec.specs.declared.Codec.{Codec}
use Rattle.stream.specs.declared.Stream.{Stream}
use Rattle.stream.specs.Box.{captures}
use Rattle.queue.specs.declared.Queue.{Queue}
use Rattle.queue.specs.Queues.{capacity, queue, closed}
use Rattle.host.specs.declared.Host.{Host}
use Rattle.host.specs.Hosts.{Opening, opening_of, open_of, queue_at, with_queue}
use Rattle.registers.specs.Places.{ctl, sts, lpib, fmt, byte_at, keep_bits}
use Rattle.turn.specs.declared.Engine.{Engine}
use Rattle.turn.specs.Setups.{setup_of}
use Rattle.turn.specs.Engines.{work_of, stopped_of, due_of, served_of}
use Rattle.turn.specs.Turns.{open_stream_of, engine_of, store_engine, Turn, formatted_of, turn_of}
use Rattle.turn.proofs.Turns.{open-queue}
use Rattle.serve.specs.Serve.{runs}
use Rattle.book.proofs.Turns.{setup-capture, opened-same}
use Rattle.catchup.proofs.Rounds.{Open, Carries, stopped-late, served-late, served-keeps}

-- more room leaves no more
wider : (due limit q q' : ℕ) → q' ≤ q → due - (limit - q') / 4 ≤ due - (limit - q) / 4
wider due limit q q' h = omega arith

-- whole frames due
abbrev pub whole_of : Stream → ℕ
whole_of s = whole_frames_of s.fraction

setup-limit : (regs : List ℕ) (codec : Codec) (i downstream limit : ℕ) → (setup_of regs codec i downstream limit).limit ≡ limit
unfolding setup_of
setup-limit regs codec i downstream limit = refl

same-limit : (n due limit limit' q : ℕ) → limit ≡ limit' → n ≤ due - (limit - q) / 4 → n ≤ due - (limit' - q) / 4
same-limit n due limit limit' q e h = rw e at h

-- RUN is cleared where an engine stopped
off-bits : (b : ℕ) → bit_and (bit_and b 0xfd) 3 ≡ 2 → ⊥
off-bits b e =
    let low : bit_and (bit_and b 0xfd) 3 ≡ bit_and (b % 4) 1 = and_mask (bit_and b 0xfd) 2 ∙ and_mod b 0xfd 2 in
    omega (arith, and_le_r (b % 4) 1)

stored_on : (i : ℕ) (e : Engine) (regs : List ℕ) → runs (store_engine i e regs) i ≡ true → e.running ≡ true
unfolding store_engine
stored_on i e regs =
    let placed = store_at 4 (lpib i) e.position (set regs (sts i) e.status) in
    by-test e.running (λ on _. on) (λ off. rw off (λ z. absurd (cleared placed (eqb-true _ 2 (left _ _ z)))))
  where
    cleared : (l : List ℕ) → bit_and (byte_at (keep_bits (ctl i) 0xfd l) (ctl i)) 3 ≡ 2 → ⊥
    cleared l = at_set (λ (b : ℕ). bit_and b 3 ≡ 2 → ⊥) l (ctl i) (bit_and (byte_at l (ctl i)) 0xfd) 0 (off-bits (byte_at l (ctl i))) (λ z. omega (arith, and_le_r 0 3, z))

-- a playback that is open stays as it is
open_stays : (h : Host) (microphone : Bool) (i : ℕ) → captures i ≡ false → (queue_at h i).live ≡ true → (open_stream_of h microphone i).host ≡ h
unfolding open_stream_of open_of
open_stays h microphone i plays live =
    let P : Opening → Type 0 = λ o. o.host ≡ h in
    by_cond P (captures i && not microphone) (opening_of true h) (open_of h i) (λ _. refl)
    (λ _. by_cond P (queue_at h i).live (opening_of true h) _ (λ _. refl) (λ off. absurd (true≢false (sym live ∙ off))))

module _ (regs : List ℕ) (codec : Codec) (h : Host) (microphone : Bool) (i limit : ℕ) (s : Stream) (l part m : List ℕ) (plays : captures i ≡ false) where
  abbrev Late : Turn → Type 0
  Late t = whole_of t.turned.stream ≤ whole_of s - (limit - (queue_at h i).length) / 4

  formatted-late : (f : Option ℕ) → Late (formatted_of regs codec h microphone i 0 limit s l part m f)
  formatted-late None = rw (stopped-late (engine_of regs h i s)) (omega arith)
  formatted-late (Some rate) =
      let o = open_stream_of h microphone i in
      let g = setup_of regs codec i o.host.downstream limit in
      let e = engine_of regs o.host i s in
      let less = open-queue h microphone i (λ q. q.length ≤ (queue_at h i).length) (omega arith) (λ live. omega arith) in
      by_cond Late o.ok _ _
      (λ _. le_trans (same-limit (due_of (served_of g rate 0 (work_of e l part m)).engine) (whole_of s) g.limit limit (queue_at o.host i).length (setup-limit regs codec i o.host.downstream limit)
      (served-late g (setup-capture regs codec i o.host.downstream limit ∙ plays) rate (work_of e l part m) refl))
      (wider (whole_of s) limit (queue_at h i).length (queue_at o.host i).length less))
      (λ _. rw (stopped-late e) (omega arith))

  -- what is due after it is at most what was due before it less what the queue could still take
  pub turn-late : Late (turn_of regs codec h microphone i 0 limit s l part m)
  unfolding turn_of
  turn-late = formatted-late (format_of (word_at 2 (fmt i) regs))

  module _ (limited : limit ≤ capacity) (few : i < length h.queues) (time : s.fraction < 8193 * billion) where
    abbrev Kept : Turn → Type 0
    Kept t = runs t.regs i ≡ true → Carries s (queue_at h i) t.turned.stream (queue_at t.turned.host i)

    stopped-off : (e : Engine) → runs (store_engine i (stopped_of e) regs) i ≡ true → ⊥
    unfolding stopped_of
    stopped-off e z = true≢false (sym (stored_on i (stopped_of e) regs z))

    formatted-kept : (f : Option ℕ) → Kept (formatted_of regs codec h microphone i 0 limit s l part m f)
    formatted-kept None = λ z. absurd (stopped-off (engine_of regs h i s) z)
    formatted-kept (Some rate) =
        let o = open_stream_of h microphone i in
        let g = setup_of regs codec i o.host.downstream limit in
        let e = engine_of regs o.host i s in
        let x = (served_of g rate 0 (work_of e l part m)).engine in
        let there : queue_at (with_queue o.host i x.queue) i ≡ x.queue = get_or-set_same o.host.queues i x.queue closed (omega (arith, (opened-same h microphone i).0)) in
        by_cond Kept o.ok _ _
        (λ _ z.
        let k = (served-keeps g (setup-capture regs codec i o.host.downstream limit ∙ plays) (rw (setup-limit regs codec i o.host.downstream limit) limited) rate (work_of e l part m) time
        (stored_on i x regs z)).1 in
        record {
          total = k.total;
          held = λ up.
              let same : queue_at o.host i ≡ queue_at h i = ap (λ (k : Host). queue_at k i) (open_stays h microphone i plays up.0) in
              let r = k.held (subst Open (sym same) up) in
              (subst Open (sym there) r.0, ap (λ (q : Queue). q.length + 4 * whole_of x.stream) there ∙ r.1 ∙ ap (λ (q : Queue). q.length + 4 * whole_of s) same);
        })
        (λ _ z. absurd (stopped-off e z))

    -- and where the stream runs after it, nothing was lost
    pub turn-kept : Kept (turn_of regs codec h microphone i 0 limit s l part m)
    unfolding turn_of
    turn-kept = formatted-kept (format_of (word_at 2 (fmt i) regs))
