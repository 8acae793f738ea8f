-- One callback: a pull makes room for what it asked for, and the `advance` behind it fills that room with deferred frames. Stated of the machines that the two calls find, so that it serves lists on machines and on bytes.
-- Assumes nothing.
use Prim.Native.Nat.{ℕ, ◌+◌, ◌-◌, ◌*◌, ◌/◌, ◌≤◌, ◌<◌, min}
use mathlib.Core.Path.{◌≡◌, sym, ap, ◌∙◌}
use mathlib.Core.Bool.{true, false}
use mathlib.Core.List.{List}
use native.Mathlib.Omega.{arith}
use native.Mathlib.Nat.{le_trans}
use borrow.Author.Tests.{eqb-true, eqb-false, ltb-false}
use lib.Dec.{eqb}
use lib.ListN.{length}
use lib.Seq.{get_or-set_same}
use Rattle.word.proofs.Choices.{by_cond}
use Rattle.word.proofs.Lists.{at_set}
use Rattle.stream.specs.Box.{streams, captures}
use Rattle.queue.specs.declared.Queue.{Queue}
use Rattle.queue.specs.Queues.{capacity, queue, closed, take_of, take_into_of}
use Rattle.host.specs.declared.Host.{Host}
use Rattle.host.specs.Hosts.{queue_at}
use Rattle.driver.specs.Calls.{playback_stream, frame_check_of, Pull, pull_of}
use Rattle.driver.proofs.Checks.{frames-ready}
use Rattle.device.specs.Machines.{Machine}
use Rattle.advance.specs.Advance.{advance_of}
use Rattle.calls.specs.Calls as calls
use Rattle.calls.specs.Calls.{after}
use Rattle.catchup.specs.Callbacks.{deferred_of, submitted_of, Runs, Running, Sized}
use Rattle.catchup.specs.Corollaries.{taken_by, Full}
use Rattle.catchup.proofs.Rounds.{Open}
use Rattle.catchup.proofs.Advance.{advance-time, Caught, advance-caught}

-- the stream that a pull takes from is the only one that plays
one-plays : (i : ℕ) → i < streams → captures i ≡ false → i ≡ playback_stream
one-plays i own plays = omega (arith, ltb-false i (streams / 2) plays)

-- ---- the pull
module _ (h : Host) (space into : List ℕ) where
  abbrev left : Queue
  left = queue_at (pull_of h space into).fed.host playback_stream

  -- what it asked for is gone from the queue, or all that there was
  pull-takes : (pull_of h space into).fed.number ≡ 0 → left.length ≤ capacity - length into
  unfolding pull_of take_into_of take_of
  pull-takes =
      let number = frame_check_of h (length space) (length into) in
      let q = queue_at h playback_stream in
      by_cond (λ (p : Pull). p.fed.number ≡ 0 → (queue_at p.fed.host playback_stream).length ≤ capacity - length into) (eqb number 0) _ _
      (λ e _.
      let held = (frames-ready h space (length into) (eqb-true number 0 e) playback_stream (omega arith)).0 in
      at_set (λ (r : Queue). r.length ≤ capacity - length into) h.queues playback_stream _ closed (less q.length (length into) held) (omega arith))
      (λ e z. absurd (eqb-false number 0 e z))
    where
      less : (q n : ℕ) → q ≤ capacity → q - min n q ≤ capacity - n
      less q n h = omega arith

  -- just that, where a full queue has it
  pull-exact : length h.queues ≡ streams → queue_at h playback_stream ≡ queue true capacity → length into ≤ capacity → (pull_of h space into).fed.number ≡ 0 → left ≡ queue true (capacity - length into)
  unfolding pull_of take_into_of take_of
  pull-exact hosted full few =
      let number = frame_check_of h (length space) (length into) in
      let q = queue_at h playback_stream in
      let rest : q.length - min (length into) q.length ≡ capacity - length into = rw full (less (length into) few) in
      by_cond (λ (p : Pull). p.fed.number ≡ 0 → queue_at p.fed.host playback_stream ≡ queue true (capacity - length into)) (eqb number 0) _ _
      (λ _ _. get_or-set_same h.queues playback_stream _ closed (omega (arith, hosted)) ∙ rw (ap (λ (r : Queue). r.live) full, rest))
      (λ e z. absurd (eqb-false number 0 e z))
    where
      less : (n : ℕ) → n ≤ capacity → capacity - min n capacity ≡ capacity - n
      less n h = omega arith

-- ---- the pull, found on machine p, and the `advance` behind it, found on machine y
module _ (i : ℕ) (own : i < streams) (plays : captures i ≡ false) (p : Machine) (into : List ℕ) (taken : (pull_of p.host p.queues into).fed.number ≡ 0)
    (y : Machine) (untouched : queue_at y.host i ≡ queue_at (pull_of p.host p.queues into).fed.host i)
    (sized : Sized y.hda) (hosted : length y.host.queues ≡ streams) (running : Running i y.hda) (answered : (advance_of 0 y).answer.number ≡ 0) where
  same : i ≡ playback_stream
  same = one-plays i own plays

  -- the queue that the `advance` finds
  abbrev found : Queue
  found = queue_at y.host i

  found_left : found ≡ left p.host p.queues into
  found_left = untouched ∙ ap (queue_at (pull_of p.host p.queues into).fed.host) same

  caught : Caught i own plays y sized hosted (advance-time i own y answered) (advance_of 0 y)
  caught = advance-caught i own plays y sized hosted (advance-time i own y answered) running answered

  abbrev z : Machine
  z = after (calls.advance 0) y

  -- room for what the pull asked for, as far as the queue has any
  room_for : (frames q n : ℕ) → q ≤ capacity - n → 4 * frames ≤ n → taken_by frames ≤ (capacity - q) / 4
  room_for frames q n h k = omega arith

  more_room : (due least room : ℕ) → least ≤ room → due - room ≤ due - least
  more_room due least room h = omega arith

  pub callback-late : (frames : ℕ) → 4 * frames ≤ length into → deferred_of i z ≤ deferred_of i y - taken_by frames
  unfolding after
  callback-late frames enough =
      let few : found.length ≤ capacity - length into = rw found_left (pull-takes p.host p.queues into taken) in
      le_trans caught.late (more_room (deferred_of i y) (taken_by frames) ((capacity - found.length) / 4) (room_for frames found.length (length into) few enough))

  pub callback-moved : Runs i z.hda → submitted_of i z + 4 * deferred_of i z ≡ submitted_of i y + 4 * deferred_of i y
  unfolding after
  callback-moved on = (caught.kept on).total

  -- from a full queue: it takes just what the pull did, and the queue is full again as long as there were enough
  pub record Exact (frames : ℕ) : Type 0 where
    pub left : deferred_of i z ≡ deferred_of i y - frames
    pub full : frames ≤ deferred_of i y → Full i z

  pub callback-exact : (frames : ℕ) → frames ≤ capacity / 4 → length into ≡ 4 * frames → length p.host.queues ≡ streams → queue_at p.host i ≡ queue true capacity → Runs i z.hda → Exact frames
  unfolding after
  callback-exact frames few exactly count full on =
      let here : queue_at p.host playback_stream ≡ queue true capacity = ap (queue_at p.host) (sym same) ∙ full in
      let there : found ≡ queue true (capacity - length into) = found_left ∙ pull-exact p.host p.queues into count here (omega arith) taken in
      let there-length : found.length ≡ capacity - length into = ap (λ (q : Queue). q.length) there in
      let up : Open found = (ap (λ (q : Queue). q.live) there, omega (arith, there-length)) in
      let k = (caught.kept on).held up in
      let q = queue_at z.host i in
      let sums : q.length + 4 * deferred_of i z ≡ capacity - 4 * frames + 4 * deferred_of i y = k.1 ∙ ap (λ (n : ℕ). n + 4 * deferred_of i y) (there-length ∙ ap (λ (n : ℕ). capacity - n) exactly) in
      let least : deferred_of i z ≤ deferred_of i y - frames = le_trans caught.late (filled (deferred_of i y) frames found.length few (there-length ∙ ap (λ (n : ℕ). capacity - n) exactly)) in
      record {
        left = both (deferred_of i z) (deferred_of i y) frames q.length few k.0.1 sums least;
        full = λ enough. whole k.0.0 (again (deferred_of i z) (deferred_of i y) frames q.length few k.0.1 enough sums least);
      }
    where
      filled : (due frames q : ℕ) → frames ≤ capacity / 4 → q ≡ capacity - 4 * frames → due - (capacity - q) / 4 ≤ due - frames
      filled due frames q few e = omega arith

      both : (due' due frames q : ℕ) → frames ≤ capacity / 4 → q ≤ capacity → q + 4 * due' ≡ capacity - 4 * frames + 4 * due → due' ≤ due - frames → due' ≡ due - frames
      both due' due frames q few held e l = omega arith

      again : (due' due frames q : ℕ) → frames ≤ capacity / 4 → q ≤ capacity → frames ≤ due → q + 4 * due' ≡ capacity - 4 * frames + 4 * due → due' ≤ due - frames → q ≡ capacity
      again due' due frames q few held enough e l = omega arith

      whole : {q : Queue} → q.live ≡ true → q.length ≡ capacity → q ≡ queue true capacity
      whole live long = rw (live, long)
