-- Lists of callbacks. Assumes nothing.
use Prim.Native.Nat.{ℕ, suc, ◌+◌, ◌-◌, ◌*◌, ◌/◌, ◌≤◌, ◌<◌}
use mathlib.Core.Path.{◌≡◌, refl, sym, ◌∙◌}
use mathlib.Core.Bool.{false}
use mathlib.Core.List.{List, [], ◌∷◌}
use native.Mathlib.Omega.{arith}
use native.Mathlib.Nat.{le_trans, mul-suc, suc-mul, mul_comm, div-lt_iff_lt-mul, div-mul-le_self}
use borrow.Author.Tests.{leb-true, leb-false}
use lib.Dec.{leb}
use lib.ListN.{length}
use Rattle.word.proofs.Choices.{by-test}
use Rattle.clock.specs.Billionths.{billion}
use Rattle.stream.specs.Box.{streams, captures}
use Rattle.queue.specs.Queues.{capacity}
use Rattle.registers.specs.Places.{dma_of}
use Rattle.device.specs.Devices.{stream_at}
use Rattle.device.specs.Machines.{Machine}
use Rattle.calls.specs.Calls.{after}
use Rattle.book.specs.Lists.{Step, handed, run}
use Rattle.catchup.specs.Callbacks.{Callback, callback_steps, steps_of, before_pull, before_advance, left_by, deferred_of, submitted_of, Runs, Running, Serves, Throughout, GoesOn, AllGoOn, Sized}
use Rattle.catchup.specs.Claim.{least_pull, most_callbacks}
use Rattle.catchup.specs.Between.{Moment, callback, between, steps_among, callbacks_in, Among}
use Rattle.catchup.specs.Corollaries.{taken_by, callbacks_for, Exactly, Full}
use Rattle.catchup.proofs.Advance.{Stays, advance-stays, advance-time}
use Rattle.catchup.proofs.Callbacks.{callback-late, callback-moved, callback-exact}
use Rattle.catchup.proofs.Quiet.{quiet}

-- ---- one callback of a list
module _ (c : Callback) (x : Machine) where
  -- a pull leaves the device
  found-sized : Sized x.hda → Sized (before_advance c x).hda
  unfolding after
  found-sized sized = record { registers = sized.registers; count = sized.count }

  left-stays : Sized x.hda → Stays x.hda (left_by c x).hda
  unfolding after
  left-stays sized = advance-stays (before_advance c x) sized

-- ---- numbers
-- m fewer, and then m for each of n
pub fewer : (m due due' n : ℕ) → due' ≤ due - m → due' - m * n ≤ due - m * suc n
fewer m due due' n h = rw (mul-suc m n) (go (m * n))
  where
    go : (k : ℕ) → due' - k ≤ due - (k + m)
    go k = omega arith

pub less : (due due' k : ℕ) → due' ≤ due → due' - k ≤ due - k
less due due' k h = omega arith

-- of the most that are deferred none is left
pub none-of-most : (due left n : ℕ) → due ≤ 8192 → most_callbacks ≤ n → left ≤ due - least_pull * n → left ≡ 0
none-of-most due left n h k l = omega arith

-- n times the divisor are enough where n is no less than it
rounded-up : (m due n : ℕ) → 0 < m → (due + (m - 1)) / m ≤ n → due ≤ m * n
rounded-up m due n some h =
    let below : due + (m - 1) < suc n * m = (div-lt_iff_lt-mul {k = m} {x = due + (m - 1)} {y = suc n} some).0 (omega arith) in
    go (n * m) (rw (suc-mul n m) at below) (mul_comm n m)
  where
    go : (k : ℕ) → due + (m - 1) < k + m → k ≡ m * n → due ≤ m * n
    go k b e = omega arith

pub none_left : (frames : ℕ) → 0 < frames → (due left n : ℕ) → callbacks_for frames due ≤ n → left ≤ due - taken_by frames * n → left ≡ 0
none_left frames some due left n h l = none (taken_by frames * n) (rounded-up (taken_by frames) due n (omega arith) h) l
  where
    none : (k : ℕ) → due ≤ k → left ≤ due - k → left ≡ 0
    none k all l = omega arith

pub sounds : (frames deferred : ℕ) → 0 < frames → frames ≤ capacity / 4 → (deferred ≤ frames * callbacks_for frames deferred) × (frames * callbacks_for frames deferred < deferred + frames)
sounds frames deferred some few =
    let all : taken_by frames ≡ frames = omega arith in
    let q = (deferred + (frames - 1)) / frames in
    rw all (rounded-up frames deferred q some (omega arith), go (frames * q) (mul_comm q frames) (div-mul-le_self (deferred + (frames - 1)) frames))
  where
    go : {n : ℕ} (k : ℕ) → n ≡ k → n ≤ deferred + (frames - 1) → k < deferred + frames
    go k e h = omega arith

module _ (i : ℕ) (own : i < streams) (plays : captures i ≡ false) where
  module _ (frames : ℕ) (c : Callback) (x : Machine) (sized : Sized x.hda) (s : Serves i frames c x) where
    pub late : deferred_of i (left_by c x) ≤ deferred_of i x - taken_by frames
    unfolding after
    late =
        callback-late i own plays (before_pull c x) c.into s.asks.taken (before_advance c x) s.asks.untouched (found-sized c x sized) c.advancing.sized s.running s.answered frames s.asks.enough

    moved-one : Runs i (left_by c x).hda → submitted_of i (left_by c x) + 4 * deferred_of i (left_by c x) ≡ submitted_of i x + 4 * deferred_of i x
    unfolding after
    moved-one =
        callback-moved i own plays (before_pull c x) c.into s.asks.taken (before_advance c x) s.asks.untouched (found-sized c x sized) c.advancing.sized s.running s.answered

    exact_one : frames ≤ capacity / 4 → length c.into ≡ 4 * frames → Full i (before_pull c x) → Runs i (left_by c x).hda → (deferred_of i (left_by c x) ≡ deferred_of i x - frames) × (frames ≤ deferred_of i x → Full i (left_by c x))
    unfolding after
    exact_one few exactly full on =
        let e = callback-exact i own plays (before_pull c x) c.into s.asks.taken (before_advance c x) s.asks.untouched (found-sized c x sized) c.advancing.sized s.running s.answered
        frames few exactly c.pulling.sized full on in
        (e.left, e.full)

  -- ---- each takes as many, so that enough take all
  pub all-late : (frames : ℕ) (cs : List Callback) (x : Machine) → Sized x.hda → Throughout i frames cs x → deferred_of i (run (steps_of cs) x) ≤ deferred_of i x - taken_by frames * length cs
  unfolding run
  all-late frames [] x sized t = omega arith
  all-late frames (c ∷ cs) x sized t =
      le_trans (all-late frames cs (left_by c x) (left-stays c x sized).sized t.1)
      (fewer (taken_by frames) (deferred_of i x) (deferred_of i (left_by c x)) (length cs) (late frames c x sized t.0))

  pub each : (cs : List Callback) (x : Machine) → Sized x.hda → Throughout i least_pull cs x → deferred_of i (run (steps_of cs) x) ≤ deferred_of i x - least_pull * length cs
  each = all-late least_pull

  -- a machine that an accepted call finds has at most 8,192 whole frames deferred
  pub most : (frames : ℕ) (c : Callback) (x : Machine) → Serves i frames c x → deferred_of i x ≤ 8192
  unfolding after
  most frames c x s = few (stream_at x.hda i).fraction (advance-time i own (before_advance c x) s.answered)
    where
      few : (f : ℕ) → f < 8193 * billion → f / billion ≤ 8192
      few f h = omega arith

  pub over : (cs : List Callback) (x : Machine) → Sized x.hda → Throughout i least_pull cs x → most_callbacks ≤ length cs → deferred_of i (run (steps_of cs) x) ≡ 0
  over [] x sized t enough = absurd (omega arith)
  over (c ∷ cs) x sized t enough = none-of-most (deferred_of i x) (deferred_of i (run (steps_of (c ∷ cs)) x)) (length (c ∷ cs)) (most least_pull c x t.0) enough (each (c ∷ cs) x sized t)

  -- ---- none is dropped
  -- a stream that runs at the end ran after each callback
  ran : (frames : ℕ) (cs : List Callback) (x : Machine) → Throughout i frames cs x → Runs i (run (steps_of cs) x).hda → Runs i x.hda
  unfolding run after
  ran frames [] x t on = on
  ran frames (c ∷ cs) x t on = t.0.running.runs

  pub moved : (frames : ℕ) (cs : List Callback) (x : Machine) → Sized x.hda → Throughout i frames cs x
      → let y = run (steps_of cs) x in
      Runs i y.hda → submitted_of i y + 4 * deferred_of i y ≡ submitted_of i x + 4 * deferred_of i x
  unfolding run
  moved frames [] x sized t on = refl
  moved frames (c ∷ cs) x sized t on =
      moved frames cs (left_by c x) (left-stays c x sized).sized t.1 on ∙ moved-one frames c x sized t.0 (ran frames cs (left_by c x) t.1 on)

  -- ---- what holds at the start lasts
  pub running-on : (c : Callback) (x : Machine) → Sized x.hda → Running i x.hda → Runs i (left_by c x).hda → Running i (left_by c x).hda
  unfolding dma_of
  running-on c x sized r on =
      let k = left-stays c x sized in
      record { awake = rw (k.paused, k.reset) r.awake; dma = rw (k.master, k.reset) r.dma; runs = on }

  serves : (frames : ℕ) (c : Callback) (x : Machine) → Running i x.hda → GoesOn i frames c x → Serves i frames c x
  unfolding after
  serves frames c x r g = record { asks = g.asks; running = r; answered = g.answered }

  pub lasts : (frames : ℕ) (cs : List Callback) (x : Machine) → Sized x.hda → Running i x.hda → AllGoOn i frames cs x → Throughout i frames cs x
  lasts frames [] x sized r g = tt
  lasts frames (c ∷ cs) x sized r g = (
    serves frames c x r g.0,
    lasts frames cs (left_by c x) (left-stays c x sized).sized (running-on c x sized r g.0.runs) g.1,
  )

  -- ---- the formula
  pub gone : (frames : ℕ) → 0 < frames → (cs : List Callback) (x : Machine) → Sized x.hda → Throughout i frames cs x → callbacks_for frames (deferred_of i x) ≤ length cs
      → deferred_of i (run (steps_of cs) x) ≡ 0
  gone frames some cs x sized t enough = none_left frames some (deferred_of i x) (deferred_of i (run (steps_of cs) x)) (length cs) enough (all-late frames cs x sized t)

  -- ---- and it is met
  nothing_left : (frames : ℕ) (cs : List Callback) (x : Machine) → Sized x.hda → Throughout i frames cs x → deferred_of i x ≡ 0 → deferred_of i (run (steps_of cs) x) ≡ 0
  nothing_left frames cs x sized t none = go (deferred_of i x) (taken_by frames * length cs) none (all-late frames cs x sized t)
    where
      go : {left : ℕ} (due k : ℕ) → due ≡ 0 → left ≤ due - k → left ≡ 0
      go due k e l = omega arith

  pub exact : (frames : ℕ) → frames ≤ capacity / 4 → (cs : List Callback) (x : Machine) → Sized x.hda → Full i x → Throughout i frames cs x → Exactly i frames cs x → let y = run (steps_of cs) x in
      Runs i y.hda → deferred_of i y ≡ deferred_of i x - frames * length cs
  unfolding run
  exact frames few [] x sized full t e on = omega arith
  exact frames few (c ∷ cs) x sized full t e on =
      let y = left_by c x in
      let k = (left-stays c x sized).sized in
      let one = exact_one frames c x sized t.0 few e.0 (e.1 ∙ full) (ran frames cs y t.1 on) in
      by-test (leb frames (deferred_of i x))
      (λ enough. exact frames few cs y k (one.1 (leb-true frames (deferred_of i x) enough)) t.1 e.2 on
      ∙ fewer-still frames (deferred_of i x) (deferred_of i y) (length cs) one.0)
      (λ short. nothing_left frames cs y k t.1 (one.0 ∙ short_none frames (deferred_of i x) (leb-false frames (deferred_of i x) short))
      ∙ sym (none_at_all frames (deferred_of i x) (length cs) (leb-false frames (deferred_of i x) short)))
    where
      fewer-still : (m due due' n : ℕ) → due' ≡ due - m → due' - m * n ≡ due - m * suc n
      fewer-still m due due' n h = rw (mul-suc m n) (go (m * n))
        where
          go : (k : ℕ) → due' - k ≡ due - (k + m)
          go k = omega arith

      short_none : (m due : ℕ) → due < m → due - m ≡ 0
      short_none m due h = omega arith

      none_at_all : (m due n : ℕ) → due < m → due - m * suc n ≡ 0
      none_at_all m due n h = rw (mul-suc m n) (go (m * n))
        where
          go : (k : ℕ) → due - (k + m) ≡ 0
          go k = omega arith

  -- ---- among other calls
  pub among : (frames : ℕ) (ms : List (Moment Callback Step)) (x : Machine) → Among i frames ms x → deferred_of i (run (steps_among callback_steps ms) x) ≤ deferred_of i x - taken_by frames * callbacks_in ms
  unfolding run
  among frames [] x a = omega arith
  among frames (callback c ∷ ms) x a =
      le_trans (among frames ms (left_by c x) a.2) (fewer (taken_by frames) (deferred_of i x) (deferred_of i (left_by c x)) (callbacks_in ms) (late frames c x a.0 a.1))
  among frames (between s ∷ ms) x a =
      let y = after s.call (handed s x) in
      le_trans (among frames ms y a.1) (less (deferred_of i x) (deferred_of i y) (taken_by frames * callbacks_in ms) (quiet i s.call a.0 (handed s x)))

  -- the first callback among them finds at most 8,192
  pub over-among : (ms : List (Moment Callback Step)) (x : Machine) → Among i least_pull ms x → most_callbacks ≤ callbacks_in ms → deferred_of i (run (steps_among callback_steps ms) x) ≡ 0
  unfolding run
  over-among [] x a enough = absurd (omega arith)
  over-among (callback c ∷ ms) x a enough = none-of-most (deferred_of i x) _ (callbacks_in (callback c ∷ ms)) (most least_pull c x a.1) enough (among least_pull (callback c ∷ ms) x a)
  over-among (between s ∷ ms) x a enough = over-among ms (after s.call (handed s x)) a.1 enough
