-- In how many callbacks (request T-10), on bytes: the formula for pulls of any size, that it is met, and that other calls between the callbacks change nothing of it.
use Rattle.std.specs.Prelude.{ℕ, ◌-◌, ◌*◌, ◌/◌, ◌≤◌, ◌<◌, ◌≡◌, true, false, List, [], ◌∷◌, length}
use Rattle.word.specs.Value.{Bytes}
use Rattle.stream.specs.Box.{streams, captures}
use Rattle.queue.specs.Queues.{capacity, queue}
use Rattle.record.specs.Loads.{is_device}
use Rattle.port_device.specs.Calls.{Lent}
use Rattle.lent_book.specs.Lists.{Step, run}
use Rattle.catchup.specs.Claim.{least_pull, most_callbacks}
use Rattle.catchup.specs.Corollaries.{taken_by, callbacks_for}
use Rattle.lent_catchup.specs.Callbacks.{Callback, callback_steps, steps_of, before_pull, left_by, deferred_in, queue_in, RunsIn, Throughout}
use Rattle.catchup.specs.Between.{Moment, steps_among, callbacks_in}
use Rattle.lent_catchup.specs.Between.{Among}

-- each pull wants exactly so many frames, and finds the stream's queue as it was left
abbrev pub Exactly : ℕ → ℕ → List Callback → Lent → Type 0
Exactly i frames [] x = Unit {0}
Exactly i frames (c ∷ cs) x = (length c.into ≡ 4 * frames) × (queue_in i (before_pull c x) ≡ queue_in i x) × Exactly i frames cs (left_by c x)

-- the stream is open, and its queue takes no more
abbrev pub Full : ℕ → Lent → Type 0
Full i x = queue_in i x ≡ queue true capacity

-- says it of playback stream i
pub record Counted (i : ℕ) : Type 0 where
  -- d deferred frames are gone after that many callbacks
  pub gone : (frames : ℕ) → 0 < frames → (cs : List Callback) (x : Lent) → Bytes x.device → Throughout i frames cs x
      → callbacks_for frames (deferred_in i x) ≤ length cs → deferred_in i (run (steps_of cs) x) ≡ 0
  -- from a full queue each takes just what it pulls, while the stream runs: so fewer callbacks are not enough
  pub exact : (frames : ℕ) → frames ≤ capacity / 4 → (cs : List Callback) (x : Lent) → Bytes x.device → Full i x → Throughout i frames cs x → Exactly i frames cs x
      → let y = run (steps_of cs) x in
      RunsIn i y → deferred_in i y ≡ deferred_in i x - frames * length cs
  -- calls between the callbacks hold nothing up, from a device's record on: each callback takes as many as without them, and enough of them empty the stream
  pub among : (frames : ℕ) (ms : List (Moment Callback Step)) (x : Lent) → is_device x.device ≡ true → Bytes x.device → Among i frames ms x
      → deferred_in i (run (steps_among callback_steps ms) x) ≤ deferred_in i x - taken_by frames * callbacks_in ms
  pub over : (ms : List (Moment Callback Step)) (x : Lent) → is_device x.device ≡ true → Bytes x.device → Among i least_pull ms x → most_callbacks ≤ callbacks_in ms → deferred_in i (run (steps_among callback_steps ms) x) ≡ 0

pub record CorollariesBytes : Type 0 where
  pub counted : (i : ℕ) → i < streams → captures i ≡ false → Counted i
