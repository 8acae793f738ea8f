-- In how many callbacks (request T-10): the formula for pulls of any size, that it is met, and that other calls between the callbacks change nothing of it. A queue holds 512 frames, so that a pull of more takes no more.
use Rattle.std.specs.Prelude.{ℕ, ◌+◌, ◌-◌, ◌*◌, ◌/◌, ◌≤◌, ◌<◌, min, ◌≡◌, true, false, List, [], ◌∷◌, length}
use Rattle.stream.specs.Box.{streams, captures}
use Rattle.queue.specs.Queues.{capacity, queue}
use Rattle.host.specs.Hosts.{queue_at}
use Rattle.device.specs.Machines.{Machine}
use Rattle.book.specs.Lists.{Step, run}
use Rattle.catchup.specs.Callbacks.{Callback, callback_steps, steps_of, left_by, deferred_of, Runs, Throughout, Sized}
use Rattle.catchup.specs.Claim.{least_pull, most_callbacks}
use Rattle.catchup.specs.Between.{Moment, steps_among, callbacks_in, Among}

-- frames that a callback takes which pulls so many
abbrev pub taken_by : ℕ → ℕ
taken_by frames = min frames (capacity / 4)

-- callbacks until so many deferred frames are gone: their quotient, rounded up
abbrev pub callbacks_for : ℕ → ℕ → ℕ
callbacks_for frames deferred = (deferred + (taken_by frames - 1)) / taken_by frames

-- each pull wants exactly so many frames, and finds the stream's queue as it was left
abbrev pub Exactly : ℕ → ℕ → List Callback → Machine → Type 0
Exactly i frames [] x = Unit {0}
Exactly i frames (c ∷ cs) x = (length c.into ≡ 4 * frames) × (queue_at c.pulling.host i ≡ queue_at x.host i) × Exactly i frames cs (left_by c x)

-- the stream is open, and its queue takes no more
abbrev pub Full : ℕ → Machine → Type 0
Full i x = queue_at x.host i ≡ queue true capacity

-- says it of playback stream i
pub record Counted (i : ℕ) : Type 0 where
  -- d deferred frames are gone after that many callbacks
  pub gone : (frames : ℕ) → 0 < frames → (cs : List Callback) (x : Machine) → Sized x.hda → Throughout i frames cs x
      → callbacks_for frames (deferred_of i x) ≤ length cs → deferred_of i (run (steps_of cs) x) ≡ 0
  -- from a full queue each takes just what it pulls, while the stream runs: so the bound is met, and fewer callbacks are not enough
  pub exact : (frames : ℕ) → frames ≤ capacity / 4 → (cs : List Callback) (x : Machine) → Sized x.hda → Full i x → Throughout i frames cs x → Exactly i frames cs x
      → let y = run (steps_of cs) x in
      Runs i y.hda → deferred_of i y ≡ deferred_of i x - frames * length cs
  -- calls between the callbacks hold nothing up: each callback takes as many as without them, and enough of them empty the stream
  pub among : (frames : ℕ) (ms : List (Moment Callback Step)) (x : Machine) → Among i frames ms x → deferred_of i (run (steps_among callback_steps ms) x) ≤ deferred_of i x - taken_by frames * callbacks_in ms
  pub over : (ms : List (Moment Callback Step)) (x : Machine) → Among i least_pull ms x → most_callbacks ≤ callbacks_in ms → deferred_of i (run (steps_among callback_steps ms) x) ≡ 0

-- The sound that the host asks for until then: the deferred frames, and less than one pull more; at r frames a second so many r-ths of a second.
pub record Corollaries : Type 0 where
  pub counted : (i : ℕ) → i < streams → captures i ≡ false → Counted i
  pub sounds : (frames deferred : ℕ) → 0 < frames → frames ≤ capacity / 4 → (deferred ≤ frames * callbacks_for frames deferred) × (frames * callbacks_for frames deferred < deferred + frames)
  -- 8,192 are the most that are deferred: 32 callbacks of 256 frames, 33 of 255
  pub most : (callbacks_for 256 8192 ≡ 32) × (callbacks_for 255 8192 ≡ 33)
