-- How soon a stall is over (request T-10), on bytes. Of the first device's record it is asked that it is bytes: that it is a record that passes the checks, the calls' numbers say.
use Rattle.std.specs.Prelude.{ℕ, ◌+◌, ◌-◌, ◌*◌, ◌≤◌, ◌<◌, ◌≡◌, false, List, length}
use Rattle.word.specs.Value.{Bytes}
use Rattle.stream.specs.Box.{streams, captures}
use Rattle.port_device.specs.Calls.{Lent}
use Rattle.lent_book.specs.Lists.{run}
use Rattle.catchup.specs.Claim.{least_pull, most_callbacks}
use Rattle.lent_catchup.specs.Callbacks.{Callback, steps_of, deferred_in, submitted_in, RunsIn, RunningIn, Throughout, AllGoOn}

-- says it of playback stream i
pub record CatchesUp (i : ℕ) : Type 0 where
  -- every callback takes as many frames, while there are any
  pub each : (cs : List Callback) (x : Lent) → Bytes x.device → Throughout i least_pull cs x → deferred_in i (run (steps_of cs) x) ≤ deferred_in i x - least_pull * length cs
  -- so enough of them empty the stream
  pub over : (cs : List Callback) (x : Lent) → Bytes x.device → Throughout i least_pull cs x → most_callbacks ≤ length cs → deferred_in i (run (steps_of cs) x) ≡ 0
  -- and where no failure has stopped the stream, each frame that is no longer deferred was moved: none is dropped, however many are pulled
  pub moved : (frames : ℕ) (cs : List Callback) (x : Lent) → Bytes x.device → Throughout i frames cs x
      → let y = run (steps_of cs) x in
      RunsIn i y → submitted_in i y + 4 * deferred_in i y ≡ submitted_in i x + 4 * deferred_in i x
  -- what holds at the start lasts while no call is refused and the stream runs
  pub lasts : (frames : ℕ) (cs : List Callback) (x : Lent) → Bytes x.device → RunningIn i x → AllGoOn i frames cs x → Throughout i frames cs x

pub record CatchUpBytes : Type 0 where
  pub every : (i : ℕ) → i < streams → captures i ≡ false → CatchesUp i
