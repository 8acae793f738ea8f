-- How soon a stall is over (request T-10). Asked of the first machine is what its type says alone: what the calls' checks ask of it, their answers say, so that it is any that demand 3 may leave, and any other.
use Rattle.std.specs.Prelude.{ℕ, ◌+◌, ◌-◌, ◌*◌, ◌≤◌, ◌<◌, ◌≡◌, false, List, length}
use Rattle.stream.specs.Box.{streams, captures}
use Rattle.device.specs.Machines.{Machine}
use Rattle.book.specs.Lists.{run}
use Rattle.catchup.specs.Callbacks.{Callback, steps_of, deferred_of, submitted_of, Runs, Running, Throughout, AllGoOn, Sized}

-- frames that a pull asks for at least, and callbacks that are then enough
abbrev pub least_pull : ℕ
least_pull = 256

abbrev pub most_callbacks : ℕ
most_callbacks = 32

-- says it of playback stream i
pub record CatchesUp (i : ℕ) : Type 0 where
  -- every callback takes as many frames, while there are any
  pub each : (cs : List Callback) (x : Machine) → Sized x.hda → Throughout i least_pull cs x → deferred_of i (run (steps_of cs) x) ≤ deferred_of i x - least_pull * length cs
  -- so enough of them empty the stream
  pub over : (cs : List Callback) (x : Machine) → Sized x.hda → Throughout i least_pull cs x → most_callbacks ≤ length cs → deferred_of i (run (steps_of cs) x) ≡ 0
  -- and where no failure has stopped the stream, each frame that is no longer deferred was moved: none is dropped, however many are pulled
  pub moved : (frames : ℕ) (cs : List Callback) (x : Machine) → Sized x.hda → Throughout i frames cs x
      → let y = run (steps_of cs) x in
      Runs i y.hda → submitted_of i y + 4 * deferred_of i y ≡ submitted_of i x + 4 * deferred_of i x
  -- what holds at the start lasts while no call is refused and the stream runs
  pub lasts : (frames : ℕ) (cs : List Callback) (x : Machine) → Sized x.hda → Running i x.hda → AllGoOn i frames cs x → Throughout i frames cs x

pub record CatchUp : Type 0 where
  pub every : (i : ℕ) → i < streams → captures i ≡ false → CatchesUp i
