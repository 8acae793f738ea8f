-- A host that catches up (request T-10): in each callback it asks for frames, and then lets the device advance by 0 ns. What must hold at each, and what is counted.
use Rattle.std.specs.Prelude.{ℕ, ◌*◌, ◌≤◌, ◌≡◌, true, false, List, [], ◌∷◌, ◌++◌, length}
use Rattle.clock.specs.Frames.{whole_frames_of}
use Rattle.stream.specs.Box.{streams}
use Rattle.host.specs.declared.Host.{Host}
use Rattle.host.specs.Hosts.{queue_at}
use Rattle.registers.specs.Places.{size, dma_of}
use Rattle.driver.specs.Calls.{pull_of}
use Rattle.device.specs.declared.Hda.{Hda}
use Rattle.device.specs.Devices.{stream_at}
use Rattle.device.specs.Machines.{Machine}
use Rattle.serve.specs.Serve as serve
use Rattle.advance.specs.Advance.{still_of, advance_of}
use Rattle.calls.specs.Calls as calls
use Rattle.calls.specs.Calls.{Call, after}
use Rattle.book.specs.Lists.{Step, handed}

-- what a call is handed beside the device and its lists, as a step of demand 3 has it
pub record Handed : Type 0 where
  pub host : Host
  pub sized : length host.queues ≡ streams
  pub queues : List ℕ
  pub memory : List ℕ

abbrev pub step_of : Handed → Call → Step
step_of g c = record { host = g.host; sized = g.sized; queues = g.queues; memory = g.memory; call = c }

-- a pull into a buffer, and the `advance` behind it
pub record Callback : Type 0 where
  pub pulling : Handed
  pub into : List ℕ
  pub advancing : Handed

abbrev pub pull_step : Callback → Step
pull_step c = step_of c.pulling (calls.pull c.into)

abbrev pub advance_step : Callback → Step
advance_step c = step_of c.advancing (calls.advance 0)

-- the calls of demand 3 that they are
abbrev pub callback_steps : Callback → List Step
callback_steps c = pull_step c ∷ (advance_step c ∷ [])

abbrev pub steps_of : List Callback → List Step
steps_of [] = []
steps_of (c ∷ cs) = callback_steps c ++ steps_of cs

-- the machine that the pull finds, the one that it leaves, the one that the `advance` finds, and the one that the callback leaves
abbrev pub before_pull : Callback → Machine → Machine
before_pull c x = handed (pull_step c) x

abbrev pub after_pull : Callback → Machine → Machine
after_pull c x = after (calls.pull c.into) (before_pull c x)

abbrev pub before_advance : Callback → Machine → Machine
before_advance c x = handed (advance_step c) (after_pull c x)

abbrev pub left_by : Callback → Machine → Machine
left_by c x = after (calls.advance 0) (before_advance c x)

-- stream i's deferred whole frames, and the bytes that it has submitted
abbrev pub deferred_of : ℕ → Machine → ℕ
deferred_of i x = whole_frames_of (stream_at x.hda i).fraction

abbrev pub submitted_of : ℕ → Machine → ℕ
submitted_of i x = (stream_at x.hda i).submitted

-- whether stream i runs: RUN set, not in its reset, its synchronization bit clear
abbrev pub Runs : ℕ → Hda → Type 0
Runs i d = serve.runs d.regs i ≡ true

-- a running stream of the request: the device is not paused and the controller out of reset, DMA is on, the stream runs
pub record Running (i : ℕ) (d : Hda) : Type 0 where
  pub awake : still_of d ≡ false
  pub dma : dma_of d.config d.regs ≡ true
  pub runs : Runs i d

-- What is asked of a pull: it wants `frames` frames or more and is not refused, and nobody else touches the stream's queue before the `advance` behind it.
pub record Asks (i frames : ℕ) (c : Callback) (x : Machine) : Type 0 where
  pub enough : 4 * frames ≤ length c.into
  pub taken : let p = before_pull c x in (pull_of p.host p.queues c.into).fed.number ≡ 0
  pub untouched : queue_at c.advancing.host i ≡ queue_at (after_pull c x).host i

-- its `advance` is refused neither for what it is handed nor since a stream's opening failed
abbrev pub Answered : Callback → Machine → Type 0
Answered c x = (advance_of 0 (before_advance c x)).answer.number ≡ 0

-- What is asked of a callback: its `advance` finds the stream running. Of other failures nothing is asked: a stream that fails keeps no whole frame, and no longer runs.
pub record Serves (i frames : ℕ) (c : Callback) (x : Machine) : Type 0 where
  pub asks : Asks i frames c x
  pub running : Running i (before_advance c x).hda
  pub answered : Answered c x

-- "throughout": at each callback of a list
abbrev pub Throughout : ℕ → ℕ → List Callback → Machine → Type 0
Throughout i frames [] x = Unit {0}
Throughout i frames (c ∷ cs) x = Serves i frames c x × Throughout i frames cs (left_by c x)

-- The same from what each callback leaves: no call is refused, and the stream runs after it, so that no failure has stopped it.
pub record GoesOn (i frames : ℕ) (c : Callback) (x : Machine) : Type 0 where
  pub asks : Asks i frames c x
  pub answered : Answered c x
  pub runs : Runs i (left_by c x).hda

abbrev pub AllGoOn : ℕ → ℕ → List Callback → Machine → Type 0
AllGoOn i frames [] x = Unit {0}
AllGoOn i frames (c ∷ cs) x = GoesOn i frames c x × AllGoOn i frames cs (left_by c x)

-- what its type says of a device: 256 registers, and every stream
pub record Sized (d : Hda) : Type 0 where
  pub registers : length d.regs ≡ size
  pub count : length d.streams ≡ streams
