-- A host that catches up (request T-10), on the bytes that it lends: in each callback it calls hda_pull, and then hda_advance by 0 ns. What must hold at each, and what is counted, read off the bytes.
use Rattle.std.specs.Prelude.{ℕ, ◌*◌, ◌%◌, ◌≤◌, ◌≡◌, List, [], ◌∷◌, ◌++◌, length}
use Rattle.word.specs.Value.{Bytes}
use Rattle.clock.specs.Frames.{whole_frames_of}
use Rattle.queue.specs.declared.Queue.{Queue}
use Rattle.record.specs.Loads.{device_at}
use Rattle.host_record.specs.Hosts.{queue_at, queue_place}
use Rattle.calls.specs.Calls as calls
use Rattle.port_device.specs.Calls.{Lent}
use Rattle.lent_calls.specs.Calls.{on, call_of, after}
use Rattle.lent_book.specs.Lists.{Step, handed, stream_in}
use Rattle.catchup.specs.Callbacks.{Runs, Running}

-- what a call is handed beside the device's record and its lists, as a step of demand 3 on bytes has it
pub record Handed : Type 0 where
  pub host : List ℕ
  pub queues : List ℕ
  pub memory : List ℕ
  pub hosts : Bytes host
  pub queued : Bytes queues
  pub bytes : Bytes memory

-- hda_pull into a buffer, and hda_advance behind it
pub record Callback : Type 0 where
  pub pulling : Handed
  pub into : List ℕ
  pub advancing : Handed

abbrev pub pull_step : Callback → Step
pull_step c =
    let g = c.pulling in
    record { host = g.host; queues = g.queues; memory = g.memory; call = on (calls.pull c.into); hosts = g.hosts; queued = g.queued; bytes = g.bytes; typed = tt }

abbrev pub advance_step : Callback → Step
advance_step c =
    let g = c.advancing in
    record { host = g.host; queues = g.queues; memory = g.memory; call = on (calls.advance 0); hosts = g.hosts; queued = g.queued; bytes = g.bytes; typed = tt }

-- the calls of demand 3 that they are
abbrev pub callback_steps : Callback → List Step
callback_steps c = pull_step c ∷ (advance_step c ∷ [])

abbrev pub steps_of : List Callback → List Step
steps_of [] = []
steps_of (c ∷ cs) = callback_steps c ++ steps_of cs

-- the bytes that the pull finds, those that it leaves, those that the `advance` finds, and those that the callback leaves
abbrev pub before_pull : Callback → Lent → Lent
before_pull c x = handed (pull_step c) x

abbrev pub after_pull : Callback → Lent → Lent
after_pull c x = after (on (calls.pull c.into)) (before_pull c x)

abbrev pub before_advance : Callback → Lent → Lent
before_advance c x = handed (advance_step c) (after_pull c x)

abbrev pub left_by : Callback → Lent → Lent
left_by c x = after (on (calls.advance 0)) (before_advance c x)

-- stream i's deferred whole frames, and the bytes that it has submitted, by its numbers in the device's record; its queue by its five bytes in the host end's (docs/LAYOUT.md)
abbrev pub deferred_in : ℕ → Lent → ℕ
deferred_in i x = whole_frames_of (stream_in i x).fraction

abbrev pub submitted_in : ℕ → Lent → ℕ
submitted_in i x = (stream_in i x).submitted

abbrev pub queue_in : ℕ → Lent → Queue
queue_in i x = queue_at (queue_place i) x.host

-- whether it runs, and a running stream of the request, by the device in its record
abbrev pub RunsIn : ℕ → Lent → Type 0
RunsIn i x = Runs i (device_at x.device)

abbrev pub RunningIn : ℕ → Lent → Type 0
RunningIn i x = Running i (device_at x.device)

-- What is asked of a pull: it wants `frames` frames or more and returns document 01's number 0, and nobody else touches the stream's queue before the `advance` behind it.
pub record Asks (i frames : ℕ) (c : Callback) (x : Lent) : Type 0 where
  pub enough : 4 * frames ≤ length c.into
  pub taken : (call_of (on (calls.pull c.into)) (before_pull c x)).kept.reply % 256 ≡ 0
  pub untouched : queue_in i (before_advance c x) ≡ queue_in i (after_pull c x)

-- its `advance` returns the number 0
abbrev pub Answered : Callback → Lent → Type 0
Answered c x = (call_of (on (calls.advance 0)) (before_advance c x)).reply % 256 ≡ 0

-- what is asked of a callback: its `advance` finds the stream running
pub record Serves (i frames : ℕ) (c : Callback) (x : Lent) : Type 0 where
  pub asks : Asks i frames c x
  pub running : RunningIn i (before_advance c x)
  pub answered : Answered c x

-- "throughout": at each callback of a list
abbrev pub Throughout : ℕ → ℕ → List Callback → Lent → Type 0
Throughout i frames [] x = Unit {0}
Throughout i frames (c ∷ cs) x = Serves i frames c x × Throughout i frames cs (left_by c x)

-- The same from what each callback leaves: both calls return 0, and the stream runs after them.
pub record GoesOn (i frames : ℕ) (c : Callback) (x : Lent) : Type 0 where
  pub asks : Asks i frames c x
  pub answered : Answered c x
  pub runs : RunsIn i (left_by c x)

abbrev pub AllGoOn : ℕ → ℕ → List Callback → Lent → Type 0
AllGoOn i frames [] x = Unit {0}
AllGoOn i frames (c ∷ cs) x = GoesOn i frames c x × AllGoOn i frames cs (left_by c x)
