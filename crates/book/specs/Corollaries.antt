-- What follows from demand 3: no completion dropped or reported twice, the position register after a turn, and how far a stream is ahead of what is heard.
use Rattle.std.specs.Prelude.{ℕ, ◌+◌, ◌*◌, ◌≤◌, ◌<◌, ◌≡◌, Bool, true, false, cond, List, [], ◌∷◌, eqb, length, take, None}
use Rattle.word.specs.Value.{Bytes}
use Rattle.word.specs.Place.{word_at}
use Rattle.format.specs.Format.{format_of}
use Rattle.stream.specs.Box.{streams}
use Rattle.stream.specs.Streams.{list_size}
use Rattle.queue.specs.Queues.{capacity, latency_of}
use Rattle.host.specs.declared.Host.{Host}
use Rattle.host.specs.Hosts.{max_downstream}
use Rattle.registers.specs.Places.{size, lpib, cbl, fmt}
use Rattle.turn.specs.declared.Setup.{Setup}
use Rattle.turn.specs.declared.Engine.{Engine}
use Rattle.turn.specs.Engines.{Work, position_of, served_of}
use Rattle.turn.specs.Turns.{open_stream_of}
use Rattle.device.specs.declared.Hda.{Hda}
use Rattle.device.specs.Devices.{stream_at}
use Rattle.device.specs.Machines.{Machine}
use Rattle.serve.specs.Serve.{Turns, runs, turn_at}
use Rattle.record.specs.Typed.{TypedDevice}
use Rattle.snapshot.specs.Saves.{save_of}
use Rattle.restore.specs.Restores.{number_of}
use Rattle.restore.specs.Returns.{Formats, Restorable}
use Rattle.calls.specs.Calls as calls
use Rattle.calls.specs.Calls.{after}
use Rattle.book.specs.Book.{Book, Event, reset, restored, moved, updated, failed, refused}
use Rattle.book.specs.Events.{turn_events, events_of}
use Rattle.book.specs.Lists.{Step, run, book_of}
use Rattle.book.specs.Claim.{made, Starts, NoRestore}

-- how often a position stands in a list
abbrev pub times : ℕ → List ℕ → ℕ
times p [] = 0
times p (q ∷ qs) = cond (eqb p q) 1 0 + times p qs

-- In a book no completion is dropped or reported twice; "since" is since the stream's last reset or restore, or the start.
pub record Once (b : Book) : Type 0 where
  -- an end flagged or restored since is either retired or pending, never both: no position stands twice among the ends, and each is counted in one of the two lists
  pub once : (p : ℕ) → times p b.ends ≤ 1
  pub parted : (p : ℕ) → times p b.ends ≡ times p b.retired + times p b.pending
  -- none retires before consumed reaches it, and none is pending once it has
  pub early : (p : ℕ) → b.consumed < p → times p b.retired ≡ 0
  pub late : (p : ℕ) → p ≤ b.consumed → times p b.pending ≡ 0

-- What an open stream's turn leaves, whatever it found.
pub record Told (g : Setup) (e : Engine) : Type 0 where
  -- the position is consumed modulo the cyclic length, or 0 where that is 0, also where the turn stopped the stream
  pub position : e.position ≡ position_of e.stream.consumed g.cyclic.cbl
  -- while the stream runs, bytes submitted and not consumed are at most those that the host holds: queue and downstream for a playback, none for a capture
  pub ahead : e.running ≡ true → e.stream.submitted ≤ e.stream.consumed + latency_of e.queue g.cyclic.capture g.downstream

-- Stream i's position register has consumed modulo the cyclic length, or 0 where that is 0, by the registers as they stand.
abbrev pub Shows : ℕ → Hda → Type 0
Shows i d = word_at 4 (lpib i) d.regs ≡ position_of (stream_at d i).consumed (word_at 4 (cbl i) d.regs)

-- what its type says of a device: 256 registers, each a byte, and every stream
pub record Whole (d : Hda) : Type 0 where
  pub sized : length d.regs ≡ size
  pub bytes : Bytes d.regs
  pub count : length d.streams ≡ streams

-- a stream's turn serves it: it runs, its format is supported, its opening is not refused
pub record Served (i : ℕ) (x : Machine) : Type 0 where
  pub runs : runs x.hda.regs i ≡ true
  pub format : format_of (word_at 2 (fmt i) x.hda.regs) ≡ None → ⊥
  pub opens : (open_stream_of x.host x.hda.microphone i).ok ≡ true

-- a stream's turn finds it running with a supported format, and the host refuses to open it
pub record Declined (i : ℕ) (x : Machine) : Type 0 where
  pub runs : runs x.hda.regs i ≡ true
  pub format : format_of (word_at 2 (fmt i) x.hda.regs) ≡ None → ⊥
  pub closed : (open_stream_of x.host x.hda.microphone i).ok ≡ false

-- the book begins with a position update: of an `advance`, that it served the stream
abbrev pub Updates : Event → Type 0
Updates reset = ⊥
Updates (restored submitted consumed positions index offset) = ⊥
Updates (moved attempt) = ⊥
Updates (updated latency) = Unit {0}
Updates (failed attempt) = ⊥
Updates refused = ⊥

abbrev pub Serves : List Event → Type 0
Serves [] = ⊥
Serves (e ∷ es) = Updates e

pub record Corollaries : Type 0 where
  pub once : (i : ℕ) → i < streams → (cs : List Step) (x : Machine) → Starts x → Once (book_of i cs x)
  pub told : (g : Setup) (rate nanos : ℕ) (x : Work) → Told g (served_of g rate nanos x).engine
  -- a turn that serves a stream leaves its position register as `Shows` says, and so does the `advance` that served it, whatever the later streams did
  pub turned : (i : ℕ) → i < streams → (nanos : ℕ) (w : Turns) → Whole w.machine.hda → Served i w.machine → Shows i (turn_at nanos i w).machine.hda
  pub advanced : (i : ℕ) → i < streams → (nanos : ℕ) (x : Machine) → Whole x.hda → Serves (events_of i (calls.advance nanos) x)
      → Shows i (after (calls.advance nanos) x).hda
  -- an opening that the host refuses in a turn is the book's event of that name, and all of the turn
  pub declined : (i downstream nanos : ℕ) (x : Machine) → Declined i x → turn_events downstream nanos i x ≡ refused ∷ []
  -- Nothing that such a device saves is refused with 20 (request T-09), whatever host end and spaces the save is handed, and whatever device takes it; so a saved state is taken again exactly where its
  -- formats are supported.
  pub saves : (cs : List Step) (x : Machine) → Starts x → TypedDevice (run cs x).hda → (h₀ : Host) (q₀ : ℕ) (into : List ℕ)
      → let r = save_of (run cs x).hda h₀ (run cs x).lists q₀ into in r.saved.number ≡ 0 → (d : Hda) (h : Host) → number_of true (take r.saved.count r.into) d h ≡ 20 → ⊥
  pub restorable : (cs : List Step) (x : Machine) → Starts x → Formats (run cs x).hda → Restorable true (run cs x).hda (run cs x).lists
  -- With no restore accepted before or in the list, submitted is at most a full queue and the largest downstream count ahead of consumed: 16,384 bytes, a transfer
  -- that fails included. What the host holds at that time cannot stand there: a pull takes frames out of the queue before the next turn moves consumed.
  pub near : (i : ℕ) → i < streams → (cs : List Step) (microphone : Bool) (h : Host) (lists queues memory : List ℕ) → list_size * streams ≤ length lists
      → capacity * streams ≤ length queues
      → NoRestore cs (made microphone h lists queues memory)
      → let s = stream_at (run cs (made microphone h lists queues memory)).hda i in s.submitted ≤ s.consumed + (capacity + max_downstream)
