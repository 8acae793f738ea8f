-- Demand 3, whole (document 01, "The book of demand 3").
use Rattle.std.specs.Prelude.{ℕ, ◌+◌, ◌*◌, ◌≤◌, ◌<◌, ◌≡◌, Bool, true, List, [], ◌∷◌, ◌++◌, length}
use Rattle.stream.specs.Box.{streams}
use Rattle.word.specs.Parts.{part_of}
use Rattle.stream.specs.Streams.{list_size, uncrowded_of}
use Rattle.queue.specs.Queues.{capacity}
use Rattle.host.specs.declared.Host.{Host}
use Rattle.device.specs.Devices.{fresh_of, stream_at}
use Rattle.device.specs.Machines.{Machine, machine, check_machine}
use Rattle.restore.specs.Restores.{number_of}
use Rattle.calls.specs.Calls.{Call, after}
use Rattle.calls.specs.Calls as calls
use Rattle.book.specs.Book as book
use Rattle.book.specs.Book.{Book, Event, limit, note}
use Rattle.book.specs.Reasons.{is_founded, is_unlimited, Failures}
use Rattle.book.specs.Events.{restored_event}
use Rattle.book.specs.Lists.{Step, handed, run, all_events, pending_of, opening_of, book_of}

-- a list of positions rises strictly, from above lo up to hi
abbrev pub Rises : ℕ → List ℕ → ℕ → Type 0
Rises lo [] hi = lo ≤ hi
Rises lo (p ∷ ps) hi = (lo < p) × Rises p ps hi

-- neighbours are at least 4 apart
abbrev pub FourFrom : ℕ → List ℕ → Type 0
FourFrom q [] = Unit {0}
FourFrom q (p ∷ ps) = (q + 4 ≤ p) × FourFrom p ps

abbrev pub FourApart : List ℕ → Type 0
FourApart [] = Unit {0}
FourApart (p ∷ ps) = FourFrom p ps

-- at no time from a book on, through a list of events, are 4,352 pending
abbrev pub Few : List Event → Book → Type 0
Few [] b = length b.pending < limit
Few (e ∷ es) b = (length b.pending < limit) × Few es (note e b)

-- a device newly made, where the lent spaces are large enough, whatever the host end and guest memory are; or one that an accepted restore, of either kind, put in force
abbrev pub made : Bool → Host → List ℕ → List ℕ → List ℕ → Machine
made microphone h lists queues memory = machine (fresh_of microphone) h lists queues memory

abbrev pub Accepts : Bool → List ℕ → Machine → Type 0
Accepts strict s x = (check_machine x ≡ 0) × (number_of strict s x.hda x.host ≡ 0)

pub data Starts : Machine → Type 0 where
  new : (microphone : Bool) (h : Host) (lists queues memory : List ℕ) → list_size * streams ≤ length lists → capacity * streams ≤ length queues
      → Starts (made microphone h lists queues memory)
  restored : (strict : Bool) (s : List ℕ) (x : Machine) → Accepts strict s x → Starts (after (calls.restore strict s) x)

-- says where the book of one stream starts: a new device's is empty; a restored one's is what the accepted restore makes of any book, the state's counts and the positions that it leaves
pub record Opens (i : ℕ) : Type 0 where
  pub fresh : (microphone : Bool) (h : Host) (lists queues memory : List ℕ) → opening_of i (made microphone h lists queues memory) ≡ book.made
  pub resumed : (strict : Bool) (s : List ℕ) (x : Machine) → Accepts strict s x → (b : Book) → opening_of i (after (calls.restore strict s) x) ≡ note (restored_event s i) b

-- says what holds of one stream after the list
pub record Agrees (i : ℕ) (cs : List Step) (x : Machine) : Type 0 where
  -- counts and pending completions are the book's
  pub submitted : (stream_at (run cs x).hda i).submitted ≡ (book_of i cs x).submitted
  pub consumed : (stream_at (run cs x).hda i).consumed ≡ (book_of i cs x).consumed
  pub pending : pending_of i (run cs x) ≡ (book_of i cs x).pending
  -- and so is where its next piece begins
  pub index : (stream_at (run cs x).hda i).descriptor ≡ (book_of i cs x).index
  pub offset : (stream_at (run cs x).hda i).offset ≡ (book_of i cs x).offset
  -- consumed never passes submitted; pending positions rise strictly, above consumed and up to submitted
  pub heard : (stream_at (run cs x).hda i).consumed ≤ (stream_at (run cs x).hda i).submitted
  pub rises : Rises (stream_at (run cs x).hda i).consumed (pending_of i (run cs x)) (stream_at (run cs x).hda i).submitted
  -- nothing lost, nothing doubled: restored positions and then flagged ends are, in order, those retired and then those pending
  pub exact : (book_of i cs x).ends ≡ (book_of i cs x).retired ++ (book_of i cs x).pending
  -- a transfer fails for one of document 01's reasons alone
  pub founded : Failures is_founded (all_events i cs x) (opening_of i x)

-- no restore is accepted in the list
abbrev pub NotRestored : Call → Machine → Type 0
NotRestored c x = (strict : Bool) (s : List ℕ) → c ≡ calls.restore strict s → Accepts strict s x → ⊥

abbrev pub NoRestore : List Step → Machine → Type 0
NoRestore [] x = Unit {0}
NoRestore (c ∷ cs) x = NotRestored c.call (handed c x) × NoRestore cs (after c.call (handed c x))

-- positions are 4 apart, and so that the list is not crowded; the limit never stops a transfer: where one fails the limit does not hold
pub record Spaced (i : ℕ) (cs : List Step) (x : Machine) : Type 0 where
  pub apart : FourApart (pending_of i (run cs x))
  pub uncrowded : uncrowded_of (stream_at (run cs x).hda i) (part_of list_size i (run cs x).lists) ≡ true
  pub never : Failures is_unlimited (all_events i cs x) (opening_of i x)

-- With no restore 4,352 are never pending. A restored list may have as many, until the first position update retires what was heard.
pub record Demand3 : Type 0 where
  pub opens : (i : ℕ) → i < streams → Opens i
  pub agrees : (i : ℕ) → i < streams → (cs : List Step) (x : Machine) → Starts x → Agrees i cs x
  pub spaced : (i : ℕ) → i < streams → (cs : List Step) (x : Machine) → Starts x → Spaced i cs x
  pub few : (i : ℕ) → i < streams → (cs : List Step) (microphone : Bool) (h : Host) (lists queues memory : List ℕ) → list_size * streams ≤ length lists
      → capacity * streams ≤ length queues
      → NoRestore cs (made microphone h lists queues memory)
      → Few (all_events i cs (made microphone h lists queues memory)) (opening_of i (made microphone h lists queues memory))
