-- Demand 3 on bytes: after any list of C calls, the counts and pending positions that stand in the bytes are the book's.
use Rattle.std.specs.Prelude.{ℕ, ◌*◌, ◌%◌, ◌≤◌, ◌<◌, ◌≡◌, Bool, true, List, [], ◌∷◌, ◌++◌, length}
use Rattle.word.specs.Value.{Bytes}
use Rattle.stream.specs.Box.{streams}
use Rattle.word.specs.Parts.{part_of}
use Rattle.stream.specs.Streams.{list_size, uncrowded_of}
use Rattle.queue.specs.Queues.{capacity}
use Rattle.host.specs.Hosts as hosts
use Rattle.device.specs.Machines.{check_machine}
use Rattle.record.specs.Layout.{device_size}
use Rattle.record.specs.Loads.{is_device}
use Rattle.host_record.specs.Hosts.{host_at}
use Rattle.calls.specs.Calls as calls
use Rattle.port_device.specs.Calls.{Lent, lent, machine_at}
use Rattle.lent_calls.specs.Calls.{new, on, call_of, after}
use Rattle.book.specs.Book as book
use Rattle.book.specs.Book.{Book, note}
use Rattle.book.specs.Reasons.{is_founded, is_unlimited, Failures}
use Rattle.book.specs.Events.{restored_event}
use Rattle.book.specs.Claim.{Rises, FourApart, Few}
use Rattle.lent_book.specs.Lists.{Step, handed, run, stream_in, pending_in, opening_in, new_reply, all_events, book_of}

-- document 01's number in what hda_restore returns, or hda_restore_emptied, is 0
abbrev pub Accepted : Bool → List ℕ → Lent → Type 0
Accepted strict s x = (call_of (on (calls.restore strict s)) x).reply % 256 ≡ 0

-- what types say of all that is lent; of the lists nothing is asked
pub record Lends (x : Lent) : Type 0 where
  pub device : Bytes x.device
  pub host : Bytes x.host
  pub queues : Bytes x.queues
  pub memory : Bytes x.memory

-- after hda_new that returned 0, or hda_restore or hda_restore_emptied whose number is 0, on any bytes
pub data Starts : Lent → Type 0 where
  made : (microphone : Bool) (x : Lent) → new_reply microphone x ≡ 0 → Starts (after (new microphone) x)
  restored : (strict : Bool) (s : List ℕ) (x : Lent) → Bytes s → Lends x → Accepted strict s x → Starts (after (on (calls.restore strict s)) x)

-- says where the book of one stream starts
pub record Opens (i : ℕ) : Type 0 where
  -- hda_new returns 0 on bytes as long as a record, with lists and queues that are long enough; the book is then empty
  pub begins : (microphone : Bool) (x : Lent) → length x.device ≡ device_size → list_size * streams ≤ length x.lists → capacity * streams ≤ length x.queues → new_reply microphone x ≡ 0
  pub fresh : (microphone : Bool) (x : Lent) → new_reply microphone x ≡ 0 → opening_in i (after (new microphone) x) ≡ book.made
  -- an accepted restore of either kind: the state's counts and the positions that it leaves, as it makes them of any book
  pub resumed : (strict : Bool) (s : List ℕ) (x : Lent) → Bytes s → Lends x → Accepted strict s x → (b : Book) → opening_in i (after (on (calls.restore strict s)) x) ≡ note (restored_event s i) b

-- says what holds of one stream after the list
pub record Agrees (i : ℕ) (cs : List Step) (x : Lent) : Type 0 where
  -- the device's bytes are a record, and the next call passes its check wherever the host end and the queues that it is handed do: what the calls left is never refused
  pub readable : is_device (run cs x).device ≡ true
  pub passes : (host queues memory : List ℕ) → hosts.check_of (host_at host) (length queues) ≡ 0
      → check_machine (machine_at (lent (run cs x).device host (run cs x).lists queues memory)) ≡ 0
  -- counts and pending completions are the book's
  pub submitted : (stream_in i (run cs x)).submitted ≡ (book_of i cs x).submitted
  pub consumed : (stream_in i (run cs x)).consumed ≡ (book_of i cs x).consumed
  pub pending : pending_in i (run cs x) ≡ (book_of i cs x).pending
  -- and so is where its next piece begins
  pub index : (stream_in i (run cs x)).descriptor ≡ (book_of i cs x).index
  pub offset : (stream_in i (run cs x)).offset ≡ (book_of i cs x).offset
  -- consumed never passes submitted; pending positions rise strictly, above consumed and up to submitted
  pub heard : (stream_in i (run cs x)).consumed ≤ (stream_in i (run cs x)).submitted
  pub rises : Rises (stream_in i (run cs x)).consumed (pending_in i (run cs x)) (stream_in i (run cs x)).submitted
  -- nothing lost, nothing doubled: restored positions and then flagged ends are, in order, those retired and then those pending
  pub exact : (book_of i cs x).ends ≡ (book_of i cs x).retired ++ (book_of i cs x).pending
  -- a transfer fails for one of document 01's reasons alone
  pub founded : Failures is_founded (all_events i cs x) (opening_in i x)

-- no restore is accepted in the list
abbrev pub NoRestore : List Step → Lent → Type 0
NoRestore [] x = Unit {0}
NoRestore (c ∷ cs) x = ((strict : Bool) (s : List ℕ) → c.call ≡ on (calls.restore strict s) → Accepted strict s (handed c x) → ⊥) × NoRestore cs (after c.call (handed c x))

-- positions are 4 apart, and so that the list is not crowded; the limit never stops a transfer: where one fails the limit does not hold
pub record Spaced (i : ℕ) (cs : List Step) (x : Lent) : Type 0 where
  pub apart : FourApart (pending_in i (run cs x))
  pub uncrowded : uncrowded_of (stream_in i (run cs x)) (part_of list_size i (run cs x).lists) ≡ true
  pub never : Failures is_unlimited (all_events i cs x) (opening_in i x)

pub record Demand3Bytes : Type 0 where
  pub opens : (i : ℕ) → i < streams → Opens i
  pub agrees : (i : ℕ) → i < streams → (cs : List Step) (x : Lent) → Starts x → Agrees i cs x
  pub spaced : (i : ℕ) → i < streams → (cs : List Step) (x : Lent) → Starts x → Spaced i cs x
  -- with no restore 4,352 are never pending
  pub few : (i : ℕ) → i < streams → (cs : List Step) (microphone : Bool) (x : Lent) → new_reply microphone x ≡ 0 → NoRestore cs (after (new microphone) x)
      → Few (all_events i cs (after (new microphone) x)) (opening_in i (after (new microphone) x))
