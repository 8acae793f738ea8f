-- Lists of C calls on the same device record and lists, and the book of each, read off the bytes.
use Rattle.std.specs.Prelude.{ℕ, ◌+◌, ◌*◌, Bool, List, [], ◌∷◌, ◌++◌, eqb}
use Rattle.word.specs.Value.{Bytes}
use Rattle.word.specs.Parts.{part_of}
use Rattle.positions.specs.Positions.{positions_of}
use Rattle.stream.specs.declared.Stream.{Stream}
use Rattle.stream.specs.Streams.{list_size}
use Rattle.record.specs.Layout.{head_size, numbers_size}
use Rattle.record.specs.Loads.{stream_at}
use Rattle.calls.specs.Calls as calls
use Rattle.reply.specs.Replies.{is_machine}
use Rattle.port_device.specs.Calls.{Lent, lent, machine_at}
use Rattle.lent_calls.specs.Calls.{Call, new, host_new, on, call_of, after}
use Rattle.book.specs.Book.{Book, Event, reset, restored_with, notes}
use Rattle.book.specs.Events as events
use Rattle.book.specs.Events.{only_if}

-- what types say of a call's own bytes
abbrev pub Typed : Call → Type 0
Typed (new microphone) = Unit {0}
Typed host_new = Unit {0}
Typed (on c) = calls.Typed c

-- Between two calls nobody else writes the device's record and its lists. Host end, queues and guest memory may be any bytes at each call, of any length: so also where nobody else writes the queues.
pub record Step : Type 0 where
  pub host : List ℕ
  pub queues : List ℕ
  pub memory : List ℕ
  pub call : Call
  pub hosts : Bytes host
  pub queued : Bytes queues
  pub bytes : Bytes memory
  pub typed : Typed call

abbrev pub handed : Step → Lent → Lent
handed c x = lent x.device c.host x.lists c.queues c.memory

unfoldable pub run : List Step → Lent → Lent
run [] x = x
run (c ∷ cs) x = run cs (after c.call (handed c x))

-- the numbers of stream i in a device's record (docs/LAYOUT.md), and its pending positions in the lists
abbrev pub stream_in : ℕ → Lent → Stream
stream_in i x = stream_at (head_size + numbers_size * i) x.device

abbrev pub pending_in : ℕ → Lent → List ℕ
pending_in i x = positions_of (stream_in i x).pending (part_of list_size i x.lists)

-- ---- the book
-- it starts from the first record and lists
abbrev pub opening_in : ℕ → Lent → Book
opening_in i x = let s = stream_in i x in restored_with s.submitted s.consumed (pending_in i x) s.descriptor s.offset

-- what hda_new returns
abbrev pub new_reply : Bool → Lent → ℕ
new_reply microphone x = (call_of (new microphone) x).reply

-- bytes that are no records are no machine: nothing happens
abbrev pub if_records : Lent → List Event → List Event
if_records x es = only_if (is_machine x.device x.host) es

-- a new device's streams are made
unfoldable pub events_of : ℕ → Call → Lent → List Event
events_of i (new microphone) x = only_if (eqb (new_reply microphone x) 0) (reset ∷ [])
events_of i host_new x = []
events_of i (on c) x = if_records x (events.events_of i c (machine_at x))

unfoldable pub all_events : ℕ → List Step → Lent → List Event
all_events i [] x = []
all_events i (c ∷ cs) x = events_of i c.call (handed c x) ++ all_events i cs (after c.call (handed c x))

unfoldable pub book_of : ℕ → List Step → Lent → Book
book_of i cs x = notes (all_events i cs x) (opening_in i x)
