-- Lists of calls. Between two calls nobody else writes the device and its lists. Guest memory, the host end record and the queues' bytes may be any at each call: so also
-- where nobody else writes the queues, as document 01 has it ("The book of demand 3").
use Rattle.std.specs.Prelude.{ℕ, ◌≡◌, List, [], ◌∷◌, ◌++◌, length}
use Rattle.positions.specs.Positions.{positions_of}
use Rattle.word.specs.Parts.{part_of}
use Rattle.stream.specs.Streams.{list_size}
use Rattle.stream.specs.Box.{streams}
use Rattle.host.specs.declared.Host.{Host}
use Rattle.device.specs.Devices.{stream_at}
use Rattle.device.specs.Machines.{Machine, machine}
use Rattle.calls.specs.Calls.{Call, after}
use Rattle.book.specs.Book.{Book, Event, restored_with, notes}
use Rattle.book.specs.Events.{events_of}

-- what a call is handed anew, and the call; a host end has a queue for each stream, by its type
pub record Step : Type 0 where
  pub host : Host
  pub sized : length host.queues ≡ streams
  pub queues : List ℕ
  pub memory : List ℕ
  pub call : Call

-- the machine that the call finds
abbrev pub handed : Step → Machine → Machine
handed c x = machine x.hda c.host x.lists c.queues c.memory

unfoldable pub run : List Step → Machine → Machine
run [] x = x
run (c ∷ cs) x = run cs (after c.call (handed c x))

-- what happens to stream i in a list of calls, in order
unfoldable pub all_events : ℕ → List Step → Machine → List Event
all_events i [] x = []
all_events i (c ∷ cs) x = events_of i c.call (handed c x) ++ all_events i cs (after c.call (handed c x))

-- a stream's pending positions
abbrev pub pending_of : ℕ → Machine → List ℕ
pending_of i x = positions_of (stream_at x.hda i).pending (part_of list_size i x.lists)

-- the book starts from the first device and lists: of a new one all is 0 and empty, of a restored one its positions stand in ends and pending
abbrev pub opening_of : ℕ → Machine → Book
opening_of i x = let s = stream_at x.hda i in restored_with s.submitted s.consumed (pending_of i x) s.descriptor s.offset

unfoldable pub book_of : ℕ → List Step → Machine → Book
book_of i cs x = notes (all_events i cs x) (opening_of i x)
