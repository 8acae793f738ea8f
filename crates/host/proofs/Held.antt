-- A host end that the code holds has a queue for each stream: what the type `[Queue; STREAMS]` says of a value. Assumes nothing.
use mathlib.Core.Path.{◌≡◌}
use mathlib.Core.List.{List}
use lib.ListN.{length}
use mir.Val.{Val}
use denote.Laws.{Is}
use Rattle.host.specs.declared.Host.{Host}
use Rattle.stream.specs.Box.{streams}
use Rattle.host.specs.contracts.Host as host

pub queues-held : (h : Host) (vs : List Val) → Is host.the_row h vs → length h.queues ≡ streams
queues-held h vs s =
    s.1.1.1.1.1.0.1.0.1
