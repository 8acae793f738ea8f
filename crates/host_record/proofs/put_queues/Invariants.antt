-- `put_queues` puts `queues_bytes`. The loop's invariant: the queues left, put at their place, give what all of them give.
use Prim.Native.Nat.{◌-◌}
use mathlib.Core.Path.{◌≡◌}
use Rattle.word.specs.Place.{put_at}
use Rattle.stream.specs.Box.{streams}
use Rattle.host_record.specs.Hosts.{queues_bytes, queue_place}
use Rattle.host_record.proofs.put_queues.Given as goal

abbrev pub invariant-loop-index : goal.invariant-loop-index
invariant-loop-index l =
    put_at (queue_place l.index) (queues_bytes (streams - l.index) l.index l.host) l.into ≡ put_at 6 (queues_bytes streams 0 l.host) l.initial.into
