-- `put_streams` puts `streams_bytes`. The loop's invariant: the streams left, put at their place, give what all of them give.
use Prim.Native.Nat.{◌+◌, ◌-◌, ◌*◌}
use mathlib.Core.Path.{◌≡◌}
use Rattle.word.specs.Place.{put_at}
use Rattle.stream.specs.Box.{streams}
use Rattle.record.specs.Devices.{streams_bytes}
use Rattle.record.proofs.put_streams.Given as goal

abbrev pub invariant-loop-index : goal.invariant-loop-index
invariant-loop-index l =
    put_at (680 + 34 * l.index) (streams_bytes (streams - l.index) l.index l.bank) l.into ≡ put_at 680 (streams_bytes streams 0 l.bank) l.initial.into
