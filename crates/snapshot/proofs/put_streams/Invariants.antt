-- `put_streams` puts `streams_of`. The loop's invariant: the streams left, put at `at`, give what all of them give, `at` and their bytes are the whole size, and
-- no length changed.
use Prim.Native.Nat.{◌+◌, ◌-◌}
use mathlib.Core.Path.{◌≡◌}
use Rattle.word.specs.Place.{put_at}
use Rattle.stream.specs.Box.{streams}
use Rattle.snapshot.specs.States.{streams_of, sizes_of, size_of}
use Rattle.snapshot.proofs.put_streams.Given as goal

abbrev pub invariant-loop-index : goal.invariant-loop-index
invariant-loop-index l =
    (l.at + sizes_of (streams - l.index) l.index l.hda ≡ size_of l.hda)
    × (put_at l.at (streams_of (streams - l.index) l.index l.hda l.lists) l.into ≡ put_at 680 (streams_of streams 0 l.hda l.lists) l.initial.into)
