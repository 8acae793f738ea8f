-- `restored_streams` is `restored_streams`. The loop's invariant: `at` is the place of the next stream; the streams filled so far, and those left, are all.
use Prim.Native.Nat.{◌-◌}
use mathlib.Core.Path.{◌≡◌}
use mathlib.Core.List.{◌++◌}
use lib.ListN.{length, take}
use Rattle.stream.specs.Box.{streams}
use Rattle.parse.specs.States.{place_of}
use Rattle.restore.specs.Restores.{restored_streams}
use Rattle.restore.proofs.restored_streams.Given as goal

abbrev pub invariant-loop-index : goal.invariant-loop-index
invariant-loop-index l =
    (length l.loaded ≡ streams)
    × (l.at ≡ place_of l.state l.index)
    × (take l.index l.loaded ++ restored_streams l.strict (streams - l.index) l.index l.state ≡ restored_streams l.strict streams 0 l.state)
