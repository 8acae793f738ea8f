-- `size` is `size_of`. The loop's invariant: the bytes so far and those of the streams left are all.
use Prim.Native.Nat.{◌+◌, ◌-◌}
use mathlib.Core.Path.{◌≡◌}
use Rattle.stream.specs.Box.{streams}
use Rattle.snapshot.specs.States.{sizes_of, size_of}
use Rattle.snapshot.proofs.size.Given as goal

abbrev pub invariant-loop-index : goal.invariant-loop-index
invariant-loop-index l =
    l.bytes + sizes_of (streams - l.index) l.index l.hda ≡ size_of l.hda
