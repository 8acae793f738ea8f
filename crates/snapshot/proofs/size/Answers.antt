-- `size` is `size_of`. The loop's invariant: the bytes so far and those of the streams left are all. The measure is the number of streams left.
use mathlib.Core.Path.{refl}
use native.Mathlib.Omega.{arith}
use Rattle.stream.specs.Streams.{fresh_of}
use Rattle.stream.specs.Box.{streams}
use Rattle.snapshot.specs.States.{size_of}
use Rattle.snapshot.proofs.Sizes.{size-bound}
use Rattle.snapshot.proofs.Turns.{sizes-next, sizes-end}
use Rattle.snapshot.proofs.size.Goals as goal

pub loop-index-init : goal.loop-index-init
unfolding size_of
loop-index-init c =
    refl

pub overflow_add-bytes : goal.overflow_add-bytes
unfolding fresh_of
overflow_add-bytes c =
    let d = c.args.hda in
    omega (arith, sizes-next d streams c.loop-index.index (omega arith), size-bound d c.requires)

pub loop-index-preserved : goal.loop-index-preserved
unfolding fresh_of
loop-index-preserved c =
    omega (arith, sizes-next c.args.hda streams c.loop-index.index (omega arith))

pub returns : goal.returns
returns c =
    omega (arith, sizes-end c.args.hda streams c.loop-index.index (omega arith))
