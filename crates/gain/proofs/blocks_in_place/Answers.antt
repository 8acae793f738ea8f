-- `blocks_in_place` meets its contract. The frames before i are done, and the others as they were. Assumes nothing.
use mathlib.Core.Path.{◌∙◌}
use Prim.Native.Nat.{◌+◌, ◌*◌, ◌≤◌}
use native.Mathlib.Omega.{arith}
use Rattle.gain.proofs.Passes.{block-done, same-scaled}
use Rattle.gain.proofs.blocks_in_place.Goals as goal

pub loop-i-preserved : goal.loop-i-preserved
loop-i-preserved c =
    let sides = c.scale_frames in
    let l = c.loop-i in
    let known = l.invariant in
    let a = c.args in
    let n = c.block_of-n.result in
    let xs = a.pcm.now in
    let ahead : l.i + 4 * n ≤ a.whole = omega (arith, c.block_of-n.ensures, known.inside) in
    let left = same-scaled n a.left xs l.pcm l.i l.i sides.new.lefts (omega arith) known.rest sides.ensures.0 in
    let right = same-scaled n a.right xs l.pcm l.i (l.i + 2) sides.new.rights (omega arith) known.rest sides.ensures.1 in
    record {
      inside = ahead;
      aligned = omega (arith, known.aligned);
      lefts = sides.auto.lefts ∙ known.lefts;
      rights = sides.auto.rights ∙ known.rights;
      done = block-done a.left a.right n l.i xs sides.new.lefts sides.new.rights l.pcm c.scatter.new.pcm known.aligned (omega arith) left right c.scatter.ensures known.done;
      rest = λ m h. c.scatter.ensures.2 m h ∙ known.rest m (omega arith);
    }
