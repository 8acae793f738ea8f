-- `blocks_into` meets its contract. The frames before i are done. Assumes nothing.
use mathlib.Core.Path.{◌∙◌}
use Prim.Native.Nat.{◌+◌, ◌*◌, ◌≤◌}
use native.Mathlib.Omega.{arith}
use Rattle.gain.proofs.Passes.{block-done}
use Rattle.gain.proofs.blocks_into.Goals as goal

pub loop-i-preserved : goal.loop-i-preserved
loop-i-preserved c =
    let sides = c.scale_frames in
    let l = c.loop-i in
    let known = l.invariant in
    let a = c.args in
    let n = c.block_of-n.result in
    let ahead : l.i + 4 * n ≤ a.whole = omega (arith, c.block_of-n.ensures, known.inside) in
    record {
      inside = ahead;
      aligned = omega (arith, known.aligned);
      lefts = sides.auto.lefts ∙ known.lefts;
      rights = sides.auto.rights ∙ known.rights;
      done = block-done a.left a.right n l.i a.pcm.now sides.new.lefts sides.new.rights l.into c.scatter.new.pcm known.aligned (omega arith) sides.ensures.0 sides.ensures.1 c.scatter.ensures known.done;
    }
