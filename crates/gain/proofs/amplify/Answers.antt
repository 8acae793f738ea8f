-- `amplify` meets its contract: whole frames, then the rest. Assumes nothing.
use mathlib.Core.Path.{◌∙◌}
use Prim.Native.Nat.{◌-◌, ◌%◌}
use native.Mathlib.Omega.{arith}
use lib.ListN.{length}
use Rattle.gain.proofs.Passes.{rest-done}
use Rattle.gain.proofs.amplify.Goals as goal

pub returns : goal.returns
returns c =
    let a = c.args in
    let size = length a.pcm.now in
    c.scale_rest.ensures
    ∙ rest-done a.left a.right (size - size % 4) a.pcm.now c.frames_in_place.new.pcm (omega arith) (omega arith) c.frames_in_place.auto.pcm c.frames_in_place.ensures.0 c.frames_in_place.ensures.1
