-- `opens` is `opens_of`: the stream's control byte, and the microphone for an input.
use Prim.Native.Nat.{◌+◌, ◌*◌}
use mathlib.Core.Path.{◌≡◌}
use native.Mathlib.Omega.{arith}
use Rattle.restore.proofs.opens.Goals as goal

pub returns : goal.returns
returns c =
    let i = c.args.index in
    let place : 390 + 32 * i ≡ 262 + (128 + 32 * i) = omega arith in
    rw (c.is_capture.ensures, place)
