-- `put_stream` puts `stream_of`: the numbers, then the positions' bytes.
use Prim.Native.Nat.{◌+◌, ◌*◌}
use mathlib.Core.Path.{sym}
use native.Mathlib.Omega.{arith}
use lib.Seq.{length-take-le}
use Rattle.record.specs.Devices.{numbers_of}
use Rattle.record.proofs.Puts.{put_then}
use Rattle.record.proofs.Sizes.{length-numbers}
use Rattle.snapshot.specs.States.{stream_of}
use Rattle.snapshot.proofs.put_stream.Goals as goal

pub slice_bounds-put-end : goal.slice_bounds-put-end
slice_bounds-put-end c =
    sym (length-take-le (8 * c.args.s.pending) c.args.list.now c.requires.0)

pub put-requires : goal.put-requires
put-requires c =
    omega (arith, length-take-le (8 * c.args.s.pending) c.args.list.now c.requires.0)

pub returns : goal.returns
unfolding stream_of
returns c =
    let at = c.args.at in
    let s = c.args.s in
    put_then at (at + 34) _ c.args.into.now (omega arith) (numbers_of s) (omega (arith, length-numbers s)) c.put_numbers.ensures
    c.put.ensures
