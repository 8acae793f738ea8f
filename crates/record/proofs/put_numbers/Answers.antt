-- `put_numbers` puts `numbers_of`: three numbers, one behind the other, then the counts.
use Prim.Native.Nat.{◌+◌}
use mathlib.Core.Path.{refl}
use native.Mathlib.Omega.{arith}
use Rattle.record.specs.Devices.{numbers_of}
use Rattle.record.proofs.Puts.{store_then}
use Rattle.record.proofs.put_numbers.Goals as goal

pub returns : goal.returns
unfolding numbers_of
returns c =
    let at = c.args.at in
    let s = c.args.s in
    store_then at (at + 2) _ c.args.into.now (omega arith) 2 s.descriptor refl c.put_low.ensures
    (store_then (at + 2) (at + 6) _ c.put_low.new.into (omega arith) 4 s.offset (omega arith) c.put.ensures
    (store_then (at + 6) (at + 14) _ c.put.new.s (omega arith) 8 s.submitted (omega arith) c.put-2.ensures
    c.put_counts.ensures))
