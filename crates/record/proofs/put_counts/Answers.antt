-- `put_counts` puts `counts_of`: three numbers, one behind the other.
use Prim.Native.Nat.{◌+◌}
use mathlib.Core.Path.{refl, ◌∙◌}
use native.Mathlib.Omega.{arith}
use Rattle.word.proofs.Place.{store-put}
use Rattle.record.proofs.Puts.{store_then}
use Rattle.record.proofs.put_counts.Goals as goal

pub returns : goal.returns
returns c =
    let at = c.args.at in
    let s = c.args.s in
    store_then at (at + 8) _ c.args.into.now (omega arith) 8 s.consumed refl c.put.ensures
    (store_then (at + 8) (at + 16) _ c.put.new.s (omega arith) 8 s.fraction (omega arith) c.put-2.ensures
    (c.put-3.ensures ∙ store-put 4 (at + 16) s.pending c.put-2.new.s))
