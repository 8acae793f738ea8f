-- `put_link` puts `link_bytes`: the codec, the clock's two numbers and the responses, one behind the other.
use Prim.Native.Nat.{◌+◌}
use mathlib.Core.Path.{◌≡◌, refl, ◌∙◌}
use native.Mathlib.Omega.{arith}
use lib.ListN.{length}
use Rattle.word.proofs.Place.{store-put}
use Rattle.codec.specs.Bytes.{records_of, store_codec_at}
use Rattle.codec.proofs.Bytes.{length-records}
use Rattle.record.proofs.Puts.{put_then, store_then}
use Rattle.record.proofs.Held.{held-sized}
use Rattle.record.proofs.put_link.Goals as goal

pub returns : goal.returns
unfolding store_codec_at
returns c =
    let d = c.args.hda in
    let six : 662 ≡ 518 + length (records_of d.link.codec) = omega (arith, length-records d.link.codec (held-sized d _ c.well_formed.0).codec) in
    put_then 518 662 _ c.args.into.now (omega arith) (records_of d.link.codec) six c.store.ensures
    (store_then 662 670 _ c.store.new.bytes (omega arith) 8 d.clock.ticks refl c.put.ensures
    (store_then 670 678 _ c.put.new.s (omega arith) 8 d.clock.fraction refl c.put-2.ensures
    (c.put_low.ensures ∙ store-put 2 678 d.link.responses c.put-2.new.s)))
