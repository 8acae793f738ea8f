-- `Codec::store` is `store_codec_at`: each turn puts one record, and after six none is left.
use Rattle.std.proofs.Common.{◌≡◌, ◌+◌, ap, sym, ◌∙◌, arith}
use Rattle.codec.proofs.Values.{held-well-formed}
use Rattle.codec.proofs.Bytes.{put_from, put_all, put_next, put-none}
use Rattle.codec.proofs.Codec.store.Goals as goal

pub loop-i-init : goal.loop-i-init
loop-i-init c =
    let a = c.args in put_all a.at a.self a.bytes.now

pub loop-i-preserved : goal.loop-i-preserved
loop-i-preserved c =
    let a = c.args in
    let l = c.loop-i in
    ap (put_from (l.i + 1) a.at a.self) c.store_node.ensures
    ∙ put_next a.self (held-well-formed a.self _ c.well_formed.0) a.at l.bytes l.i (omega arith) (omega arith)
    ∙ l.invariant

pub returns : goal.returns
returns c =
    let a = c.args in
    let all : c.loop-i.i ≡ 6 = omega arith in
    sym (put-none a.self (held-well-formed a.self _ c.well_formed.0) a.at c.loop-i.bytes) ∙ (rw all at c.loop-i.invariant)
