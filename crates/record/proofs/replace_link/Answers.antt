-- `replace_link` puts codec and responses over those in the record. Assumes nothing.
use Rattle.codec.proofs.Values.{held-well-formed}
use Rattle.record.proofs.Replaced.{link-held}
use Rattle.record.proofs.replace_link.Goals as goal

pub returns : goal.returns
returns c =
    let a = c.args in
    link-held a.into.now c.requires.1 (λ i. (c.slice_known-1.given i).fits) a.link (held-well-formed a.link.codec _ c.well_formed.1.0.1.1.0) c.requires.2
    c.store.new.bytes c.put_low.new.into c.store.ensures c.put_low.ensures
