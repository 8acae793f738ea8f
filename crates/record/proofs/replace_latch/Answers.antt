-- `replace_latch` sets the record's last byte. Assumes nothing.
use lib.ListN.{length-set}
use Rattle.record.proofs.Replaced.{latch-held}
use Rattle.record.proofs.replace_latch.Goals as goal

pub shape_of-into : goal.shape_of-into
shape_of-into c =
    length-set c.args.into.now _ c.flag_byte.result

pub returns : goal.returns
returns c =
    let a = c.args in
    latch-held a.into.now c.requires.1 (λ i. (c.slice_known-1.given i).fits) a.asserted c.flag_byte.result c.flag_byte.ensures
