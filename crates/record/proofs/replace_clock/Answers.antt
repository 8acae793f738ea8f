-- `replace_clock` puts the clock's two numbers over those in the record. Assumes nothing.
use Rattle.record.proofs.Replaced.{clock-held}
use Rattle.record.proofs.replace_clock.Goals as goal

pub returns : goal.returns
returns c =
    let a = c.args in
    clock-held a.into.now c.requires.1 (λ i. (c.slice_known-1.given i).fits) a.c c.well_formed.1.0.1.1.0.1 c.well_formed.1.0.1.1.1.0.1
    c.put.new.s c.put-2.new.s c.put.ensures c.put-2.ensures
