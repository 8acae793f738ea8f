-- `replace_stream` puts a stream's numbers over those in the record. Assumes nothing.
use native.Mathlib.Omega.{arith}
use Rattle.record.proofs.Held.{stream-held}
use Rattle.record.proofs.Replaced.{stream-put}
use Rattle.record.proofs.replace_stream.Goals as goal

pub returns : goal.returns
returns c =
    let a = c.args in
    stream-put a.into.now c.requires.1 (λ i. (c.slice_known-1.given i).fits) a.index a.s c.requires.2 (stream-held a.s _ c.well_formed.1.1.0 (omega (arith, c.requires.3)))
    c.put_numbers.new.into c.put_numbers.ensures
