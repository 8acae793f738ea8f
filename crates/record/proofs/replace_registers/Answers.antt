-- `replace_registers` puts the registers over those in the record. Assumes nothing.
use native.Mathlib.Omega.{arith}
use Rattle.record.proofs.Replaced.{regs-held}
use Rattle.record.proofs.replace_registers.Goals as goal

pub returns : goal.returns
returns c =
    let a = c.args in
    regs-held a.into.now c.requires.1 (λ i. (c.slice_known-1.given i).fits) a.regs.now (omega arith) c.put.new.into c.put.ensures
