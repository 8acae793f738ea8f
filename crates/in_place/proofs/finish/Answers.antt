-- `finish` meets its contract: what the interrupt comes to, each part into its place of the record. Assumes nothing.
use native.Mathlib.Omega.{arith}
use Rattle.record.proofs.Theorems.{file-sized}
use Rattle.record.proofs.Replaced.{config-lent, regs-lent}
use Rattle.in_place.proofs.Steps.{finished}
use Rattle.in_place.proofs.finish.Goals as goal

pub replace_latch-requires : goal.replace_latch-requires
replace_latch-requires c =
    let b = c.args.device.now in
    let h₁ = config-lent b c.requires.1 (λ i. (c.slice_known-1.given i).fits) c.show.new.config c.show.auto.config in
    let h₂ = regs-lent _ h₁.device (λ i. (c.slice_known-2-1.given i).fits) c.put.new.s c.put.auto.s in
    (omega (arith, c.requires.0), h₂.device)

pub returns : goal.returns
returns c =
    let latch = c.replace_latch in
    let irq = c.interrupt_of-now in
    let asserted = c.is_asserted-asserted in
    let b = c.args.device.now in
    let h₁ = config-lent b c.requires.1 (λ i. (c.slice_known-1.given i).fits) c.show.new.config c.show.auto.config in
    let h₂ = regs-lent _ h₁.device (λ i. (c.slice_known-2-1.given i).fits) c.put.new.s c.put.auto.s in record {
      device_after = finished b (file-sized b c.requires.1 262 (omega arith)) asserted.result asserted.ensures irq.result irq.ensures c.show.new.config _ c.show.ensures h₁ c.put.new.s _
          c.put.ensures h₂ latch.new.into latch.ensures;
      device_after_2 = latch.ensures.device;
    }
