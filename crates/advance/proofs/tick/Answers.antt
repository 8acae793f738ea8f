-- `tick` meets its contract: the clock into the record, and its register. Assumes nothing.
use mathlib.Core.Path.{ap, ◌∙◌}
use native.Mathlib.Omega.{arith}
use borrow.Author.Rules.{rules}
use Rattle.clock.specs.declared.Clock.{Clock}
use Rattle.clock.specs.Clock.{advance_of}
use Rattle.record.proofs.Replaced.{regs-lent}
use Rattle.advance.proofs.Outcomes.{ticks}
use Rattle.advance.proofs.tick.Goals as goal

pub load_clock-c-requires : goal.load_clock-c-requires
load_clock-c-requires c =
    omega arith

pub returns : goal.returns
returns c =
    let put = c.put in
    let shown = c.shown-shown in
    let back = c.replace_clock in
    let next = c.advance-next in
    let a = c.args in
    let device₁ = back.new.into in
    ticks a.nanos a.device.now device₁ _ next.result (next.ensures ∙ ap (λ (k : Clock). advance_of k a.nanos) c.load_clock-c.ensures) back.ensures shown.result shown.ensures
    put.new.s put.ensures
    (regs-lent device₁ back.ensures.device (λ i. (c.slice_known-2-1.given i).fits) put.new.s put.auto.s)
