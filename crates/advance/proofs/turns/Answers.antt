-- `turns` meets its contract: none without DMA. Assumes nothing.
use mathlib.Core.Path.{sym, ◌∙◌}
use borrow.Author.Rules.{rules}
use borrow.Author.Tests.{not-true, not-false}
use Rattle.device.specs.Machines.{machine}
use Rattle.record.specs.Loads.{device_at}
use Rattle.advance.proofs.Outcomes.{turns-off, turns-on}
use Rattle.advance.proofs.turns.Goals as goal

pub returns-then-not-dma_enabled : goal.returns-then-not-dma_enabled
unfolding device_at
returns-then-not-dma_enabled c =
    let a = c.args in
    record { memory_after = turns-off a.nanos (machine (device_at a.device.now) a.host a.lists.now a.queues.now a.memory.now) (sym c.dma_enabled.ensures ∙ c.if-not-dma_enabled.true); device_after = c.requires.1 }

pub returns : goal.returns
unfolding device_at
returns c =
    let s = c.serve in
    let a = c.args in record {
      memory_after = s.ensures.memory_after
          ∙ turns-on a.nanos (machine (device_at a.device.now) a.host a.lists.now a.queues.now a.memory.now) (sym c.dma_enabled.ensures ∙ c.if-not-dma_enabled.false);
      device_after = s.ensures.device_after;
    }
