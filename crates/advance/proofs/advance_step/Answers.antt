-- `advance_step` meets its contract: the clock, the commands, and what follows them. Assumes nothing.
use mathlib.Core.Path.{◌∙◌}
use borrow.Author.Rules.{rules}
use Rattle.record.proofs.Theorems.{record-sized}
use Rattle.advance.proofs.Outcomes.{ticked-few, step-on, serve-needs}
use Rattle.advance.proofs.advance_step.Goals as goal

pub commands-requires : goal.commands-requires
commands-requires c =
    let t = c.tick in
    let a = c.args in
    (record-sized _ t.ensures.device, t.ensures.device, ticked-few a.nanos a.device.now a.host a.lists.now a.queues.now a.memory.now t.new.device t.ensures c.requires.3)

pub after_commands-requires : goal.after_commands-requires
after_commands-requires c =
    let k = c.commands in
    let t = c.tick in
    let a = c.args in (
      record-sized _ k.ensures.device_after,
      k.ensures.device_after,
      serve-needs a.nanos a.device.now a.host a.lists.now a.queues.now a.memory.now t.new.device t.ensures k.new.device k.new.memory
          k.ensures.memory_after c.requires.4,
    )

pub returns : goal.returns
returns c =
    let after = c.after_commands in
    let k = c.commands in
    let t = c.tick in
    let a = c.args in record {
      memory_after = after.ensures.memory_after
          ∙ step-on a.nanos a.device.now a.host a.lists.now a.queues.now a.memory.now t.new.device t.ensures k.new.device k.new.memory k.ensures.memory_after c.requires.2;
      device_after = after.ensures.device_after;
    }
