-- `after_commands` meets its contract: the turns, then the interrupt. Assumes nothing.
use borrow.Author.Rules.{rules}
use Rattle.device.specs.Machines.{machine}
use Rattle.record.specs.Loads.{device_at}
use Rattle.record.proofs.Theorems.{record-sized}
use Rattle.advance.proofs.Outcomes.{after-done}
use Rattle.advance.proofs.after_commands.Goals as goal

pub finish-ended-requires : goal.finish-ended-requires
finish-ended-requires c =
    let t = c.turns-r in (record-sized _ t.ensures.device_after, t.ensures.device_after)

pub returns : goal.returns
returns c =
    let e = c.finish-ended in
    let t = c.turns-r in
    let a = c.args in record {
      memory_after = after-done a.nanos (machine (device_at a.device.now) a.host a.lists.now a.queues.now a.memory.now) t.result t.new.device t.new.lists t.new.queues t.new.memory e.result e.new.device
          c.number_of.result t.ensures.memory_after e.ensures.device_after c.number_of.ensures;
      device_after = e.ensures.device_after_2;
    }
