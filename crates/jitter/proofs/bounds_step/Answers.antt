-- `bounds_step` meets its contract. Assumes nothing.
use mathlib.Core.Path.{◌∙◌}
use Rattle.device.specs.Machines.{machine}
use Rattle.record.specs.Loads.{device_at}
use Rattle.jitter.proofs.Outcomes.{cleared-same, result-put}
use borrow.Author.Rules.{rules}
use Rattle.jitter.proofs.bounds_step.Goals as goal

pub returns : goal.returns
returns c =
    let a = c.args in
    let x = machine (device_at a.device.now) a.host a.lists.now a.queues.now a.memory.now in
    let w = c.spread_of-spread in
    record { into_after = c.put_result.ensures ∙ result-put w.result x a.shortest a.longest a.into.now w.ensures; memory2_after = c.clear.ensures ∙ cleared-same w.new.lists2 w.new.queues2 w.new.memory2 a.lists2.now a.queues2.now a.memory2.now w.auto.lists2 w.auto.queues2 w.auto.memory2 }
