-- Behind the check, the call's step.
use Rattle.std.proofs.Common.{refl}
use Rattle.device.specs.Machines.{Machine, machine, done_of}
use Rattle.write.proofs.Checked.{turned_away, called, few}
use Rattle.hda.specs.Calls.{pin_step, pin_of}
use Rattle.hda.proofs.pin_presence_changed.Goals as goal

pub returns-in-Err : goal.returns-in-Err
unfolding pin_of
returns-in-Err c =
    let a = c.args in
    let x : Machine = machine a.hda a.host a.lists.now a.queues.now a.memory.now in
    turned_away (pin_step a.node) x c.in-Err.refusal c.number.result c.answer.result c.number.ensures c.in-Err.ensures c.answer.ensures

pub pin_step-requires : goal.pin_step-requires
pin_step-requires c =
    let a = c.args in
    let x : Machine = machine a.hda a.host a.lists.now a.queues.now a.memory.now in
    few x 0 c.in_default.ensures refl

pub returns : goal.returns
unfolding pin_of
returns c =
    let a = c.args in
    let s = c.pin_step in
    let x : Machine = machine a.hda a.host a.lists.now a.queues.now a.memory.now in
    called (pin_step a.node) x 0 c.in_default.ensures
    (done_of s.result a.lists.now a.queues.now s.new.memory) refl (s.ensures a.lists.now a.queues.now)
