-- Behind the check, the call's step.
use Rattle.std.proofs.Common.{refl}
use Rattle.device.specs.Machines.{Machine, machine, done_of}
use Rattle.write.proofs.Checked.{turned_away, called, few}
use Rattle.hda.specs.Calls.{config_write_step, config_write_of}
use Rattle.hda.proofs.config_write.Goals as goal

pub returns-in-Err : goal.returns-in-Err
unfolding config_write_of
returns-in-Err c =
    let a = c.args in
    let x : Machine = machine a.hda a.host a.lists.now a.queues.now a.memory.now in
    turned_away (config_write_step a.register a.offset a.bytes.now) x c.in-Err.refusal c.number.result c.answer.result c.number.ensures c.in-Err.ensures c.answer.ensures

pub config_write_step-requires : goal.config_write_step-requires
config_write_step-requires c =
    let a = c.args in
    let x : Machine = machine a.hda a.host a.lists.now a.queues.now a.memory.now in
    few x 0 c.in_default.ensures refl

pub returns : goal.returns
unfolding config_write_of
returns c =
    let a = c.args in
    let s = c.config_write_step in
    let x : Machine = machine a.hda a.host a.lists.now a.queues.now a.memory.now in
    called (config_write_step a.register a.offset a.bytes.now) x 0 c.in_default.ensures
    (done_of s.result a.lists.now a.queues.now s.new.memory) refl (s.ensures a.lists.now a.queues.now)
