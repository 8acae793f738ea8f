-- `write` meets its contract: behind the check, the write's step. Assumes nothing.
use mathlib.Core.Path.{refl}
use Rattle.device.specs.Machines.{Machine, machine, done_of}
use Rattle.write.specs.Writes.{write_step, write_of}
use Rattle.write.proofs.Checked.{turned_away, called, few}
use Rattle.write.proofs.write.Goals as goal

pub returns-in-Err : goal.returns-in-Err
unfolding write_of
returns-in-Err c =
    let a = c.args in
    let x : Machine = machine a.hda a.host a.lists.now a.queues.now a.memory.now in
    turned_away (write_step a.offset a.bytes.now) x c.in-Err.refusal c.number.result c.answer.result c.number.ensures c.in-Err.ensures c.answer.ensures

pub write_step-requires : goal.write_step-requires
write_step-requires c =
    let a = c.args in
    let x : Machine = machine a.hda a.host a.lists.now a.queues.now a.memory.now in
    few x 0 c.in_default.ensures refl

pub returns : goal.returns
unfolding write_of
returns c =
    let a = c.args in
    let s = c.write_step in
    let x : Machine = machine a.hda a.host a.lists.now a.queues.now a.memory.now in
    called (write_step a.offset a.bytes.now) x 0 c.in_default.ensures
    (done_of s.result a.lists.now a.queues.now s.new.memory) refl (s.ensures a.lists.now a.queues.now)
