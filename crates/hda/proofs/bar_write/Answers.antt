-- `bar_write` meets its contract: the registers' write, or none. Assumes nothing.
use mathlib.Core.Path.{◌∙◌}
use Rattle.device.specs.Machines.{Machine, machine, done_of}
use Rattle.hda.proofs.Changing.{bar-registers, bar-dropped}
use Rattle.hda.proofs.bar_write.Goals as goal

pub returns-then-bar-eq0 : goal.returns-then-bar-eq0
returns-then-bar-eq0 c =
    let w = c.write in
    let a = c.args in
    bar-registers a.bar a.offset a.bytes.now (machine a.hda a.host a.lists.now a.queues.now a.memory.now)
    (done_of w.result a.lists.now a.queues.now w.new.memory) c.if-bar-eq0.true w.ensures

pub returns : goal.returns
returns c =
    let a = c.args in
    let x : Machine = machine a.hda a.host a.lists.now a.queues.now a.memory.now in
    bar-dropped a.bar a.offset a.bytes.now x c.outcome_number-number.result c.answer.result c.if-bar-eq0.false
    (c.outcome_number-number.ensures ∙ c.check.ensures) c.answer.ensures
