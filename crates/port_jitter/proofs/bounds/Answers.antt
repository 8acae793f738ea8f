-- `bounds` is its definition: unreadable, or the call on what the records hold. Assumes nothing.
use mathlib.Core.Path.{sym, ◌∙◌}
use borrow.Author.Tests.{not-true, not-false}
use Rattle.jitter.specs.Calls.{scratch}
use Rattle.reply.proofs.Records.{machine-device, device-sized, host-fits}
use Rattle.port_jitter.proofs.Outcomes.{unreadable, done}
use borrow.Author.Rules.{rules}
use Rattle.port_jitter.proofs.bounds.Goals as goal

pub returns-then-not-is_machine : goal.returns-then-not-is_machine
returns-then-not-is_machine c =
    let a = c.args in
    unreadable a.shortest a.longest a.device.now a.host.now a.lists.now a.queues.now a.memory.now (scratch a.lists2.now a.queues2.now a.memory2.now) a.into.now c.unreadable.result
    (sym c.is_machine.ensures ∙ c.if-not-is_machine.true) c.unreadable.ensures

pub load_host-h-requires : goal.load_host-h-requires
load_host-h-requires c =
    let a = c.args in
    host-fits a.device.now a.host.now (sym c.is_machine.ensures ∙ c.if-not-is_machine.false)

pub bounds-b-requires : goal.bounds-b-requires
bounds-b-requires c =
    let a = c.args in
    let is = sym c.is_machine.ensures ∙ c.if-not-is_machine.false in
    (device-sized a.device.now a.host.now is, machine-device a.device.now a.host.now is)

pub returns : goal.returns
returns c =
    let a = c.args in
    let b = c.bounds-b in
    done a.shortest a.longest a.device.now a.host.now a.lists.now a.queues.now a.memory.now (scratch a.lists2.now a.queues2.now a.memory2.now) a.into.now c.reply.result
    (sym c.is_machine.ensures ∙ c.if-not-is_machine.false) c.load_host-h.result c.load_host-h.ensures b.result (scratch b.new.lists2 b.new.queues2 b.new.memory2) b.new.into b.ensures c.reply.ensures
