-- `save` is its definition: unreadable, or the saved state of what the records hold. Assumes nothing.
use mathlib.Core.Path.{sym, ◌∙◌}
use borrow.Author.Rules.{rules}
use borrow.Author.Tests.{not-true, not-false}
use lib.ListN.{length}
use Rattle.reply.proofs.Records.{device-fits, host-fits}
use Rattle.port_reads.proofs.Outcomes.{save-unreadable, save-done}
use Rattle.port_reads.proofs.save.Goals as goal

pub returns-then-not-is_machine : goal.returns-then-not-is_machine
returns-then-not-is_machine c =
    let a = c.args in
    save-unreadable a.device.now a.host.now a.lists.now (length a.queues.now) (sym c.is_machine.ensures ∙ c.if-not-is_machine.true)
    c.unreadable.result c.unreadable.ensures a.into.now

pub load_device-d-requires : goal.load_device-d-requires
load_device-d-requires c =
    let a = c.args in
    device-fits a.device.now a.host.now (sym c.is_machine.ensures ∙ c.if-not-is_machine.false)

pub load_host-h-requires : goal.load_host-h-requires
load_host-h-requires c =
    let a = c.args in
    host-fits a.device.now a.host.now (sym c.is_machine.ensures ∙ c.if-not-is_machine.false)

pub returns : goal.returns
returns c =
    let s = c.save-s in
    let h = c.load_host-h in
    let d = c.load_device-d in
    let a = c.args in
    save-done a.device.now a.host.now a.lists.now (length a.queues.now) (sym c.is_machine.ensures ∙ c.if-not-is_machine.false)
    h.result h.ensures c.reply.result d.result d.ensures a.into.now s.new.into s.result s.ensures c.reply.ensures
