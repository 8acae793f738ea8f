-- `config_read` is its definition: unreadable, or the register of what the records hold. Assumes nothing.
use mathlib.Core.Path.{sym, ◌∙◌}
use borrow.Author.Rules.{rules}
use borrow.Author.Tests.{not-true, not-false}
use lib.ListN.{length}
use Rattle.reply.proofs.Records.{device-sized, host-fits}
use Rattle.port_reads.proofs.Outcomes.{config-unreadable, config-done}
use Rattle.port_reads.proofs.config_read.Goals as goal

pub returns-then-not-is_machine : goal.returns-then-not-is_machine
returns-then-not-is_machine c =
    let a = c.args in
    config-unreadable a.device.now a.host.now a.lists.now (length a.queues.now) (sym c.is_machine.ensures ∙ c.if-not-is_machine.true)
    c.unreadable.result c.unreadable.ensures a.register

pub load_host-h-requires : goal.load_host-h-requires
load_host-h-requires c =
    let a = c.args in
    host-fits a.device.now a.host.now (sym c.is_machine.ensures ∙ c.if-not-is_machine.false)

pub config_read-v-requires : goal.config_read-v-requires
config_read-v-requires c =
    let a = c.args in
    device-sized a.device.now a.host.now (sym c.is_machine.ensures ∙ c.if-not-is_machine.false)

pub returns : goal.returns
returns c =
    let v = c.config_read-v in
    let h = c.load_host-h in
    let a = c.args in
    config-done a.device.now a.host.now a.lists.now (length a.queues.now) (sym c.is_machine.ensures ∙ c.if-not-is_machine.false)
    h.result h.ensures c.reply.result a.register v.result v.ensures c.reply.ensures
