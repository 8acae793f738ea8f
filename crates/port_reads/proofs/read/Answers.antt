-- `read` is its definition: unreadable, or the read of what the records hold. Assumes nothing.
use mathlib.Core.Path.{sym, ◌∙◌}
use borrow.Author.Rules.{rules}
use borrow.Author.Tests.{not-true, not-false}
use lib.ListN.{length}
use Rattle.reply.proofs.Records.{device-sized, host-fits}
use Rattle.port_reads.proofs.Outcomes.{read-unreadable, read_done}
use Rattle.port_reads.proofs.read.Goals as goal

pub returns-then-not-is_machine : goal.returns-then-not-is_machine
returns-then-not-is_machine c =
    let a = c.args in
    read-unreadable a.device.now a.host.now a.lists.now (length a.queues.now) (sym c.is_machine.ensures ∙ c.if-not-is_machine.true)
    c.unreadable.result c.unreadable.ensures a.offset a.into.now

pub load_host-h-requires : goal.load_host-h-requires
load_host-h-requires c =
    let a = c.args in
    host-fits a.device.now a.host.now (sym c.is_machine.ensures ∙ c.if-not-is_machine.false)

pub read-s-requires : goal.read-s-requires
read-s-requires c =
    let a = c.args in
    device-sized a.device.now a.host.now (sym c.is_machine.ensures ∙ c.if-not-is_machine.false)

pub returns : goal.returns
returns c =
    let s = c.read-s in
    let h = c.load_host-h in
    let a = c.args in
    read_done a.device.now a.host.now a.lists.now (length a.queues.now) (sym c.is_machine.ensures ∙ c.if-not-is_machine.false)
    h.result h.ensures c.reply.result a.into.now s.new.into s.result c.reply.ensures a.offset s.ensures
