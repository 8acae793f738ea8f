-- `advance` is `behind` `advance_of`: unreadable, or the call on the record, with the host end stored. Assumes nothing.
use mathlib.Core.Path.{sym, ◌∙◌}
use Rattle.advance.specs.Advance.{advance_of}
use Rattle.reply.proofs.Records.{machine-device, device-sized, host-sized, host-fits}
use Rattle.port_device.specs.Calls.{lent}
use Rattle.port_device.proofs.Outcomes.{unreadable-outcome, advanced-outcome}
use Rattle.port_device.proofs.advance.Goals as goal

pub returns-then-not-is_machine : goal.returns-then-not-is_machine
returns-then-not-is_machine c =
    let a = c.args in
    unreadable-outcome (advance_of a.nanos) (lent a.device.now a.host.now a.lists.now a.queues.now a.memory.now)
    (sym c.is_machine.ensures ∙ c.if-not-is_machine.true) c.unreadable.result c.unreadable.ensures

pub load_host-h-requires : goal.load_host-h-requires
load_host-h-requires c =
    let a = c.args in
    host-fits a.device.now a.host.now (sym c.is_machine.ensures ∙ c.if-not-is_machine.false)

pub advance-passed-requires : goal.advance-passed-requires
advance-passed-requires c =
    let a = c.args in
    let r = sym c.is_machine.ensures ∙ c.if-not-is_machine.false in
    (device-sized a.device.now a.host.now r, machine-device a.device.now a.host.now r)

pub store_host-requires : goal.store_host-requires
store_host-requires c =
    let a = c.args in
    host-sized a.device.now a.host.now (sym c.is_machine.ensures ∙ c.if-not-is_machine.false)

pub returns : goal.returns
returns c =
    let s = c.store_host in
    let k = c.advance-passed in
    let h = c.load_host-h in
    let a = c.args in
    advanced-outcome a.nanos (lent a.device.now a.host.now a.lists.now a.queues.now a.memory.now) (sym c.is_machine.ensures ∙ c.if-not-is_machine.false)
    h.result h.ensures k.result k.new.device k.new.lists k.new.queues k.new.memory k.ensures.device_after (λ i. (c.type_inv.device i).fits) k.ensures.memory_after s.new.into s.ensures c.is_sent.result
    c.is_sent.ensures c.reply.result c.reply.ensures
