-- `set_paused` is `paused_of`: unreadable, or the pause on what the records hold.
use mathlib.Core.Path.{sym, ◌∙◌}
use lib.ListN.{length}
use Rattle.reply.proofs.Records.{device-sized, device-fits, host-fits}
use Rattle.port_device.proofs.Outcomes.{paused-unreadable, paused-done}
use Rattle.port_device.proofs.set_paused.Goals as goal

pub returns-then-not-is_machine : goal.returns-then-not-is_machine
returns-then-not-is_machine c =
    let a = c.args in
    paused-unreadable a.paused a.device.now a.host.now a.lists.now (length a.queues.now) (sym c.is_machine.ensures ∙ c.if-not-is_machine.true)
    c.unreadable.result c.unreadable.ensures

pub load_device-d-requires : goal.load_device-d-requires
load_device-d-requires c =
    let a = c.args in
    device-fits a.device.now a.host.now (sym c.is_machine.ensures ∙ c.if-not-is_machine.false)

pub load_host-h-requires : goal.load_host-h-requires
load_host-h-requires c =
    let a = c.args in
    host-fits a.device.now a.host.now (sym c.is_machine.ensures ∙ c.if-not-is_machine.false)

pub kept-requires : goal.kept-requires
kept-requires c =
    let a = c.args in
    device-sized a.device.now a.host.now (sym c.is_machine.ensures ∙ c.if-not-is_machine.false)

pub returns : goal.returns
returns c =
    let k = c.set_paused-a in
    let h = c.load_host-h in
    let d = c.load_device-d in
    let a = c.args in
    paused-done a.paused a.device.now a.host.now a.lists.now (length a.queues.now) (sym c.is_machine.ensures ∙ c.if-not-is_machine.false)
    d.result h.result d.ensures h.ensures k.result k.ensures c.kept.result c.kept.new.device c.kept.ensures
