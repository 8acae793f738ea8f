-- `pin_presence_changed` is `behind` `pin_of`: unreadable, or the call on what the records hold, which leaves the host end.
use mathlib.Core.Path.{sym, ◌∙◌}
use Rattle.device.specs.Machines.{done_of}
use Rattle.hda.specs.Calls.{pin_of}
use Rattle.reply.proofs.Records.{device-sized, device-fits, host-fits}
use Rattle.port_device.specs.Calls.{lent}
use Rattle.port_device.proofs.Outcomes.{unreadable-outcome, kept-outcome}
use Rattle.port_device.proofs.Keeps.{pin-keeps}
use Rattle.port_device.proofs.pin_presence_changed.Goals as goal

pub returns-then-not-is_machine : goal.returns-then-not-is_machine
returns-then-not-is_machine c =
    let a = c.args in
    unreadable-outcome (pin_of a.node) (lent a.device.now a.host.now a.lists.now a.queues.now a.memory.now)
    (sym c.is_machine.ensures ∙ c.if-not-is_machine.true) c.unreadable.result c.unreadable.ensures

pub load_device-d-requires : goal.load_device-d-requires
load_device-d-requires c =
    let a = c.args in
    device-fits a.device.now a.host.now (sym c.is_machine.ensures ∙ c.if-not-is_machine.false)

pub load_host-h-requires : goal.load_host-h-requires
load_host-h-requires c =
    let a = c.args in
    host-fits a.device.now a.host.now (sym c.is_machine.ensures ∙ c.if-not-is_machine.false)

pub kept-requires : goal.kept-requires
kept-requires c =
    let a = c.args in
    device-sized a.device.now a.host.now (sym c.is_machine.ensures ∙ c.if-not-is_machine.false)

pub returns : goal.returns
returns c =
    let k = c.pin_presence_changed-a in
    let h = c.load_host-h in
    let d = c.load_device-d in
    let a = c.args in
    kept-outcome (pin_of a.node) (lent a.device.now a.host.now a.lists.now a.queues.now a.memory.now)
    (sym c.is_machine.ensures ∙ c.if-not-is_machine.false) d.result h.result d.ensures h.ensures
    (done_of k.result a.lists.now a.queues.now k.new.memory) k.ensures
    (pin-keeps a.node) (λ i. (c.type_inv.host i).fits) c.kept.result c.kept.new.device c.kept.ensures
