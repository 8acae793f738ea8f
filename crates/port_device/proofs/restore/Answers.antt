-- `restore` is `behind` `restored_by`: unreadable, or the call on what the records hold.
use mathlib.Core.Path.{sym, ap, ◌∙◌}
use Rattle.device.specs.Machines.{done_of}
use Rattle.restore.specs.Restores.{Restored}
use Rattle.reply.proofs.Records.{device-sized, host-sized, device-fits, host-fits}
use Rattle.port_device.specs.Calls.{lent, none, restored_by}
use Rattle.port_device.proofs.Outcomes.{unreadable-outcome, done-outcome}
use Rattle.port_device.proofs.restore.Goals as goal

pub returns-then-not-is_machine : goal.returns-then-not-is_machine
returns-then-not-is_machine c =
    let a = c.args in
    unreadable-outcome (restored_by a.strict a.state.now) (lent a.device.now a.host.now a.lists.now a.queues.now none)
    (sym c.is_machine.ensures ∙ c.if-not-is_machine.true) c.unreadable.result c.unreadable.ensures

pub load_device-d-requires : goal.load_device-d-requires
load_device-d-requires c =
    let a = c.args in
    device-fits a.device.now a.host.now (sym c.is_machine.ensures ∙ c.if-not-is_machine.false)

pub load_host-h-requires : goal.load_host-h-requires
load_host-h-requires c =
    let a = c.args in
    host-fits a.device.now a.host.now (sym c.is_machine.ensures ∙ c.if-not-is_machine.false)

pub stored-requires : goal.stored-requires
stored-requires c =
    let a = c.args in
    let r = sym c.is_machine.ensures ∙ c.if-not-is_machine.false in
    (device-sized a.device.now a.host.now r, host-sized a.device.now a.host.now r)

pub returns : goal.returns
returns c =
    let s = c.stored in
    let k = c.restore-a in
    let h = c.load_host-h in
    let d = c.load_device-d in
    let a = c.args in
    done-outcome (restored_by a.strict a.state.now) (lent a.device.now a.host.now a.lists.now a.queues.now none)
    (sym c.is_machine.ensures ∙ c.if-not-is_machine.false) d.result h.result d.ensures h.ensures
    (done_of k.result k.new.lists a.queues.now none) (ap (λ (r : Restored). done_of r.answer r.lists a.queues.now none) k.ensures)
    s.result s.new.device s.new.host s.ensures
