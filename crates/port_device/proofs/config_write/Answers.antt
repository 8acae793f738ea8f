-- `config_write` is `behind` `config_write_of`: unreadable, carried out by the fast path, or the call on what the records hold, which leaves the host end.
use mathlib.Core.Path.{sym, ap, ◌∙◌}
use Rattle.std.specs.Option.{is_some}
use Rattle.device.specs.Machines.{machine, done_of}
use Rattle.hda.specs.Calls.{config_write_of}
use Rattle.record.specs.Loads.{device_at}
use Rattle.fastpath.specs.Quick.{tried}
use Rattle.fastpath.proofs.Tries.{config-kept, config-carried}
use Rattle.reply.proofs.Records.{machine-device, device-sized, device-fits, host-fits}
use Rattle.port_device.specs.Calls.{lent, returned}
use Rattle.port_device.proofs.Outcomes.{unreadable-outcome, kept-outcome, tried_reply, carried-outcome, left-outcome, left-machine}
use Rattle.port_device.proofs.Keeps.{config-keeps}
use Rattle.port_device.proofs.config_write.Goals as goal

pub returns-then-not-is_machine : goal.returns-then-not-is_machine
returns-then-not-is_machine c =
    let a = c.args in
    unreadable-outcome (config_write_of a.register a.offset a.bytes.now) (lent a.device.now a.host.now a.lists.now a.queues.now a.memory.now)
    (sym c.is_machine.ensures ∙ c.if-not-is_machine.true) c.unreadable.result c.unreadable.ensures

pub load_host-h-requires : goal.load_host-h-requires
load_host-h-requires c =
    let a = c.args in
    host-fits a.device.now a.host.now (sym c.is_machine.ensures ∙ c.if-not-is_machine.false)

pub config_write-requires : goal.config_write-requires
config_write-requires c =
    let a = c.args in
    let r = sym c.is_machine.ensures ∙ c.if-not-is_machine.false in
    (device-sized a.device.now a.host.now r, machine-device a.device.now a.host.now r)

pub returns-in-Some : goal.returns-in-Some
returns-in-Some c =
    let q = c.config_write in
    let h = c.load_host-h in
    let a = c.args in
    carried-outcome (config_write_of a.register a.offset a.bytes.now) (lent a.device.now a.host.now a.lists.now a.queues.now a.memory.now)
    (sym c.is_machine.ensures ∙ c.if-not-is_machine.false) h.result h.ensures (tried q.result q.new.device q.new.memory)
    (config-carried a.register a.offset a.bytes.now a.device.now (machine (device_at a.device.now) h.result a.lists.now a.queues.now a.memory.now) (tried q.result q.new.device q.new.memory) q.ensures (ap is_some c.in-Some.is))
    (λ i. (c.type_inv.host i).fits) c.carried.result (c.carried.ensures ∙ ap tried_reply (sym c.in-Some.is))

pub load_device-d-requires : goal.load_device-d-requires
load_device-d-requires c =
    let q = c.config_write in
    let h = c.load_host-h in
    let a = c.args in
    device-fits q.new.device a.host.now
    (left-machine (config_write_of a.register a.offset a.bytes.now) (lent a.device.now a.host.now a.lists.now a.queues.now a.memory.now) (sym c.is_machine.ensures ∙ c.if-not-is_machine.false) h.result h.ensures (tried q.result q.new.device q.new.memory)
    (config-kept a.register a.offset a.bytes.now a.device.now (machine (device_at a.device.now) h.result a.lists.now a.queues.now a.memory.now) (tried q.result q.new.device q.new.memory) q.ensures c.in-None.is))

pub kept-requires : goal.kept-requires
kept-requires c =
    let q = c.config_write in
    let h = c.load_host-h in
    let a = c.args in
    device-sized q.new.device a.host.now
    (left-machine (config_write_of a.register a.offset a.bytes.now) (lent a.device.now a.host.now a.lists.now a.queues.now a.memory.now) (sym c.is_machine.ensures ∙ c.if-not-is_machine.false) h.result h.ensures (tried q.result q.new.device q.new.memory)
    (config-kept a.register a.offset a.bytes.now a.device.now (machine (device_at a.device.now) h.result a.lists.now a.queues.now a.memory.now) (tried q.result q.new.device q.new.memory) q.ensures c.in-None.is))

pub returns-in-None : goal.returns-in-None
returns-in-None c =
    let k = c.config_write-a in
    let d = c.load_device-d in
    let q = c.config_write in
    let h = c.load_host-h in
    let a = c.args in
    let m = sym c.is_machine.ensures ∙ c.if-not-is_machine.false in
    let l = config-kept a.register a.offset a.bytes.now a.device.now (machine (device_at a.device.now) h.result a.lists.now a.queues.now a.memory.now) (tried q.result q.new.device q.new.memory) q.ensures c.in-None.is in
    left-outcome (config_write_of a.register a.offset a.bytes.now) (lent a.device.now a.host.now a.lists.now a.queues.now a.memory.now) m h.result h.ensures (tried q.result q.new.device q.new.memory) l
    (returned c.kept.result (lent c.kept.new.device a.host.now a.lists.now a.queues.now k.new.memory))
    (kept-outcome (config_write_of a.register a.offset a.bytes.now) (lent q.new.device a.host.now a.lists.now a.queues.now q.new.memory)
    (left-machine (config_write_of a.register a.offset a.bytes.now) (lent a.device.now a.host.now a.lists.now a.queues.now a.memory.now) m h.result h.ensures (tried q.result q.new.device q.new.memory) l) d.result h.result d.ensures h.ensures
    (done_of k.result a.lists.now a.queues.now k.new.memory) k.ensures
    (config-keeps a.register a.offset a.bytes.now) (λ i. (c.type_inv.host i).fits) c.kept.result c.kept.new.device c.kept.ensures)
