-- `stored` is `stored_of`: the host end stored, and then as `kept`.
use mathlib.Core.Path.{ap}
use Rattle.host_record.specs.Hosts.{host_bytes}
use Rattle.port_device.specs.Calls.{Made, stored_out}
use Rattle.port_device.proofs.stored.Goals as goal

pub returns : goal.returns
returns c =
    let a = c.args.a in
    rw c.store_host.ensures (ap (λ (m : Made). stored_out m.reply m.device (host_bytes a.host)) c.kept.ensures)
