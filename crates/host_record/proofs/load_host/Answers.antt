-- `load_host` is `host_at`: its parts, each read at its place.
use Rattle.host_record.specs.Hosts.{host_at}
use Rattle.host_record.proofs.load_host.Goals as goal

pub returns : goal.returns
unfolding host_at
returns c =
    rw (c.get.ensures, c.load_queues.ensures)
