-- `turn` meets its contract: the format decides. Assumes nothing.
use Rattle.host.specs.Hosts.{opening_of}
use Rattle.turn.proofs.Turns.{open-needs}
use Rattle.turn.proofs.turn.Goals as goal

pub opened-requires : goal.opened-requires
opened-requires c =
    let o = c.open_stream-opening in
    let a = c.args in
    (c.requires.0, open-needs a.host a.microphone a.index a.limit a.s a.list.now a.part.now (opening_of o.result o.new.host) o.ensures c.requires.1)
