-- `carried` is `carried_reply`.
use Rattle.port_device.proofs.carried.Goals as goal

pub returns : goal.returns
returns c =
    rw (c.reply.ensures, c.is_sent.ensures)
