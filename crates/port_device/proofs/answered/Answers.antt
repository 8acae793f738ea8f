-- `answered` is `answered_of`.
use Rattle.port_device.proofs.answered.Goals as goal

pub returns : goal.returns
returns c =
    rw (c.reply.ensures, c.is_sent.ensures)
