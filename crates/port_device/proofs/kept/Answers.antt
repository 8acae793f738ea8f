-- `kept` is `made_of`: the device stored, and what is returned.
use Rattle.port_device.proofs.kept.Goals as goal

pub returns : goal.returns
returns c =
    rw (c.answered.ensures, c.store_device.ensures)
