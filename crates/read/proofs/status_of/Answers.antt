-- `status_of` meets its contract: the level is that of the two files in the record. Assumes nothing.
use Rattle.record.specs.Loads.{device_at}
use Rattle.read.specs.Reads.{status_of}
use Rattle.read.proofs.status_of.Goals as goal

pub returns : goal.returns
unfolding status_of device_at
returns c =
    rw c.level.ensures
