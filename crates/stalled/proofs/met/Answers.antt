-- `met` meets its contract: the callbacks in order.
use mathlib.Core.Path.{refl}
use Rattle.stalled.proofs.Steps.{throughout, left}
use Rattle.stalled.proofs.met.Goals as goal

pub returns : goal.returns
returns c =
    record { throughout = throughout; deferred = refl; left = left }
