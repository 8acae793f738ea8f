-- `clock::part_of_second` meets its contract: the remainder of `fraction` carries into the whole ones together with the part of a second.
-- Assumes nothing.
use Rattle.std.proofs.Common.{◌*◌}
use Rattle.clock.proofs.Laws.{carried}
use Rattle.clock.proofs.part_of_second.Goals as goal

pub returns : goal.returns
returns c =
    rw c.from.ensures (carried (c.args.nanos * c.args.rate) c.args.fraction)
