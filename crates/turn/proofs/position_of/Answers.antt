-- `position_of`: the remainder is less than the cyclic length. Assumes nothing.
use native.Mathlib.Omega.{arith}
use native.Mathlib.Nat.{mod-lt}
use Rattle.turn.proofs.position_of.Goals as goal

pub overflow_cast-result : goal.overflow_cast-result
overflow_cast-result c =
    record { fits = omega (arith, mod-lt c.args.consumed {m = c.args.cbl} (omega arith), c.ranges.cbl) }
