-- `positions::up_to` meets its contract. The invariant: `i` are counted, and the positions from `i` on decide the rest. Assumes nothing.
use Rattle.std.proofs.Common.{◌≡◌, ◌+◌, drop}
use Rattle.positions.specs.Positions.{positions_of, up_to_of}
use Rattle.positions.proofs.up_to.Given as goal

abbrev pub invariant-loop-i : goal.invariant-loop-i
invariant-loop-i l =
    l.i + up_to_of l.c (drop l.i (positions_of l.n l.list)) ≡ up_to_of l.c (positions_of l.n l.list)
