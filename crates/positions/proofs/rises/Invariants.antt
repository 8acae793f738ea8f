-- `positions::rises` meets its contract. The invariant: the positions from `i` on, from above `last`, decide the answer with whether `last` is at most `hi`. Assumes nothing.
use Rattle.std.proofs.Common.{◌≡◌, ◌&&◌, ◌||◌, eqb, leb, drop}
use Rattle.positions.specs.Positions.{positions_of, rises_of}
use Rattle.positions.proofs.rises.Given as goal

abbrev pub invariant-loop-i : goal.invariant-loop-i
invariant-loop-i l =
    ((eqb l.i 0 || leb l.last l.hi) && rises_of l.last (drop l.i (positions_of l.n l.list)) l.hi) ≡ rises_of l.lo (positions_of l.n l.list) l.hi
