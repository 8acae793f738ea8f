-- `positions::spaced` meets its contract. The invariant: the positions from `i` on, behind `last`, decide the answer. Assumes nothing.
use Rattle.std.proofs.Common.{◌≡◌, drop}
use Rattle.positions.specs.Positions.{positions_of, spaced_from, spaced_of}
use Rattle.positions.proofs.spaced.Given as goal

abbrev pub invariant-loop-i : goal.invariant-loop-i
invariant-loop-i l =
    spaced_from l.last l.offset l.hi (drop l.i (positions_of l.n l.list)) ≡ spaced_of l.offset l.hi (positions_of l.n l.list)
