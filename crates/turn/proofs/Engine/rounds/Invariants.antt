-- `Engine::rounds` meets its contract. The invariant: the rounds from here leave what all of them leave, with fuel enough for the frames that are due, and
-- the bounds hold. The measure is the frames due. Assumes nothing.
use Prim.Native.Nat.{ℕ, ◌≤◌}
use mathlib.Core.Path.{◌≡◌}
use lib.ListN.{length}
use Rattle.turn.specs.Engines.{work_of, due_of, rounds_of}
use Rattle.turn.proofs.Rounds.{Within}
use Rattle.turn.proofs.Engine.rounds.Given as goal

abbrev pub invariant-loop-g : goal.invariant-loop-g
invariant-loop-g l =
    (length l.list ≡ length l.initial.list) × (length l.part ≡ length l.initial.part) × (length l.memory ≡ length l.initial.memory) × Within l.e.stream l.e.queue l.list
    × (fuel : ℕ) × (due_of l.e ≤ fuel) × (rounds_of fuel l.g (work_of l.e l.list l.part l.memory) ≡ rounds_of (due_of l.initial.e) l.g (work_of l.initial.e l.initial.list l.initial.part l.initial.memory))

abbrev pub decreases-loop-g : goal.decreases-loop-g
decreases-loop-g l =
    due_of l.e
