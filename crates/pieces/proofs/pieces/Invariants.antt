-- `pieces` meets its contract. The invariant: the pieces from here leave what all of them leave, with fuel enough for what is left of the
-- period. The measure is what is left. Assumes nothing.
use Prim.Native.Nat.{ℕ, ◌-◌, ◌≤◌}
use mathlib.Core.Path.{◌≡◌}
use lib.ListN.{length}
use Rattle.pieces.specs.Pieces.{state_of, pieces_of}
use Rattle.pieces.proofs.pieces.Given as goal

abbrev pub invariant-loop-done : goal.invariant-loop-done
invariant-loop-done l =
    (l.done ≤ l.count) × (length l.list ≡ length l.initial.list) × (length l.memory ≡ length l.initial.memory) × (length l.pcm ≡ length l.initial.pcm)
    × (fuel : ℕ) × (l.count - l.done ≤ fuel) × (pieces_of fuel l.g l.count (state_of l.s l.list l.memory l.pcm l.done) ≡ pieces_of l.count l.g l.count (state_of l.initial.s l.initial.list l.initial.memory l.initial.pcm 0))

abbrev pub decreases-loop-done : goal.decreases-loop-done
decreases-loop-done l =
    l.count - l.done
