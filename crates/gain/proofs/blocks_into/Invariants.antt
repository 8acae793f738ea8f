-- `blocks_into` meets its contract. The frames before i are done. Assumes nothing.
use mathlib.Core.Path.{◌≡◌}
use Prim.Native.Nat.{◌-◌, ◌%◌, ◌≤◌}
use lib.ListN.{length}
use Rattle.gain.specs.Fast.{AmplifiedTo}
use Rattle.gain.proofs.blocks_into.Given as goal

abbrev pub invariant-loop-i : goal.invariant-loop-i
invariant-loop-i l = record {
  inside : l.i ≤ l.whole;
  aligned : l.i % 4 ≡ 0;
  lefts : length l.lefts ≡ 64;
  rights : length l.rights ≡ 64;
  done : AmplifiedTo l.i l.left l.right l.pcm l.into;
}

abbrev pub decreases-loop-i : goal.decreases-loop-i
decreases-loop-i l = l.whole - l.i
