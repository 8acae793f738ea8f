-- `gather` meets its contract. The first k words of each side are taken. Assumes nothing.
use Prim.Native.Nat.{◌+◌}
use Rattle.gain.specs.Fast.{Gathered}
use Rattle.gain.proofs.gather.Given as goal

abbrev pub invariant-loop-k : goal.invariant-loop-k
invariant-loop-k l = record { lefts : Gathered l.k l.pcm l.at l.lefts; rights : Gathered l.k l.pcm (l.at + 2) l.rights }
