-- `scatter` meets its contract. The first k words of each side are put back. Assumes nothing.
use Rattle.gain.specs.Fast.{Scattered}
use Rattle.gain.proofs.scatter.Given as goal

abbrev pub invariant-loop-k : goal.invariant-loop-k
invariant-loop-k l = Scattered l.k l.lefts l.rights l.at l.initial.pcm l.pcm
