-- `rest_into` meets its contract. The first i bytes are amplified ones. Assumes nothing.
use Rattle.gain.specs.Fast.{AmplifiedTo}
use Rattle.gain.proofs.rest_into.Given as goal

abbrev pub invariant-loop-i : goal.invariant-loop-i
invariant-loop-i l = AmplifiedTo l.i l.left l.right l.pcm l.into
