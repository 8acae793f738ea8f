-- `scale_each` meets its contract. The words before the index are scaled, and the others as they were. Assumes nothing.
use Rattle.gain.specs.Fast.{SameFrom}
use Prim.Native.Nat.{ℕ, ◌<◌}
use lib.ListN.{get_or}
use Rattle.gain.proofs.scale_each.Given as goal

abbrev pub invariant-loop-word : goal.invariant-loop-word
invariant-loop-word g l = record {
  scaled : (k : ℕ) → k < l.word-index → goal.F-post g l.scale (get_or l.fn.words k 0) (get_or l.words k 0);
  rest : SameFrom l.word-index l.fn.words l.words;
}
