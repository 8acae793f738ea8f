-- The invariant: v is the number of the bytes from `i` on. Assumes nothing.
use Rattle.std.proofs.Common.{◌≡◌, ◌+◌, ◌-◌}
use Rattle.word.specs.Place.{word_at}
use Rattle.reader.proofs.field_at.Given as goal

abbrev pub invariant-loop-i : goal.invariant-loop-i
invariant-loop-i l = l.v ≡ word_at (l.n - l.i) (l.at + l.i) l.s
