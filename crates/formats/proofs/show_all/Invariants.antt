-- The writer has had the lines of the words so far.
-- Assumes nothing.
use Rattle.std.specs.Io.KnownBytes.{Appends}
use Rattle.formats.specs.Line.{shown_below}
use Rattle.formats.proofs.show_all.Given as goal

abbrev pub invariant-loop-word : goal.invariant-loop-word
invariant-loop-word g l = Appends (g.W.Write.contents l.fn.out) (g.W.Write.contents l.out) (shown_below l.word)
