-- The lines from here, counted on, give what all of them give; what is printed so far, with what is printed of them, is what is printed of all. The measure is
-- the bytes that are left. Assumes nothing.
use Rattle.std.proofs.Common.{◌≡◌, ℕ, ◌-◌, List, ◌++◌, length, drop}
use Rattle.std.specs.Io.KnownBytes.{Appends}
use Rattle.replay.specs.Lines.{lines_of, count_all, tally_of}
use Rattle.replay.specs.Printed.{all_reported, reported_of}
use Rattle.replay.proofs.lines.judge_all.Given as goal

abbrev pub invariant-loop-start : goal.invariant-loop-start
invariant-loop-start g l = record {
  counted : count_all l.tally (lines_of (drop l.start l.all)) ≡ tally_of l.all;
  text : List ℕ;
  written : Appends (g.W.Write.contents l.fn.out) (g.W.Write.contents l.out) text;
  left : text ++ all_reported l.tally (lines_of (drop l.start l.all)) ≡ reported_of l.all;
}

abbrev pub decreases-loop-start : goal.decreases-loop-start
decreases-loop-start g l = length l.all - l.start
