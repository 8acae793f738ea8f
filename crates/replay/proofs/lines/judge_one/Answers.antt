-- `judge_one` counts the verdict of `judge_line` and the line's letter, and prints a line that differs where it is among the first. Assumes nothing.
use Rattle.std.proofs.Common.{refl, arith}
use Rattle.replay.proofs.Written.{appends-none, reported-more, reported-none}
use Rattle.replay.proofs.lines.judge_one.Goals.{then-tally-lt-MOST_PRINTED+in_ok-report, else-tally-lt-MOST_PRINTED}
use Rattle.replay.proofs.lines.judge_one.Goals as goal

pub returns-clause-written : goal.returns-clause-written
returns-clause-written g c =
    elim c.if-tally-lt-MOST_PRINTED.branch [
      | then-tally-lt-MOST_PRINTED+in_ok-report w ↦
          let judged = c.judge_line-found in
          let text = reported-more c.args.line.now _ (omega arith) c.args.tally w.if-tally-lt-MOST_PRINTED.true _ refl _ judged.ensures.value _ judged.ensures.own_after judged.auto.own in
          rw (w.out-is, ← text) w.in_ok-report.ensures
      | else-tally-lt-MOST_PRINTED w ↦ rw (w.out-is, reported-none c.args.tally c.args.line.now w.if-tally-lt-MOST_PRINTED.false) (appends-none _)
    ]
