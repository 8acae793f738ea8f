-- `judge_line` meets its contract. Assumes nothing.
use Rattle.replay.proofs.Verdicts.{line-even, line-long, line-record}
use Rattle.replay.proofs.verdict.judge_line.Goals.{then-line-eq0-via-then-line-eq0, then-line-eq0-via-else-line-eq0+then-line-gt-LONGEST}
use Rattle.replay.proofs.verdict.judge_line.Goals as goal

pub returns-then-line-eq0 : goal.returns-then-line-eq0
returns-then-line-eq0 c =
    elim c.then-line-eq0.branch [
      | then-line-eq0-via-then-line-eq0 w ↦ let both = line-even _ _ w.if-line-eq0.true in record { value = both.0; own_after = both.1 }
      | then-line-eq0-via-else-line-eq0+then-line-gt-LONGEST w ↦ let both = line-long _ _ w.if-line-eq0.false w.if-line-gt-LONGEST.true in record { value = both.0; own_after = both.1 }
    ]

pub returns : goal.returns
returns c =
    let both = line-record c.args.line.now c.args.own.now c.if-line-eq0.false c.if-line-gt-LONGEST.false _ _ c.judge.ensures.value c.judge.ensures.own_after in
    record { value = both.0; own_after = both.1 }
