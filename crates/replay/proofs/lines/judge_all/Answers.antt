-- `judge_all` is `tally_of`, and prints what `reported_of` says. Assumes nothing.
use Rattle.std.proofs.Common.{ℕ, ◌+◌, List, ◌++◌, sym, ap, ◌∙◌, append_assoc, append-nil}
use Rattle.replay.proofs.Split.{count-line, report-line, count-end, report-end}
use Rattle.replay.proofs.Written.{appends-more}
use Rattle.replay.proofs.lines.judge_all.Goals as goal

pub loop-start-preserved : goal.loop-start-preserved
loop-start-preserved g c =
    let l = c.loop-start in
    let stop = ap (λ (n : ℕ). l.start + n) c.line_size.ensures.value in
    let counted = c.in_ok-tally.ensures.value in
    record {
      counted = sym (count-line _ l.start l.tally c.loop-start-test.true _ stop _ counted) ∙ l.invariant.counted;
      text = _;
      written = appends-more _ _ _ _ _ l.invariant.written c.in_ok-tally.ensures.written;
      left = append_assoc l.invariant.text _ _ ∙ ap (λ (x : List ℕ). l.invariant.text ++ x) (sym (report-line _ l.start l.tally c.loop-start-test.true _ stop _ counted)) ∙ l.invariant.left;
    }

pub returns-clause-value : goal.returns-clause-value
returns-clause-value g c = sym (count-end _ c.loop-start.start c.loop-start.tally c.loop-start-test.false) ∙ c.loop-start.invariant.counted

pub returns-clause-written : goal.returns-clause-written
returns-clause-written g c =
    let l = c.loop-start in
    let all = sym (append-nil l.invariant.text) ∙ ap (λ (x : List ℕ). l.invariant.text ++ x) (sym (report-end _ l.start l.tally c.loop-start-test.false)) ∙ l.invariant.left in
    rw (← all) l.invariant.written
