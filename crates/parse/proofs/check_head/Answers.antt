-- `check_head` is `head_number`: the mark, then the rest.
use mathlib.Core.Path.{◌∙◌}
use native.Mathlib.Omega.{arith}
use borrow.Author.Rules.{rules}
use Rattle.word.proofs.Choices.{if-true, if-false}
use Rattle.parse.specs.States.{head_number}
use Rattle.parse.proofs.Fields.{run-room, run-passed, run-refused}
use Rattle.parse.proofs.check_head.Goals as goal

pub returns-in_err-next : goal.returns-in_err-next
unfolding head_number
returns-in_err-next c =
    run-refused _ _ _ c.run_end.ensures c.in_err-next.was (search rules) _

pub is_marked-requires : goal.is_marked-requires
is_marked-requires c =
    (run-room _ _ _ c.run_end.ensures c.in_ok-next.was).0

pub returns-then-not-is_marked : goal.returns-then-not-is_marked
unfolding head_number
returns-then-not-is_marked c =
    run-passed _ _ _ c.run_end.ensures _ _ c.in_ok-next.was (if-false _ _ c.if-not-is_marked.true c.is_marked.ensures)

pub check_own-requires : goal.check_own-requires
check_own-requires c =
    omega (arith, (run-room _ _ _ c.run_end.ensures c.in_ok-next.was).1)

pub returns : goal.returns
unfolding head_number
returns c =
    run-passed _ _ _ c.run_end.ensures _ _ c.in_ok-next.was
    (c.check_own.ensures ∙ if-true _ _ c.if-not-is_marked.false c.is_marked.ensures)
