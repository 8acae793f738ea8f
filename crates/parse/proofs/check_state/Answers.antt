-- `check_state` is `state_number`: the head, the streams, the rest. A head that is taken is long enough for the last test.
use mathlib.Core.Path.{sym}
use borrow.Author.Rules.{rules}
use Rattle.parse.specs.States.{state_number}
use Rattle.parse.proofs.Choices.{refused, refused-by, passed}
use Rattle.parse.proofs.Heads.{head-taken}
use Rattle.parse.proofs.check_state.Goals as goal

pub returns-in_err-check_head : goal.returns-in_err-check_head
unfolding state_number
returns-in_err-check_head c =
    refused c.check_head.ensures c.in_err-check_head.was (search rules) _

pub returns-in_err-end : goal.returns-in_err-end
unfolding state_number
returns-in_err-end c =
    passed c.check_head.ensures c.in_ok-check_head.was (refused-by c.in_err-end.ensures (search rules) _)

pub check_last-requires : goal.check_last-requires
check_last-requires c =
    (head-taken _ _ (sym c.in_ok-check_head.ensures)).long

pub returns : goal.returns
unfolding state_number
returns c =
    passed c.check_head.ensures c.in_ok-check_head.was (rw c.in_ok-end.ensures c.check_last.ensures)
