-- `check_stream` is `stream_number`: list, format, counts, and where it is asked for the spacing. Assumes nothing.
use mathlib.Core.Path.{refl, sym, ◌∙◌}
use native.Mathlib.Omega.{arith}
use borrow.Author.Rules.{rules}
use Rattle.word.proofs.Choices.{if-true, if-false}
use Rattle.parse.specs.States.{stream_number}
use Rattle.parse.proofs.Choices.{refused, passed}
use Rattle.parse.proofs.Parts.{listed}
use Rattle.parse.proofs.check_stream.Goals as goal

pub returns-in_err-check_list : goal.returns-in_err-check_list
unfolding stream_number
returns-in_err-check_list c =
    refused c.check_list.ensures c.in_err-check_list.was (search rules) _

pub returns-in_err-check_format : goal.returns-in_err-check_format
unfolding stream_number
returns-in_err-check_format c =
    passed c.check_list.ensures c.in_ok-check_list.was (refused c.check_format.ensures c.in_err-check_format.was (search rules) _)

pub returns-in_err-check_counts : goal.returns-in_err-check_counts
unfolding stream_number
returns-in_err-check_counts c =
    passed c.check_list.ensures c.in_ok-check_list.was
    (passed c.check_format.ensures c.in_ok-check_format.was (refused c.check_counts.ensures c.in_err-check_counts.was (search rules) _))

pub check_crowd-requires : goal.check_crowd-requires
check_crowd-requires c =
    omega (arith, (listed _ _ _ (sym c.in_ok-check_list.ensures)).room)

pub returns-then-strict : goal.returns-then-strict
unfolding stream_number
returns-then-strict c =
    passed c.check_list.ensures c.in_ok-check_list.was
    (passed c.check_format.ensures c.in_ok-check_format.was
    (passed c.check_counts.ensures c.in_ok-check_counts.was (c.check_crowd.ensures ∙ if-true _ 0 c.if-strict.true refl)))

pub returns : goal.returns
unfolding stream_number
returns c =
    passed c.check_list.ensures c.in_ok-check_list.was
    (passed c.check_format.ensures c.in_ok-check_format.was
    (passed c.check_counts.ensures c.in_ok-check_counts.was (if-false _ 0 c.if-strict.false refl)))
