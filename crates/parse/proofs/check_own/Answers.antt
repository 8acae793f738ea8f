-- `check_own` is `own_number`: the field is there, and is this device's.
use mathlib.Core.Path.{ap, ◌∙◌}
use native.Mathlib.Omega.{arith}
use borrow.Author.Rules.{rules}
use borrow.Author.Tests.{eq-eqb, ne_eqb}
use lib.Dec.{eqb}
use Rattle.word.proofs.Choices.{if-true, if-false}
use Rattle.reader.proofs.Fields.{field-value}
use Rattle.reader.proofs.Then.{read, ended}
use Rattle.parse.proofs.check_own.Goals as goal

pub returns-in_default : goal.returns-in_default
returns-in_default c =
    ended _ _ c.field-field.ensures c.in_default.is

pub returns-then-own-from : goal.returns-then-own-from
returns-then-own-from c =
    read _ _ c.field-field.ensures c.in-Some.is (if-false _ _ (ne_eqb _ _ c.if-own-from.true) (ap (eqb _) (search rules)))

pub check_files-requires : goal.check_files-requires
check_files-requires c =
    omega (arith, (field-value _ _ _ _ c.field-field.ensures _ c.in-Some.is).2)

pub returns : goal.returns
returns c =
    read _ _ c.field-field.ensures c.in-Some.is
    (c.check_files.ensures ∙ if-true _ _ (eq-eqb _ _ c.if-own-from.false) (ap (eqb _) (search rules)))
