-- `check` is `number_of`: the state's tests, then the openings.
use mathlib.Core.Path.{sym}
use borrow.Author.Rules.{rules}
use Rattle.parse.proofs.Choices as choices
use Rattle.parse.proofs.Theorems.{taken-long}
use Rattle.restore.proofs.check.Goals as goal

pub returns-in_err-check_state : goal.returns-in_err-check_state
returns-in_err-check_state c =
    choices.refused c.check_state.ensures c.in_err-check_state.was (search rules) _

pub check_openings-requires : goal.check_openings-requires
check_openings-requires c =
    let a = c.args in
    taken-long a.strict a.state.now a.hda.microphone a.hda.config (sym c.in_ok-check_state.ensures)

pub returns : goal.returns
returns c =
    choices.passed c.check_state.ensures c.in_ok-check_state.was c.check_openings.ensures
