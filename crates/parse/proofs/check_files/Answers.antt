-- `check_files` is `files_number`: the bytes are there, then the converters decide.
use native.Mathlib.Omega.{arith}
use borrow.Author.Rules.{rules}
use Rattle.parse.proofs.Fields.{run-room, run-passed, run-refused}
use Rattle.parse.proofs.Choices.{refused, passed}
use Rattle.parse.proofs.check_files.Goals as goal

pub returns-in_err-next : goal.returns-in_err-next
returns-in_err-next c =
    run-refused _ _ _ c.run_end.ensures c.in_err-next.was (search rules) _

pub check_converters-requires : goal.check_converters-requires
check_converters-requires c =
    omega (arith, (run-room _ _ _ c.run_end.ensures c.in_ok-next.was).0)

pub returns-in_err-check_converters : goal.returns-in_err-check_converters
returns-in_err-check_converters c =
    run-passed _ _ _ c.run_end.ensures _ _ c.in_ok-next.was (refused c.check_converters.ensures c.in_err-check_converters.was (search rules) _)

pub returns : goal.returns
returns c =
    run-passed _ _ _ c.run_end.ensures _ _ c.in_ok-next.was (passed c.check_converters.ensures c.in_ok-check_converters.was c.check_times.ensures)
