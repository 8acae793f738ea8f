-- `check_times` is `times_number`: nothing is tested but that the bytes are there.
use mathlib.Core.Path.{refl}
use borrow.Author.Rules.{rules}
use Rattle.parse.proofs.Fields.{run-passed, run-refused}
use Rattle.parse.proofs.check_times.Goals as goal

pub returns-in_err-run_end : goal.returns-in_err-run_end
returns-in_err-run_end c =
    run-refused _ _ _ c.run_end.ensures c.in_err-run_end.was (search rules) _

pub returns : goal.returns
returns c =
    run-passed _ _ _ c.run_end.ensures _ _ c.in_ok-run_end.was refl
