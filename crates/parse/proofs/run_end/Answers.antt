-- `run_end` is `run_end`: where the run ends, or that the state ends before.
use mathlib.Core.Path.{refl}
use Rattle.reader.proofs.Then.{read, ended}
use Rattle.parse.proofs.run_end.Goals as goal

pub returns-in-Some : goal.returns-in-Some
returns-in-Some c =
    read _ _ c.run-run.ensures c.in-Some.is refl

pub returns-in-None : goal.returns-in-None
returns-in-None c =
    ended _ _ c.run-run.ensures c.in-None.is
