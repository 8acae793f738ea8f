-- `answer` is `bounded_of`. Assumes nothing.
use mathlib.Core.Path.{ap}
use Rattle.read.specs.declared.Status.{Status}
use Rattle.read.specs.Reads.{status_of}
use borrow.Author.Rules.{rules}
use Rattle.jitter.proofs.answer.Goals as goal

pub returns : goal.returns
unfolding status_of
returns c =
    ap (λ (s : Status). record { number = s.number; level = s.level; count = c.args.count }) c.status_of-s.ensures
