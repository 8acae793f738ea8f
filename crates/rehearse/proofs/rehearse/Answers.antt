-- `rehearse` meets its contract: what `play` says of the calls on spaces of zeros. Assumes nothing.
use Rattle.std.proofs.Common.{ap}
use Rattle.rehearse.specs.Verdict.{Played}
use Rattle.rehearse.specs.Printed.{zeros, rehearsed_of}
use Rattle.rehearse.proofs.rehearse.Goals as goal

pub returns : goal.returns
unfolding zeros rehearsed_of
returns c = ap (λ (p : Played). p.tally) c.play.ensures
