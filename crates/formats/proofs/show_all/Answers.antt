-- `formats::show_all` meets its contract: one word's line more with each turn.
-- Assumes nothing.
use Rattle.std.proofs.Common.{refl, arith}
use Rattle.formats.proofs.Written.{below-none, below-more}
use Rattle.formats.proofs.show_all.Goals as goal

pub loop-word-init : goal.loop-word-init
loop-word-init g c = below-none _

pub loop-word-preserved : goal.loop-word-preserved
loop-word-preserved g c = below-more _ _ _ _ _ refl c.loop-word.invariant c.in_ok-show.ensures

pub returns-in_ok-show : goal.returns-in_ok-show
returns-in_ok-show g c = below-more _ _ _ _ _ (omega arith) c.loop-word.invariant c.in_ok-show.ensures
