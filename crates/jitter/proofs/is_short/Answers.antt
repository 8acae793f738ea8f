-- `is_short` meets its contract. Assumes nothing.
use mathlib.Core.Path.{ap}
use mathlib.Core.Bool.{Bool, ◌||◌}
use lib.Dec.{ltb}
use Rattle.jitter.specs.Calls.{result_size}
use borrow.Author.Rules.{rules}
use Rattle.jitter.proofs.is_short.Goals as goal

pub returns : goal.returns
returns c =
    let a = c.args in
    ap (λ (b : Bool). b || (ltb a.memory2 a.memory || ltb a.into result_size)) c.is_short.ensures
