-- `limit` meets its contract. Assumes nothing.
use mathlib.Core.Path.{sym, ap}
use mathlib.Core.Bool.{Bool, false, cond}
use lib.IntN.{pos}
use lib.Ieee.{fin, of_bits}
use Rattle.gain.specs.Fast.{limited}
use Rattle.gain.proofs.limit.Goals as goal

pub returns-then-magnitude : goal.returns-then-magnitude
unfolding of_bits limited
returns-then-magnitude c =
    sym (ap (λ (b : Bool). cond b c.args.magnitude (fin false 1 (pos 15))) c.if-magnitude.true)

pub returns-else-magnitude : goal.returns-else-magnitude
unfolding of_bits limited
returns-else-magnitude c =
    sym (ap (λ (b : Bool). cond b c.args.magnitude (fin false 1 (pos 15))) c.if-magnitude.false)
