-- `put_low` stores a number's two lowest bytes: the others do not count.
use mathlib.Core.Path.{◌∙◌}
use Rattle.record.proofs.Puts.{store_low}
use Rattle.record.proofs.put_low.Goals as goal

pub returns : goal.returns
returns c =
    let a = c.args in
    c.put.ensures ∙ store_low 2 a.at a.v a.into.now
