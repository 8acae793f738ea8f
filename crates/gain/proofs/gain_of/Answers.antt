-- `gain_of` meets its contract. Assumes nothing.
use mathlib.Core.Path.{sym, ap, ◌∙◌}
use Rattle.gain.specs.declared.Gain.TheVariants.{Factor}
use Rattle.gain.proofs.Laws.{gain-silence, gain-unity, gain-factor}
use Rattle.gain.proofs.gain_of.Goals as goal

pub returns-then-byte-ge128 : goal.returns-then-byte-ge128
returns-then-byte-ge128 c =
    sym (gain-silence c.args.byte c.if-byte-ge128.true)

pub returns-then-byte-eq74 : goal.returns-then-byte-eq74
returns-then-byte-eq74 c =
    sym (gain-unity c.args.byte c.if-byte-eq74.true)

pub returns-else-byte-eq74 : goal.returns-else-byte-eq74
returns-else-byte-eq74 c =
    let b = c.args.byte in
    ap Factor c.factor_of.ensures ∙ sym (gain-factor b c.if-byte-ge128.false c.if-byte-eq74.false)
