-- `scale_any` meets its contract: a word is read as a signed number, and back. Assumes nothing.
use mathlib.Core.Path.{ap, ◌∙◌}
use lib.IntN.{ℤ}
use mir.Syntax.{w16}
use mir.Val.{to_z, of_z}
use mir.ValLaws.{to_z-of_z}
use borrow.Author.Rules.{sfits_of}
use Rattle.gain.specs.Gain.{scaled, bits16, scaled16}
use Rattle.gain.proofs.Words.{to-signed, of-bits}
use Rattle.gain.proofs.scale_any.Goals as goal

pub returns : goal.returns
unfolding scaled16
returns c =
    c.cast_unsigned.ensures
    ∙ of-bits (to_z w16 (of_z w16 c.scale.result))
    ∙ ap bits16 (to_z-of_z w16 c.scale.result (sfits_of c.scale.type_inv) ∙ c.scale.ensures)
    ∙ ap (λ (z : ℤ). bits16 (scaled c.args.gain z)) (to_z-of_z w16 c.cast_signed.result (sfits_of c.cast_signed.type_inv) ∙ c.cast_signed.ensures ∙ to-signed c.args.word)
