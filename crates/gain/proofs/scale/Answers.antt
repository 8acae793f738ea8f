-- `scale` meets its contract, by the three cases of a gain. Assumes nothing.
use mathlib.Core.Path.{sym, ap, ◌∙◌}
use lib.IntN.{ℤ}
use mir.Syntax.{w16}
use mir.ValLaws.{to_z-of_z}
use borrow.Author.Rules.{sfits_of}
use Rattle.gain.specs.declared.Gain.{Gain}
use Rattle.gain.specs.Gain.{rounded, product, scaled}
use Rattle.gain.proofs.scale.Goals as goal

pub returns-in-Silence : goal.returns-in-Silence
unfolding scaled
returns-in-Silence c =
    sym (ap (λ (g : Gain). scaled g c.args.sample) c.in-Silence.is)

pub returns-in-Unity : goal.returns-in-Unity
unfolding scaled
returns-in-Unity c =
    to_z-of_z w16 c.args.sample c.ranges.sample
    ∙ sym (ap (λ (g : Gain). scaled g c.args.sample) c.in-Unity.is)

pub returns-in-Factor : goal.returns-in-Factor
unfolding scaled
returns-in-Factor c =
    to_z-of_z w16 c.round_to_sample.result (sfits_of c.round_to_sample.type_inv)
    ∙ c.round_to_sample.ensures
    ∙ ap (λ (z : ℤ). rounded (product c.in-Factor.factor z)) (to_z-of_z w16 c.args.sample c.ranges.sample)
    ∙ sym (ap (λ (g : Gain). scaled g c.args.sample) c.in-Factor.is)
