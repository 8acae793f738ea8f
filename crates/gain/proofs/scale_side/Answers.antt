-- `scale_side` meets its contract, by the three cases of a gain. Assumes nothing.
use mathlib.Core.Path.{sym, ◌∙◌, subst}
use mathlib.Core.List.{◌++◌}
use lib.ListN.{drop}
use borrow.Author.Rules.{rules}
use lib.Dec.{T}
use Rattle.std.specs.Float.Ieee.Positive.{positive}
use Rattle.gain.specs.declared.Gain.{Gain}
use Rattle.gain.specs.declared.Gain.TheVariants.{Factor}
use Rattle.gain.specs.Fast.{ScaledWords}
use Rattle.gain.proofs.Laws.{unity-word}
use Rattle.gain.proofs.Passes.{front-scaled}
use Rattle.gain.proofs.Scaling.{in-range}
use Rattle.gain.proofs.scale_side.Goals as goal

pub scale_each-requires : goal.scale_each-requires
scale_each-requires c =
    let p : T (positive c.in-Factor.factor) = in-range c.in-Factor.factor (sym c.is_blockwise.ensures ∙ c.if-is_blockwise.true) in search rules

pub returns-in-Unity : goal.returns-in-Unity
returns-in-Unity c =
    let s = c.args in
    subst (λ (g : Gain). ScaledWords s.n g s.words.now s.words.now) (sym c.in-Unity.is) (λ k _. sym (unity-word _ (c.type_inv.words k).fits))

pub returns-in-Factor : goal.returns-in-Factor
returns-in-Factor c =
    let s = c.args in
    subst (λ (g : Gain). ScaledWords s.n g s.words.now (c.scale_each.new.words ++ drop s.n s.words.now)) (sym c.in-Factor.is)
    (front-scaled s.n (Factor c.in-Factor.factor) s.words.now c.scale_each.new.words c.requires c.scale_each.auto.words (λ k h. let e = c.scale_each.ensures k h in search rules))

pub returns-in-Silence : goal.returns-in-Silence
returns-in-Silence c =
    let s = c.args in
    front-scaled s.n s.gain s.words.now c.scale_each-in-Silence.new.words c.requires c.scale_each-in-Silence.auto.words (λ k h. let e = c.scale_each-in-Silence.ensures k h in search rules)
