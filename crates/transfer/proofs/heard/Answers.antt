-- `heard` meets its contract: one call for each case. Assumes nothing.
use mathlib.Core.Path.{◌≡◌, sym, ◌∙◌, subst}
use mathlib.Core.Bool.{Bool}
use lib.ListN.{length, take}
use Rattle.gain.specs.Gain.{gain_of, two_steps_of}
use Rattle.gain.proofs.Passes.{one-pass-is-two-steps}
use Rattle.transfer.specs.Transfers.{heard_of}
use Rattle.transfer.proofs.Laws.{take-silence}
use Rattle.transfer.proofs.heard.Goals as goal

pub returns-then-connected : goal.returns-then-connected
unfolding two_steps_of
returns-then-connected c =
    let a = c.args in
    let n = length a.into.now in
    subst (λ (b : Bool). c.amplify_into_by.new.into ≡ take n (heard_of b a.left a.right a.pcm.now (length a.pcm.now))) (sym c.if-connected.true)
    (c.amplify_into_by.ensures ∙ one-pass-is-two-steps (gain_of a.left) (gain_of a.right) a.pcm.now n c.requires)

pub returns-else-connected : goal.returns-else-connected
returns-else-connected c =
    let a = c.args in
    let n = length a.into.now in
    subst (λ (b : Bool). c.fill.new.self ≡ take n (heard_of b a.left a.right a.pcm.now (length a.pcm.now))) (sym c.if-connected.false)
    (c.fill.ensures.after (λ y e. e) ∙ sym (take-silence n (length a.pcm.now) c.requires))
