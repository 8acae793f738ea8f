-- `scale_word` meets its contract: proofs/Scaling.antt has the sum of its parts. Assumes nothing.
use mathlib.Core.Path.{◌≡◌, sym, ap, ◌∙◌, subst}
use Prim.Native.Nat.{ℕ, ◌≤◌}
use native.Mathlib.Omega.{arith}
use lib.Dec.{T}
use lib.IntN.{pos}
use lib.Ieee.{Float}
use Rattle.gain.specs.Gain.{whole_of, product}
use Rattle.gain.specs.Fast.{roundable, limited, magnitude16, with_sign16}
use Rattle.gain.proofs.Words.{magnitude16-small}
use Rattle.gain.proofs.Scaling.{limited-is, limited-small, product-at-least-zero, scaled-word}
use Rattle.gain.proofs.scale_word.Goals as goal

limited-product : (word : ℕ) (factor : Float) {m : ℕ} {l : Float} → m ≡ magnitude16 word → l ≡ limited (product factor (pos m)) → l ≡ limited (product factor (pos (magnitude16 word)))
limited-product word factor magnitude cut = cut ∙ ap (λ (m : ℕ). limited (product factor (pos m))) magnitude

pub round_half_up-requires : goal.round_half_up-requires
round_half_up-requires c =
    subst (λ (x : Float). T (roundable x)) (sym (limited-product c.args.word c.args.factor c.magnitude.ensures c.limit.ensures)) (limited-is _ (product-at-least-zero _ _ (magnitude16-small c.args.word) c.requires)).0

pub with_sign-requires : goal.with_sign-requires
with_sign-requires c =
    subst (λ (x : ℕ). x ≤ 32768) (sym (c.round_half_up.ensures ∙ ap whole_of (limited-product c.args.word c.args.factor c.magnitude.ensures c.limit.ensures))) (limited-small _ _ (magnitude16-small c.args.word) c.requires)

pub returns : goal.returns
returns c =
    c.with_sign.ensures
    ∙ ap (λ (r : ℕ). with_sign16 c.args.word r) (c.round_half_up.ensures ∙ ap whole_of (limited-product c.args.word c.args.factor c.magnitude.ensures c.limit.ensures))
    ∙ scaled-word c.args.word c.args.factor (omega arith) c.requires
