-- `round_to_sample` meets its contract: each way by what its tests say of the product. Assumes nothing.
use mathlib.Core.Path.{◌≡◌, sym, ap, ◌∙◌, subst}
use Prim.Native.Nat.{ℕ}
use lib.Dec.{T}
use lib.Ieee.{Float, of_bits}
use mir.Syntax.{w16}
use mir.ValLaws.{to_z-of_z}
use Rattle.gain.specs.Gain.{whole_of}
use Rattle.gain.specs.Fast.{roundable, limited}
use Rattle.gain.proofs.Words.{to_pos, negated, negated_fits}
use Rattle.gain.proofs.Scaling.{limited-is, above, below, kept-plus, clamped-plus, kept-minus, clamped-minus, neither}
use Rattle.gain.proofs.round_to_sample.Goals as goal

-- what is rounded is the magnitude of the product, cut; by `above` and `below` it is not negative
limited-rounded : (magnitude l : Float) (r : ℕ) → l ≡ limited magnitude → r ≡ whole_of l → r ≡ whole_of (limited magnitude)
limited-rounded magnitude l r cut rounded = rounded ∙ ap whole_of cut

pub round_half_up-r-requires : goal.round_half_up-r-requires
unfolding of_bits
round_half_up-r-requires c =
    subst (λ (x : Float). T (roundable x)) (sym c.limit.ensures) (limited-is _ (above c.args.product c.if-product.true)).0

pub round_half_up-r-requires-then-product-2 : goal.round_half_up-r-requires-then-product-2
unfolding of_bits
round_half_up-r-requires-then-product-2 c =
    subst (λ (x : Float). T (roundable x)) (sym c.limit-then-product-2.ensures) (limited-is _ (below c.args.product c.if-product-2.true)).0

pub returns-then-r-lt32768 : goal.returns-then-r-lt32768
unfolding of_bits
returns-then-r-lt32768 c =
    to_pos _ c.if-r-lt32768.true ∙ kept-plus _ _ (above c.args.product c.if-product.true) (limited-rounded _ _ _ c.limit.ensures c.round_half_up-r.ensures) c.if-r-lt32768.true

pub returns-else-r-lt32768 : goal.returns-else-r-lt32768
unfolding of_bits
returns-else-r-lt32768 c =
    clamped-plus _ _ (above c.args.product c.if-product.true) (limited-rounded _ _ _ c.limit.ensures c.round_half_up-r.ensures) c.if-r-lt32768.false

pub returns-then-r-lt32768-2 : goal.returns-then-r-lt32768-2
unfolding of_bits
returns-then-r-lt32768-2 c =
    let r = c.round_half_up-r-then-product-2.result in
    to_z-of_z w16 _ (negated_fits r c.if-r-lt32768-2.true) ∙ negated r c.if-r-lt32768-2.true ∙ kept-minus _ r (below c.args.product c.if-product-2.true) (limited-rounded _ _ _ c.limit-then-product-2.ensures c.round_half_up-r-then-product-2.ensures)

pub returns-else-r-lt32768-2 : goal.returns-else-r-lt32768-2
unfolding of_bits
returns-else-r-lt32768-2 c =
    clamped-minus _ _ (below c.args.product c.if-product-2.true) (limited-rounded _ _ _ c.limit-then-product-2.ensures c.round_half_up-r-then-product-2.ensures) c.if-r-lt32768-2.false

pub returns-else-product-2 : goal.returns-else-product-2
unfolding of_bits
returns-else-product-2 c =
    neither c.args.product c.if-product.false c.if-product-2.false
