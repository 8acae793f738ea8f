-- What a ready buffer has, and the two readings of what stopped a transfer. Assumes nothing.
use Prim.Native.Nat.{◌%◌, ◌≤◌}
use mathlib.Core.Path.{◌≡◌, refl, sym}
use mathlib.Core.Bool.{Bool, true, false, true≢false}
use borrow.Author.Tests.{leb-true}
use lib.Dec.{leb, eqb}
use Rattle.std.specs.Prelude.{Option, Some, None, is_some, is_none}
use Rattle.word.proofs.Choices.{by_cond}
use Rattle.stream.specs.declared.Cyclic.{Cyclic}
use Rattle.plan.specs.declared.Stop.{Stop}
use Rattle.plan.specs.Plans.{ready_of}

-- a ready buffer's last descriptor has a byte's index
pub ready-byte : (g : Cyclic) → ready_of g ≡ true → g.lvi ≤ 255
unfolding ready_of
ready-byte g =
    by_cond (λ (b : Bool). b ≡ true → g.lvi ≤ 255) (eqb g.cbl 0) false _ (λ _ z. absurd (true≢false (sym z)))
    (λ _. by_cond (λ (b : Bool). b ≡ true → g.lvi ≤ 255) (eqb (g.cbl % 4) 0) (leb g.lvi 255) false (λ _. leb-true g.lvi 255) (λ _ z. absurd (true≢false (sym z))))

pub went_well : (stop : Option Stop) → is_some stop ≡ false → is_none stop ≡ true
went_well None e = refl
went_well (Some s) e = absurd (true≢false e)

pub was_stopped : (stop : Option Stop) → is_some stop ≡ true → is_none stop ≡ false
was_stopped None e = absurd (true≢false (sym e))
was_stopped (Some s) e = refl
