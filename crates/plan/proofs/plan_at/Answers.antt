-- `plan_at` where the descriptor's address passes 64 bits: it is outside memory. Assumes nothing.
use native.Mathlib.Omega.{arith}
use borrow.Author.Tests.{le-ltb}
use Rattle.memory.proofs.Laws.{descriptor-outside}
use Rattle.plan.specs.Plans.{descriptor_at, plan_of}
use Rattle.plan.proofs.plan_at.Goals as goal

pub returns-in_default : goal.returns-in_default
unfolding plan_of
returns-in_default c =
    let a = c.args in
    rw (
      le-ltb a.g.lvi a.s.descriptor (omega arith),
      descriptor-outside a.memory.now (descriptor_at a.g a.s) (omega (arith, c.in_default.ensures, c.from-place.ensures)),
    )
