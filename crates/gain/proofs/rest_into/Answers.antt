-- `rest_into` meets its contract. The first i bytes are amplified ones. Assumes nothing.
use mathlib.Core.Path.{◌≡◌, ap, ◌∙◌, subst}
use Prim.Native.Nat.{ℕ}
use native.Mathlib.Omega.{arith}
use lib.ListN.{length}
use Rattle.gain.specs.Gain.{one_pass_of}
use Rattle.gain.specs.Fast.{AmplifiedTo}
use Rattle.gain.proofs.Passes.{passed}
use Rattle.gain.proofs.rest_into.Goals as goal

pub returns : goal.returns
returns c =
    let l = c.loop-i in
    let a = c.args in
    let e : l.i ≡ length l.into = omega arith in
    passed a.left a.right a.pcm.now l.into (omega arith) (subst (λ (n : ℕ). AmplifiedTo n a.left a.right a.pcm.now l.into) e l.invariant)
    ∙ ap (one_pass_of a.left a.right a.pcm.now) l.auto.into
