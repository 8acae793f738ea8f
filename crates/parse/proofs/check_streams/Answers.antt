-- `check_streams` is `streams_step`: a stream that is taken, one that is refused, and the end.
use Prim.Native.Nat.{ℕ}
use mathlib.Core.Path.{◌≡◌, refl, sym, ap, subst, ◌∙◌}
use native.Mathlib.Omega.{arith}
use borrow.Author.Rules.{rules}
use Rattle.std.specs.Prelude.{Result, Err}
use Rattle.refusal.specs.declared.Refusal.{Refusal}
use Rattle.word.proofs.Each.{each-end}
use Rattle.stream.specs.Box.{streams}
use Rattle.parse.specs.States.{Step, EndsStreams, goes_on, streams_step}
use Rattle.parse.proofs.Parts.{loop-stop, loop-later, loop-step}
use Rattle.parse.proofs.check_streams.Goals as goal

pub loop-index-init : goal.loop-index-init
loop-index-init c =
    (omega arith, streams, refl, refl)

pub returns-in_err-at : goal.returns-in_err-at
unfolding streams_step
returns-in_err-at c =
    let l = c.loop-index in
    let a = c.args in
    let same : c.from_residual.result ≡ Err c.in_err-at.field-0.0 = search rules in
    subst (λ (o : Result ℕ Refusal). EndsStreams o (streams_step a.strict a.state.now)) (sym same)
    (ap (λ (w : Step). w.number) (sym l.invariant.3)
    ∙ loop-stop _ _ streams l.index l.invariant.1 l.at _ l.invariant.2 (omega arith) c.check_part.ensures c.in_err-at.was)

pub loop-index-preserved : goal.loop-index-preserved
loop-index-preserved c =
    let l = c.loop-index in
    let k = loop-step _ _ streams l.index l.invariant.1 l.at _ l.invariant.2 (omega arith) c.check_part.ensures c.in_ok-at.was in
    let later = loop-later _ _ streams l.index l.invariant.1 l.at _ l.invariant.2 (omega arith) c.check_part.ensures c.in_ok-at.was in
    (omega (arith, later), k.0, k.1, sym k.2 ∙ l.invariant.3)

pub returns : goal.returns
unfolding streams_step
returns c =
    let l = c.loop-index in
    sym l.invariant.3 ∙ each-end goes_on _ streams l.index l.invariant.1 _ l.invariant.2 c.loop-index-test.false
