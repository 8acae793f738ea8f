-- `digest_of` is `looked_of`, by the same test. Assumes nothing.
use Rattle.std.proofs.Common.{◌∙◌, eq-eqb, ne_eqb}
use Rattle.rehearse.proofs.verdict.digest_of.Goals as goal

pub returns-then-kind-eq3 : goal.returns-then-kind-eq3
returns-then-kind-eq3 c =
    c.digest.ensures ∙ simp (eq-eqb _ _ c.if-kind-eq3.true)

pub returns : goal.returns
returns c =
    c.held.ensures ∙ simp (ne_eqb _ _ c.if-kind-eq3.false)
