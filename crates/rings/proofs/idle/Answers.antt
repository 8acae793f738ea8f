-- Where responses wait, they are reported.
use borrow.Author.Tests.{ne_eqb}
use Rattle.rings.proofs.idle.Goals as goal

pub returns-else-link-eq0 : goal.returns-else-link-eq0
returns-else-link-eq0 c = λ m. simp (ne_eqb _ _ c.if-link-eq0.false) (c.report.ensures m)
