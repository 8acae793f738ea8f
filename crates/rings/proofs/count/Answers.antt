-- Where the responses have reached the threshold, they are reported.
use Rattle.std.proofs.Common.{◌≡◌, [], ap, arith}
use borrow.Author.Tests.{le-leb}
use Rattle.rings.specs.Rings.{Rings}
use Rattle.rings.proofs.count.Goals as goal

pub returns-else-link-threshold-clause-by_index : goal.returns-else-link-threshold-clause-by_index
returns-else-link-threshold-clause-by_index c = λ m. rw (← c.threshold.ensures.0, le-leb _ _ c.if-link-threshold.false) (c.report.ensures m)

pub returns-else-link-threshold-clause-responses_bound : goal.returns-else-link-threshold-clause-responses_bound
returns-else-link-threshold-clause-responses_bound c =
    let zero : c.report.result.responses ≡ 0 = ap (λ (x : Rings). x.link.responses) (c.report.ensures []) in
    omega arith
