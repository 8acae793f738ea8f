-- `positions::spaced` meets its contract: each turn looks at one position, and behind the last one only `hi` is left to ask. Assumes nothing.
use Rattle.std.proofs.Common.{◌+◌, ◌<◌, ◌≤◌, sym, ap, ◌∙◌, arith}
use borrow.Author.Tests.{lt-leb}
use Rattle.positions.specs.Positions.{positions_of, spaced_of}
use Rattle.positions.proofs.Scan.{space-more, space-less, space-first, space-none, space-end, below}
use Rattle.positions.proofs.spaced.Goals as goal

pub returns-then-n-eq0 : goal.returns-then-n-eq0
returns-then-n-eq0 c =
    let a = c.args in
    sym (ap (λ n. spaced_of a.offset a.hi (positions_of n a.list.now)) c.if-n-eq0.true ∙ space-none a.list.now a.offset a.hi)

pub loop-i-init : goal.loop-i-init
loop-i-init c =
    let a = c.args in
    space-first a.n a.list.now c.get-last.result a.offset a.hi (omega arith) c.get-last.ensures

pub returns-then-saturating_sub-lt4 : goal.returns-then-saturating_sub-lt4
returns-then-saturating_sub-lt4 c =
    let a = c.args in
    let l = c.loop-i in
    let near : c.get-x.result < l.last + 4 = omega arith in
    sym (space-less a.n a.list.now l.i c.get-x.result c.loop-i-test.true c.get-x.ensures l.last a.offset a.hi near) ∙ l.invariant

pub loop-i-preserved : goal.loop-i-preserved
loop-i-preserved c =
    let a = c.args in
    let l = c.loop-i in
    let apart : l.last + 4 ≤ c.get-x.result = omega arith in
    sym (space-more a.n a.list.now l.i c.get-x.result c.loop-i-test.true c.get-x.ensures l.last a.offset a.hi apart) ∙ l.invariant

pub returns-then-last-hi : goal.returns-then-last-hi
returns-then-last-hi c =
    let a = c.args in
    let l = c.loop-i in
    below l.last a.offset a.hi (omega arith) ∙ sym (space-end a.n a.list.now l.i c.loop-i-test.false l.last a.offset a.hi) ∙ l.invariant

pub returns-else-last-hi : goal.returns-else-last-hi
returns-else-last-hi c =
    let a = c.args in
    let l = c.loop-i in
    lt-leb l.last a.hi (omega arith) ∙ sym (space-end a.n a.list.now l.i c.loop-i-test.false l.last a.offset a.hi ∙ lt-leb (l.last + a.offset) a.hi (omega arith)) ∙ l.invariant
