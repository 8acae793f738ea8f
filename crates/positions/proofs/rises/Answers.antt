-- `positions::rises` meets its contract: each turn looks at one position, and behind the last one only `hi` is left to ask. Assumes nothing.
use Rattle.std.proofs.Common.{◌≡◌, ◌+◌, Bool, true, false, ◌&&◌, ◌||◌, eqb, leb, drop, sym, ap, ◌∙◌, eq-eqb, arith}
use mathlib.Core.Bool.{and-false, and-true, or-true}
use borrow.Author.Tests.{ne_eqb}
use Rattle.positions.specs.Positions.{positions_of, rises_of}
use Rattle.positions.proofs.Scan.{rise-more, rise-low, rise-end}
use Rattle.positions.proofs.rises.Goals as goal

pub returns-then-x-last : goal.returns-then-x-last
returns-then-x-last c =
    let a = c.args in
    let l = c.loop-i in
    let known = eqb l.i 0 || leb l.last a.hi in
    let low = rise-low a.n a.list.now l.i c.get-x.result c.loop-i-test.true c.get-x.ensures l.last a.hi (omega arith) in
    sym (ap (λ (b : Bool). known && b) low ∙ and-false known) ∙ l.invariant

pub loop-i-preserved : goal.loop-i-preserved
loop-i-preserved c =
    let a = c.args in
    let l = c.loop-i in
    let x = c.get-x.result in
    let rest = rises_of x (drop (l.i + 1) (positions_of a.n a.list.now)) a.hi in
    let within = λ (e : leb l.last a.hi ≡ true). ap (λ (b : Bool). eqb l.i 0 || b) e ∙ or-true (eqb l.i 0) in
    let more = rise-more a.n a.list.now l.i x c.loop-i-test.true c.get-x.ensures l.last a.hi (eqb l.i 0 || leb l.last a.hi) within (omega arith) in
    ap (λ (b : Bool). (b || leb x a.hi) && rest) (ne_eqb (l.i + 1) 0 (λ e. omega arith)) ∙ sym more ∙ l.invariant

pub returns-then-n-eq0 : goal.returns-then-n-eq0
returns-then-n-eq0 c =
    let a = c.args in
    eq-eqb _ _ c.if-n-eq0.true ∙ sym (rise-end a.n a.list.now 0 (omega arith) a.lo a.hi)

pub returns-else-n-eq0 : goal.returns-else-n-eq0
returns-else-n-eq0 c =
    let a = c.args in
    let l = c.loop-i in
    let end = rise-end a.n a.list.now l.i c.loop-i-test.false l.last a.hi in
    let some : eqb l.i 0 ≡ false = ne_eqb l.i 0 (λ e. omega arith) in
    sym (and-true (leb l.last a.hi)) ∙ (rw (some, end) at l.invariant)
