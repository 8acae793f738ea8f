-- `check_list` is `list_number`: the two limits of the count, then the order.
use native.Mathlib.Omega.{arith}
use borrow.Author.Rules.{rules}
use Rattle.parse.specs.States.{list_number}
use Rattle.parse.proofs.Parts.{list-ordered, list-unordered}
use Rattle.parse.proofs.check_list.Goals as goal

pub returns-then-count-gt-PLACES : goal.returns-then-count-gt-PLACES
unfolding list_number
returns-then-count-gt-PLACES c =
    search rules

pub returns-then-rises : goal.returns-then-rises
returns-then-rises c =
    let a = c.args in
    list-ordered a.state.now a.s a.at (omega arith) (omega arith) c.rises.ensures c.if-rises.true

pub returns-else-rises : goal.returns-else-rises
returns-else-rises c =
    let a = c.args in
    list-unordered a.state.now a.s a.at (omega arith) (omega arith) c.rises.ensures c.if-rises.false
