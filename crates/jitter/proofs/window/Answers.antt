-- `window` meets its contract. Assumes nothing.
use native.Mathlib.Omega.{arith}
use borrow.Author.Rules.{rules}
use Rattle.jitter.proofs.Copies.{window-none, window-some}
use Rattle.jitter.proofs.window.Goals as goal

pub returns-then-size-at : goal.returns-then-size-at
returns-then-size-at c =
    let a = c.args in
    window-none a.from.now a.into.now a.at a.count c.requires (omega arith)

pub returns : goal.returns
returns c =
    let a = c.args in
    window-some a.from.now a.into.now a.at a.count c.requires (omega arith) c.min-n.result (search rules) c.copy.new.into c.copy.ensures
