-- `clear` meets its contract. Assumes nothing.
use borrow.Author.Rules.{rules}
use Rattle.jitter.proofs.clear.Goals as goal

pub returns : goal.returns
returns c =
    rw (c.fill.ensures.after (λ y e. e), c.fill-2.ensures.after (λ y e. e), c.fill-3.ensures.after (λ y e. e))
