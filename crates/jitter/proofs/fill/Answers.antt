-- `fill` meets its contract. Assumes nothing.
use Prim.Native.Nat.{ℕ}
use mathlib.Core.Path.{sym, ap, ◌∙◌}
use mathlib.Core.List.{List}
use native.Mathlib.Omega.{arith}
use Rattle.word.proofs.Lists.{copied-whole}
use Rattle.jitter.specs.Steps.{seen_of}
use Rattle.jitter.proofs.Cases.{own-regs}
use borrow.Author.Rules.{rules}
use Rattle.jitter.proofs.fill.Goals as goal

pub returns : goal.returns
returns c =
    let a = c.args in (
      c.pending.ensures,
      copied-whole a.queues.now a.queues2.now c.copy.new.into (omega (arith, c.requires.2)) c.copy.ensures,
      c.seen.ensures ∙ ap (λ (r : List ℕ). seen_of r a.memory.now a.memory2.now) (sym (own-regs a.device.now)),
    )
