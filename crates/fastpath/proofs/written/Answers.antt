-- `written` meets its contract: the bytes, then the alignment. Assumes nothing.
use Prim.Native.Nat.{ℕ}
use mathlib.Core.Path.{ap, ◌∙◌}
use mathlib.Core.List.{List}
use borrow.Author.Rules.{rules}
use Rattle.bus.specs.Bus.{front_of}
use Rattle.fastpath.specs.Quick.{aligned_of}
use Rattle.fastpath.proofs.written.Goals as goal

pub returns : goal.returns
returns c =
    λ l. ap (λ (regs : List ℕ). front_of regs l) c.align.ensures ∙ ap aligned_of (c.write_plain.ensures l)
