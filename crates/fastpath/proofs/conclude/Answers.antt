-- `conclude` meets its contract: the commands, and the end of the call. Assumes nothing.
use Prim.Native.Nat.{ℕ}
use mathlib.Core.Bool.{true}
use mathlib.Core.Path.{sym, ap, ◌∙◌}
use mathlib.Core.List.{List}
use borrow.Author.Rules.{rules}
use Rattle.record.proofs.Theorems.{device-loaded}
use Rattle.std.specs.Prelude.{Some}
use Rattle.fastpath.specs.Quick.{tried, ended_by, commanded_by, concluded_of}
use Rattle.fastpath.proofs.conclude.Goals as goal

pub returns : goal.returns
unfolding concluded_of
returns c =
    let e = c.finish in
    let k = c.commands in
    ap (λ (b : List ℕ). tried (Some e.result) b k.new.memory) (sym (device-loaded e.new.device e.ensures.device_after_2 (λ i. (c.type_inv.device i).fits)))
    ∙ ap (ended_by k.new.memory) e.ensures.device_after
    ∙ ap commanded_by k.ensures.memory_after
