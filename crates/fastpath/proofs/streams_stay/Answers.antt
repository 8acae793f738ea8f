-- `streams_stay` meets its contract: the closure compares one stream's control bytes.
use Prim.Native.Nat.{ℕ, ◌+◌, ◌*◌}
use mathlib.Core.Path.{refl, ◌∙◌}
use borrow.Author.Rules.{rules}
use Rattle.std.proofs.Common.{tests}
use Rattle.std.proofs.lemmas.Iterator.{YieldsList-from_range}
use Rattle.std.proofs.lemmas.Iterator.Search.{all_from_yields_List}
use Rattle.stream.specs.Box.{streams}
use Rattle.registers.specs.Places.{ctl, byte_at}
use Rattle.fastpath.specs.Quick.{stays_of}
use Rattle.fastpath.proofs.Scan.{stay_list}
use Rattle.fastpath.proofs.streams_stay.Goals as goal

pub returns : goal.returns
returns c =
    let old = c.args.old.now in
    let regs = c.args.regs.now in
    all_from_yields_List (λ (k : ℕ). stays_of (byte_at old (ctl k)) (byte_at regs (ctl k))) _ _ c.all.result c.all.ensures.ran (YieldsList-from_range 0 streams streams refl refl)
    (λ x r q called. (search (rules, tests), search (rules, tests)))
    ∙ stay_list old regs streams 0
