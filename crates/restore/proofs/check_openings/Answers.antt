-- `check_openings` is `opening_number`: the closure asks of one stream whether it is refused.
use Prim.Native.Nat.{ℕ}
use mathlib.Core.Path.{refl, sym, ◌∙◌}
use mathlib.Core.Bool.{◌&&◌}
use borrow.Author.Rules.{rules}
use Rattle.std.proofs.Common.{tests}
use Rattle.std.proofs.lemmas.Iterator.{YieldsList-from_range}
use Rattle.std.proofs.lemmas.Iterator.Search.{any_from_yields_List}
use Rattle.stream.specs.Box.{streams}
use Rattle.host.specs.Hosts.{fails_of}
use Rattle.restore.specs.Restores.{opens_of, opening_number}
use Rattle.restore.proofs.Turns.{refused_list}
use Rattle.restore.proofs.check_openings.Goals as goal

pub returns-then-any : goal.returns-then-any
unfolding opening_number
returns-then-any c =
    let a = c.args in
    let found = any_from_yields_List (λ (k : ℕ). opens_of a.state.now a.microphone k && fails_of a.host k) _ _ c.any.result c.any.ensures.ran (YieldsList-from_range 0 streams streams refl refl)
    (λ x b q called. (search (rules, tests), search (rules, tests))) in
    rw (sym (found ∙ refused_list a.state.now a.microphone a.host streams 0) ∙ c.if-any.true)

pub returns-else-any : goal.returns-else-any
unfolding opening_number
returns-else-any c =
    let a = c.args in
    let found = any_from_yields_List (λ (k : ℕ). opens_of a.state.now a.microphone k && fails_of a.host k) _ _ c.any.result c.any.ensures.ran (YieldsList-from_range 0 streams streams refl refl)
    (λ x b q called. (search (rules, tests), search (rules, tests))) in
    rw (sym (found ∙ refused_list a.state.now a.microphone a.host streams 0) ∙ c.if-any.false)
