-- No command waits.
use Rattle.std.proofs.Common.{sym, ◌∙◌}
use Rattle.rings.specs.Rings.{Rings, rings_of}
use Rattle.rings.proofs.Laws.{commands-caught-up}
use Rattle.rings.proofs.commands.Goals as goal

pub returns-then-caught_up : goal.returns-then-caught_up
returns-then-caught_up c =
    let a = c.args in
    let x : Rings = rings_of a.regs.now a.link a.memory.now in
    c.idle.ensures a.memory.now ∙ commands-caught-up a.dma x (sym c.running.ensures ∙ c.if-not-running.false) (sym c.caught_up.ensures ∙ c.if-caught_up.true)
