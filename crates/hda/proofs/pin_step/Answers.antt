-- `pin_step` meets its contract: nothing where no one listens, else the pin's response and the interrupt. Assumes nothing.
use mathlib.Core.Path.{sym, ◌∙◌}
use Rattle.device.specs.Machines.{machine, commanded}
use Rattle.hda.proofs.Changing.{listening-node, pin-quiet, pin-done}
use Rattle.hda.proofs.pin_step.Goals as goal

pub returns-then-not-is_listening : goal.returns-then-not-is_listening
returns-then-not-is_listening c =
    λ lists queues.
    let a = c.args in
    pin-quiet a.node (machine a.hda a.host lists queues a.memory.now) c.answer.result (sym c.is_listening.ensures ∙ c.if-not-is_listening.true) c.answer.ensures

pub respond-requires : goal.respond-requires
respond-requires c =
    (c.requires, listening-node c.args.hda c.args.node (sym c.is_listening.ensures ∙ c.if-not-is_listening.false))

pub returns : goal.returns
returns c =
    λ lists queues.
    let p = c.respond in
    let a = c.args in
    pin-done a.node (machine a.hda a.host lists queues a.memory.now) (commanded p.result p.new.memory) c.finish.result
    (sym c.is_listening.ensures ∙ c.if-not-is_listening.false) p.ensures c.finish.ensures
