-- An address past 64 bits ends it, else the bytes, the commands and the interrupt.
use Rattle.std.proofs.Common.{ℕ, ap, ◌∙◌, arith}
use Rattle.device.specs.Machines.{machine, done_of}
use Rattle.configuration.specs.Configuration.{write_of}
use Rattle.hda.proofs.Changing.{config-past, config-done}
use Rattle.hda.proofs.config_write_step.Goals as goal

pub returns-in_default : goal.returns-in_default
returns-in_default c =
    λ lists queues.
    let a = c.args in
    config-past a.register a.offset a.bytes.now (machine a.hda a.host lists queues a.memory.now) c.answer.result (omega (arith, c.in_default.ensures)) c.answer.ensures

pub returns : goal.returns
returns c =
    λ lists queues.
    let k = c.conclude in
    let a = c.args in
    let start = c.in-Some.ensures in
    config-done a.register a.offset a.bytes.now (machine a.hda a.host lists queues a.memory.now) c.write.new.config
    (done_of k.result lists queues k.new.memory) start.0 (c.write.ensures ∙ ap (λ (i : ℕ). write_of a.hda.config i a.bytes.now) start.1) (k.ensures lists queues)
