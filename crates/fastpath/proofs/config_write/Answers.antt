-- `config_write` meets its contract: refused by the check, past 64 bits, or carried out. Assumes nothing.
use Rattle.std.proofs.Common.{ℕ, ap, ◌∙◌, arith}
use borrow.Author.Rules.{rules}
use Rattle.configuration.specs.Configuration.{write_of}
use Rattle.record.specs.Loads.{block_at}
use Rattle.record.proofs.Theorems.{record-sized}
use Rattle.record.proofs.Replaced.{config-lent}
use Rattle.refusal.specs.Refusals.{outcome_of}
use Rattle.fastpath.specs.Quick.{tried}
use Rattle.fastpath.proofs.Outcomes.{refused, passed, config-refused, config-past, config-few, config-done}
use Rattle.fastpath.proofs.config_write.Goals as goal

pub returns-then-is_err : goal.returns-then-is_err
returns-then-is_err c =
    let a = c.args in
    config-refused a.device.now a.lists.now a.queues.now a.memory.now a.host (outcome_of c.check.result) c.check.ensures a.register a.offset a.bytes.now (refused c.check.result (search rules))

pub returns-in_default : goal.returns-in_default
returns-in_default c =
    let a = c.args in
    config-past a.device.now a.lists.now a.queues.now a.memory.now a.host (outcome_of c.check.result) c.check.ensures a.register a.offset a.bytes.now (passed c.check.result (search rules)) (omega (arith, c.in_default.ensures))

pub conclude-requires : goal.conclude-requires
conclude-requires c =
    let w = c.write in
    let a = c.args in
    let start = c.in-Some.ensures in
    let written = w.ensures ∙ ap (λ (i : ℕ). write_of (block_at 6 a.device.now) i a.bytes.now) start.1 in
    let h = config-lent a.device.now c.requires.1 (λ i. (c.slice_known-1.given i).fits) w.new.config w.auto.config in
    (record-sized _ h.device, h.device, config-few a.device.now a.lists.now a.queues.now a.memory.now a.host (outcome_of c.check.result) c.check.ensures a.register a.offset a.bytes.now (passed c.check.result (search rules)) w.new.config _ written h)

pub returns : goal.returns
returns c =
    let z = c.conclude in
    let w = c.write in
    let a = c.args in
    let start = c.in-Some.ensures in
    let written = w.ensures ∙ ap (λ (i : ℕ). write_of (block_at 6 a.device.now) i a.bytes.now) start.1 in
    let h = config-lent a.device.now c.requires.1 (λ i. (c.slice_known-1.given i).fits) w.new.config w.auto.config in
    config-done a.device.now a.lists.now a.queues.now a.memory.now a.host (outcome_of c.check.result) c.check.ensures a.register a.offset a.bytes.now (passed c.check.result (search rules)) w.new.config _ written h start.0
    (tried z.result z.new.device z.new.memory) z.ensures
