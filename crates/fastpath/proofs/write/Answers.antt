-- `write` meets its contract: refused by the check, left alone, or carried out. Assumes nothing.
use mathlib.Core.Path.{sym, ◌∙◌}
use borrow.Author.Rules.{rules}
use borrow.Author.Tests.{not-true, not-false}
use Rattle.record.proofs.Theorems.{record-sized}
use Rattle.refusal.specs.Refusals.{outcome_of}
use Rattle.fastpath.specs.Quick.{tried}
use Rattle.fastpath.proofs.Outcomes.{refused, passed, write-refused, write-reaching, write-few, write-left, write_done}
use Rattle.fastpath.proofs.write.Goals as goal

pub returns-then-is_err : goal.returns-then-is_err
returns-then-is_err c =
    let a = c.args in
    write-refused a.device.now a.lists.now a.queues.now a.memory.now a.host (outcome_of c.check.result) c.check.ensures a.offset a.bytes.now (refused c.check.result (search rules))

pub returns-then-not-is_plain_write : goal.returns-then-not-is_plain_write
returns-then-not-is_plain_write c =
    let a = c.args in
    write-reaching a.device.now a.lists.now a.queues.now a.memory.now a.host (outcome_of c.check.result) c.check.ensures a.offset a.bytes.now (passed c.check.result (search rules)) (sym c.is_plain_write.ensures ∙ c.if-not-is_plain_write.true)

pub written-requires : goal.written-requires
written-requires c =
    sym c.is_plain_write.ensures ∙ c.if-not-is_plain_write.false

pub returns-then-not-is_quiet : goal.returns-then-not-is_quiet
returns-then-not-is_quiet c =
    let old = c.load_block-old in
    let a = c.args in
    write-left a.device.now a.lists.now a.queues.now a.memory.now a.host (outcome_of c.check.result) c.check.ensures a.offset a.bytes.now (passed c.check.result (search rules)) (sym c.is_plain_write.ensures ∙ c.if-not-is_plain_write.false)
    old.result c.written.new.regs old.ensures c.written.ensures (sym c.is_quiet.ensures ∙ c.if-not-is_quiet.true)

pub conclude-requires : goal.conclude-requires
conclude-requires c =
    let put = c.replace_registers in
    let old = c.load_block-old in
    let a = c.args in (
      record-sized _ put.ensures.device,
      put.ensures.device,
      write-few a.device.now a.lists.now a.queues.now a.memory.now a.host (outcome_of c.check.result) c.check.ensures a.offset a.bytes.now (passed c.check.result (search rules)) (sym c.is_plain_write.ensures ∙ c.if-not-is_plain_write.false)
          old.result c.written.new.regs old.ensures c.written.ensures put.new.into put.ensures,
    )

pub returns : goal.returns
returns c =
    let z = c.conclude in
    let put = c.replace_registers in
    let old = c.load_block-old in
    let a = c.args in
    write_done a.device.now a.lists.now a.queues.now a.memory.now a.host (outcome_of c.check.result) c.check.ensures a.offset a.bytes.now (passed c.check.result (search rules)) (sym c.is_plain_write.ensures ∙ c.if-not-is_plain_write.false)
    old.result c.written.new.regs old.ensures c.written.ensures put.new.into put.ensures (sym c.is_quiet.ensures ∙ c.if-not-is_quiet.false)
    (tried z.result z.new.device z.new.memory) z.ensures
