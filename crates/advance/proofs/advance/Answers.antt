-- `advance` meets its contract: refused by the check, time that stands still, or done. Assumes nothing.
use mathlib.Core.Path.{sym, ◌∙◌, refl}
use borrow.Author.Rules.{rules}
use Rattle.advance.proofs.Outcomes.{advance-refused, advance-on, advance-still, step-needs}
use Rattle.device.specs.Machines.{machine, check_machine}
use Rattle.record.specs.Loads.{device_at}
use Rattle.refusal.proofs.Laws.{refused, refused-none, number-nonzero}
use Rattle.advance.proofs.advance.Goals as goal

pub returns-in-Err : goal.returns-in-Err
returns-in-Err c =
    let a = c.args in
    let x = machine (device_at a.device.now) a.host a.lists.now a.queues.now a.memory.now in
    let n = c.number.result in
    let same = refused c.check.result (check_machine x) c.check.ensures c.in-Err.refusal c.in-Err.is n c.number.ensures in
    record { memory_after = advance-refused a.nanos a.device.now a.host a.lists.now a.queues.now a.memory.now n same c.unchanged.result (number-nonzero c.in-Err.refusal n c.number.ensures) c.unchanged.ensures; device_after = c.requires.1 }

pub returns-then-is_still : goal.returns-then-is_still
returns-then-is_still c =
    let a = c.args in
    let x = machine (device_at a.device.now) a.host a.lists.now a.queues.now a.memory.now in
    let same = refused-none c.check.result (check_machine x) c.check.ensures c.in_default.field-0 c.in_default.is in record {
      memory_after = advance-still a.nanos a.device.now a.host a.lists.now a.queues.now a.memory.now 0 same refl c.unchanged-then-is_still.result
          (sym c.is_still.ensures ∙ c.if-is_still.true) c.unchanged-then-is_still.ensures;
      device_after = c.requires.1;
    }

pub advance_step-requires : goal.advance_step-requires
advance_step-requires c =
    let a = c.args in
    let x = machine (device_at a.device.now) a.host a.lists.now a.queues.now a.memory.now in
    let same = refused-none c.check.result (check_machine x) c.check.ensures c.in_default.field-0 c.in_default.is in
    let n = step-needs a.nanos a.device.now a.host a.lists.now a.queues.now a.memory.now 0 same refl in
    (c.requires.0, c.requires.1, sym c.is_still.ensures ∙ c.if-is_still.false, n.0, n.1)

pub returns : goal.returns
returns c =
    let s = c.advance_step in
    let a = c.args in
    let x = machine (device_at a.device.now) a.host a.lists.now a.queues.now a.memory.now in
    let same = refused-none c.check.result (check_machine x) c.check.ensures c.in_default.field-0 c.in_default.is in
    record { memory_after = s.ensures.memory_after ∙ advance-on a.nanos a.device.now a.host a.lists.now a.queues.now a.memory.now 0 same refl; device_after = s.ensures.device_after }
