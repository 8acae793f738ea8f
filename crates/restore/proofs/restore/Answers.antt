-- `restore` is `restore_of`: a refusal of the check, or what follows it.
use mathlib.Core.Path.{sym, ◌∙◌}
use lib.ListN.{length}
use Rattle.device.proofs.Checks.{passed}
use Rattle.restore.proofs.Outcomes.{checked, passes}
use mathlib.Core.Path.{refl}
use Rattle.device.specs.Machines.{check_of}
use Rattle.refusal.proofs.Laws as laws
use Rattle.restore.proofs.restore.Goals as goal

pub returns-in-Err : goal.returns-in-Err
returns-in-Err c =
    let a = c.args in
    let n = c.number.result in
    let same = laws.refused c.check.result (check_of a.hda a.host a.lists.now (length a.queues.now)) c.check.ensures c.in-Err.refusal c.in-Err.is n c.number.ensures in
    checked a.strict a.state.now a.hda a.host a.lists.now (length a.queues.now) same (laws.number-nonzero c.in-Err.refusal n c.number.ensures) c.answer.ensures

pub restore_step-requires : goal.restore_step-requires
restore_step-requires c =
    let a = c.args in
    let none = laws.refused-none c.check.result (check_of a.hda a.host a.lists.now (length a.queues.now)) c.check.ensures c.in_default.field-0 c.in_default.is in
    (passed a.hda a.host a.lists.now (length a.queues.now) (sym none)).lists

pub returns : goal.returns
returns c =
    let a = c.args in
    let none = laws.refused-none c.check.result (check_of a.hda a.host a.lists.now (length a.queues.now)) c.check.ensures c.in_default.field-0 c.in_default.is in
    c.restore_step.ensures
    ∙ passes a.strict a.state.now a.hda a.host a.lists.now (length a.queues.now) none refl
