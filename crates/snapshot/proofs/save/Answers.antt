-- `save` is `save_of`: a refusal of the check, or what follows it.
use mathlib.Core.Path.{sym, ◌∙◌}
use lib.ListN.{length}
use Rattle.device.proofs.Checks.{passed}
use Rattle.snapshot.proofs.Outcomes.{checked, passes}
use Rattle.device.specs.Machines.{check_of}
use mathlib.Core.Path.{refl}
use Rattle.refusal.proofs.Laws.{refused, refused-none, number-nonzero}
use Rattle.snapshot.proofs.save.Goals as goal

pub returns-in-Err : goal.returns-in-Err
returns-in-Err c =
    let a = c.args in
    let n = c.number.result in
    let same = refused c.check.result (check_of a.hda a.host a.lists.now (length a.queues.now)) c.check.ensures c.in-Err.refusal c.in-Err.is n c.number.ensures in
    checked a.hda a.host a.lists.now (length a.queues.now) a.into.now n same c.answer.result
    (number-nonzero c.in-Err.refusal n c.number.ensures) c.answer.ensures

pub save_step-requires : goal.save_step-requires
save_step-requires c =
    let a = c.args in
    let same = refused-none c.check.result (check_of a.hda a.host a.lists.now (length a.queues.now)) c.check.ensures c.in_default.field-0 c.in_default.is in
    let p = passed a.hda a.host a.lists.now (length a.queues.now) (sym same) in
    record { few = p.pending; long = p.lists }

pub returns : goal.returns
returns c =
    let a = c.args in
    let same = refused-none c.check.result (check_of a.hda a.host a.lists.now (length a.queues.now)) c.check.ensures c.in_default.field-0 c.in_default.is in
    c.save_step.ensures
    ∙ passes a.hda a.host a.lists.now (length a.queues.now) a.into.now 0 same refl
