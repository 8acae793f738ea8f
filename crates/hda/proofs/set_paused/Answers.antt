-- Refused by the check, or the pause set.
use Rattle.std.proofs.Common.{refl, sym, ◌∙◌, length}
use Rattle.write.proofs.Checked.{number-real}
use Rattle.hda.proofs.Changing.{pause-refused, pause-done}
use Rattle.hda.proofs.set_paused.Goals as goal

pub returns-in-Err : goal.returns-in-Err
returns-in-Err c =
    let a = c.args in
    pause-refused a.paused a.hda a.host a.lists.now (length a.queues.now) c.number.result (c.number.ensures ∙ c.in-Err.ensures) c.answer.result
    (λ z. number-real c.in-Err.refusal (sym c.number.ensures ∙ z)) c.answer.ensures

pub returns : goal.returns
returns c =
    let a = c.args in
    pause-done a.paused a.hda a.host a.lists.now (length a.queues.now) 0 c.in_default.ensures c.answer-2.result refl c.answer-2.ensures
