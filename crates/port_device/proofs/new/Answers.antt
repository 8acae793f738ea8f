-- `new` is `new_of`: refused, no room for a record, and made.
use mathlib.Core.Path.{refl, ap, ◌∙◌}
use mathlib.Core.Bool.{false}
use Prim.Native.Nat.{ℕ}
use Rattle.std.proofs.Common.{Ok, Err}
use lib.ListN.{length}
use Rattle.hda.specs.Calls.{made_as}
use Rattle.refusal.specs.Refusals.{number_of}
use Rattle.refusal.proofs.Laws.{number-nonzero}
use Rattle.reply.specs.Replies.{reply_of}
use Rattle.port_device.proofs.Outcomes.{new-short, new-unfit, new-done}
use Rattle.port_device.proofs.new.Goals as goal

pub returns-in-Err : goal.returns-in-Err
returns-in-Err c =
    let a = c.args in
    let refusal = c.in-Err.refusal in
    new-short a.microphone a.device.now (length a.lists.now) (length a.queues.now) (made_as a.microphone (Err refusal)) c.in-Err.ensures (number-nonzero refusal (number_of refusal) refl) c.reply.result
    (c.reply.ensures ∙ ap (λ (n : ℕ). reply_of n false false 0) c.number.ensures)

pub returns-then-device-ne-DEVICE : goal.returns-then-device-ne-DEVICE
returns-then-device-ne-DEVICE c =
    let a = c.args in
    new-unfit a.microphone a.device.now (length a.lists.now) (length a.queues.now) (made_as a.microphone (Ok c.in-Ok.hda)) c.in-Ok.ensures refl c.if-device-ne-DEVICE.true c.reply-then-device-ne-DEVICE.result
    (c.reply-then-device-ne-DEVICE.ensures ∙ ap (λ (n : ℕ). reply_of n false false 0) c.number-then-device-ne-DEVICE.ensures)

pub returns-else-device-ne-DEVICE : goal.returns-else-device-ne-DEVICE
returns-else-device-ne-DEVICE c =
    let a = c.args in
    new-done a.microphone a.device.now (length a.lists.now) (length a.queues.now) (made_as a.microphone (Ok c.in-Ok.hda)) c.in-Ok.ensures refl c.if-device-ne-DEVICE.false c.reply-in-Ok.result
    c.store_device.new.into c.reply-in-Ok.ensures c.store_device.ensures
