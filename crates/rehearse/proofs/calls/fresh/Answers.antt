-- `fresh` is `fresh_of`: the host end, then the device. Assumes nothing.
use Rattle.std.proofs.Common.{length}
use Rattle.rehearse.proofs.Steps.{fresh-refused, fresh-done}
use Rattle.rehearse.proofs.calls.fresh.Goals as goal

pub returns-then-end-ne0 : goal.returns-then-end-ne0
returns-then-end-ne0 c =
    let a = c.args in
    fresh-refused a.microphone a.device.now a.host.now (length a.lists.now) (length a.queues.now) _ _ c.new-end.ensures c.if-end-ne0.true

pub returns : goal.returns
returns c =
    let a = c.args in
    fresh-done a.microphone a.device.now a.host.now (length a.lists.now) (length a.queues.now) _ _ c.new-end.ensures c.if-end-ne0.false _ _ c.new.ensures
