-- `run` is `run_of`: the call on an erased buffer, compared. Assumes nothing.
use Rattle.port_device.specs.Calls.{lent}
use Rattle.rehearse.proofs.Verdicts.{run-done}
use Rattle.rehearse.proofs.verdict.run.Goals as goal

pub returns : goal.returns
returns c =
    let a = c.args in
    run-done a.call a.bytes.now (lent a.device.now a.host.now a.lists.now a.queues.now a.memory.now) a.into.now _ (c.fill.ensures.after (λ y e. e)) _ c.perform-reply.ensures _ c.digest_of-digest.ensures _ c.agrees.ensures
