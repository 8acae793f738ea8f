-- `move_frames` meets its contract: the samples of a capture before the pieces, the queue of a playback after them. Assumes nothing.
use mathlib.Core.Path.{ap}
use native.Mathlib.Omega.{arith}
use lib.ListN.{length}
use Rattle.queue.specs.declared.Queue.{Queue}
use Rattle.queue.specs.Queues.{capacity}
use Rattle.transfer.proofs.Laws.{silent-length, silent-own, taken-few}
use Rattle.transfer.proofs.move_frames.Goals as goal

pub captured-taken-requires : goal.captured-taken-requires
captured-taken-requires c =
    (c.requires.0.queued, c.requires.0.space, silent-own c.args.pcm.now c.args.count c.requires.2)

pub pieces-step-requires : goal.pieces-step-requires
pieces-step-requires c =
    let k = c.captured-taken in
    record { cyclic = c.requires.1; short = c.requires.0.short; room = omega (arith, k.auto.pcm, silent-length c.args.pcm.now c.args.count c.requires.2); long = c.requires.0.long }

pub queued-queue-requires : goal.queued-queue-requires
queued-queue-requires c =
    let k = c.captured-taken in
    let few = taken-few c.if-g.captured c.args.q c.args.part.now (length c.args.pcm.now) capacity c.requires.0.queued in
    (omega (arith, ap (λ (q : Queue). q.length) k.ensures.value, few), omega (arith, k.auto.part, c.requires.0.space))
