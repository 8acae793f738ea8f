-- `Queue::put` meets its contract: the copy behind the queued bytes is the definition's. Assumes nothing.
use Prim.Native.Nat.{◌+◌, ◌-◌}
use mathlib.Core.Path.{ap, ◌∙◌}
use mathlib.Core.List.{◌++◌}
use native.Mathlib.Omega.{arith}
use lib.ListN.{length, take, drop}
use Rattle.queue.specs.declared.Queue.{Queue}
use Rattle.queue.specs.Queues.{moved_of}
use Rattle.queue.proofs.Moves.{reserved, reserved-count, reserved-queue, put-moved}
use Rattle.queue.proofs.Queue.put.Goals as goal

pub returns : goal.returns
returns c =
    let q = c.args.self in
    let bytes = c.args.bytes.now in
    let part = c.args.part.now in
    let moved = c.reserve-moved in
    let count = moved.result.count in
    let copied = c.copy_from_slice in
    let bound = reserved q (length bytes) c.requires.0 moved.result moved.ensures in
    let j = q.length + count - q.length in
    ap (λ (r : Queue). moved_of count r (take q.length part ++ (copied.new.self ++ drop j (drop q.length part))))
    (reserved-queue q (length bytes) moved.result moved.ensures)
    ∙ put-moved q part bytes copied.new.self count j (reserved-count q (length bytes) moved.result moved.ensures) (omega arith) (omega arith) copied.ensures.after
