-- `piece` meets its contract: all that its parts require follows from the plan. Assumes nothing.
use native.Mathlib.Omega.{arith}
use Rattle.plan.specs.Plans.{descriptor_at}
use Rattle.pieces.proofs.Plans.{move_ok, length-bound}
use Rattle.pieces.proofs.piece.Goals as goal

pub move_bytes-requires : goal.move_bytes-requires
move_bytes-requires c =
    let k = move_ok c.args.memory.now c.plan_at.ensures c.in-Ok.is in
    omega arith

pub push_end-requires : goal.push_end-requires
push_end-requires c =
    let k = move_ok c.args.memory.now c.plan_at.ensures c.in-Ok.is in
    (omega arith, omega arith, k.room)

pub next_of-requires : goal.next_of-requires
next_of-requires c =
    let k = move_ok c.args.memory.now c.plan_at.ensures c.in-Ok.is in
    let length = length-bound c.args.memory.now (descriptor_at c.args.g c.args.s) (λ i. (c.slice_known-2-1.given i).fits) k.there in
    record { listed = k.listed; offset = omega arith; submitted = omega arith; room = k.room }

pub overflow_add-result : goal.overflow_add-result
overflow_add-result c =
    let k = move_ok c.args.memory.now c.plan_at.ensures c.in-Ok.is in
    omega arith
