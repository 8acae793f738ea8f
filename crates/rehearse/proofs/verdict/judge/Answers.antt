-- `judge` is `judge_of`: the tests of memory and room, then `run` on their parts. Assumes nothing.
use Rattle.std.proofs.Common.{sym, arith, length-take-le}
use Rattle.port_device.specs.Calls.{lent}
use Rattle.rehearse.proofs.Verdicts.{judge-outside, judge-narrow, judge-done}
use Rattle.rehearse.proofs.verdict.judge.Goals as goal

pub returns-then-memory-length : goal.returns-then-memory-length
returns-then-memory-length c =
    let a = c.args in
    judge-outside a.call a.bytes.now a.length (lent a.device.now a.host.now a.lists.now a.queues.now a.memory.now) a.room.now c.if-memory-length.true

pub returns-then-room-count : goal.returns-then-room-count
returns-then-room-count c =
    let a = c.args in
    judge-narrow a.call a.bytes.now a.length (lent a.device.now a.host.now a.lists.now a.queues.now a.memory.now) a.room.now c.if-memory-length.false c.if-room-count.true

pub slice_bounds-run-end-2 : goal.slice_bounds-run-end-2
slice_bounds-run-end-2 c =
    sym (length-take-le _ _ (omega arith))

pub slice_bounds-run-end-4 : goal.slice_bounds-run-end-4
slice_bounds-run-end-4 c =
    sym (length-take-le _ _ (omega arith))

pub returns : goal.returns
returns c =
    let a = c.args in
    judge-done a.call a.bytes.now a.length (lent a.device.now a.host.now a.lists.now a.queues.now a.memory.now) a.room.now c.if-memory-length.false c.if-room-count.false _ c.run.ensures
