-- `Engine::round` meets its contract: the frames, their transfer, and what follows it. Assumes nothing.
use native.Mathlib.Omega.{arith}
use Rattle.transfer.specs.Transfers.{left_of}
use Rattle.turn.specs.Engines.{work_of}
use Rattle.turn.proofs.Facts.{frames-few, round-ready}
use Rattle.turn.proofs.Engine.round.Goals as goal

pub overflow_mul-n : goal.overflow_mul-n
overflow_mul-n c =
    let few = frames-few c.args.g c.args.self in
    record { fits = omega (arith, few.1, c.frames-n.ensures) }

pub transfer-t-requires : goal.transfer-t-requires
transfer-t-requires c =
    let few = frames-few c.args.g c.args.self in
    record { short = omega (arith, few.1, c.frames-n.ensures); queued = c.requires.queued; long = c.requires.long; space = c.requires.space }

pub settled-requires : goal.settled-requires
settled-requires c =
    let a = c.args in
    let n = c.frames-n in
    let t = c.transfer-t in
    let x = work_of a.self a.list.now a.part.now a.memory.now in
    let ready = round-ready a.g x n.result (left_of t.result t.new.list t.new.part t.new.memory) n.ensures t.ensures c.requires.pending in
    (record { stream = c.requires.stream; pending = ready.0; long = omega (arith, t.auto.list, c.requires.long) }, ready.1)
