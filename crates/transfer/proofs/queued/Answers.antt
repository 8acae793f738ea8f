-- `queued` where it plays: as much of what is heard as fits, behind the rest. Assumes nothing.
use Prim.Native.Nat.{◌+◌, ◌-◌}
use native.Mathlib.Omega.{arith}
use lib.ListN.{length}
use Rattle.queue.proofs.Moves.{reserved, reserved-count, reserved-queue}
use Rattle.transfer.proofs.Laws.{queued-put}
use Rattle.transfer.proofs.queued.Goals as goal

pub returns : goal.returns
returns c =
    let a = c.args in
    let n = length a.pcm.now in
    let r = c.reserve-reserved in
    let fits = reserved a.q n c.requires.0 r.result r.ensures in
    queued-put a.plays a.q a.connected a.left a.right a.part.now a.pcm.now r.result.queue r.result.count (a.q.length + r.result.count - a.q.length)
    c.heard.new.into c.if-not-plays.false (reserved-count a.q n r.result r.ensures) (reserved-queue a.q n r.result r.ensures) (omega arith)
    (omega (arith, fits.room, c.requires.1)) (omega (arith, fits.given)) c.heard.ensures
