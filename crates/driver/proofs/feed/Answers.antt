-- `driver::feed`: where the check passes, the part that it puts into lies in the lent space. Assumes nothing.
use mathlib.Core.Path.{sym}
use native.Mathlib.Omega.{arith}
use lib.ListN.{length}
use Rattle.driver.specs.Calls.{capture_stream}
use Rattle.driver.proofs.Checks.{frames-room, frames-ready}
use Rattle.driver.proofs.feed.Goals as goal

pub slice_bounds-put-end : goal.slice_bounds-put-end
slice_bounds-put-end c =
    let a = c.args in
    omega (arith, frames-room a.host.now a.queues.now (length a.frames.now) (sym c.in_ok-frame_check.ensures))

pub put-moved-requires : goal.put-moved-requires
put-moved-requires c =
    let a = c.args in
    frames-ready a.host.now a.queues.now (length a.frames.now) (sym c.in_ok-frame_check.ensures) capture_stream (omega arith)
