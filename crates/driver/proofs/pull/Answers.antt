-- `driver::pull`: where the check passes, the part that it takes from lies in the lent space. Assumes nothing.
use mathlib.Core.Path.{sym}
use native.Mathlib.Omega.{arith}
use lib.ListN.{length}
use Rattle.driver.specs.Calls.{playback_stream}
use Rattle.driver.proofs.Checks.{frames-room, frames-ready}
use Rattle.driver.proofs.pull.Goals as goal

pub slice_bounds-take-end : goal.slice_bounds-take-end
slice_bounds-take-end c =
    let a = c.args in
    omega (arith, frames-room a.host.now a.queues.now (length a.into.now) (sym c.in_ok-frame_check.ensures))

pub take-taken-requires : goal.take-taken-requires
take-taken-requires c =
    let a = c.args in
    frames-ready a.host.now a.queues.now (length a.into.now) (sym c.in_ok-frame_check.ensures) playback_stream (omega arith)
