-- The invariant of `play`: the calls from here leave what all of them leave, with fuel enough for the bytes that are left. The measure is these bytes:
-- each call lies past the one before. Assumes nothing.
use Rattle.std.proofs.Common.{◌≡◌, ℕ, ◌-◌, ◌≤◌, length}
use Rattle.port_device.specs.Calls.{lent}
use Rattle.rehearse.specs.Verdict.{progress, begun, play_from}
use Rattle.rehearse.proofs.play.play.Given as goal

abbrev pub invariant-loop-at : goal.invariant-loop-at
invariant-loop-at l =
    (l.at ≤ length l.all) × (length l.device ≡ length l.initial.device) × (length l.host ≡ length l.initial.host) × (length l.lists ≡ length l.initial.lists)
    × (length l.queues ≡ length l.initial.queues) × (length l.memory ≡ length l.initial.memory) × (length l.room ≡ length l.initial.room)
    × (fuel : ℕ) × (length l.all - l.at ≤ fuel)
    × (play_from fuel l.all (progress l.at l.length l.tally (lent l.device l.host l.lists l.queues l.memory) l.room)
    ≡ play_from (length l.all) l.all (progress 0 0 begun (lent l.initial.device l.initial.host l.initial.lists l.initial.queues l.initial.memory) l.initial.room))

abbrev pub decreases-loop-at : goal.decreases-loop-at
decreases-loop-at l =
    length l.all - l.at
