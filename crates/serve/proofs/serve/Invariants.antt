-- `serve` meets its contract. The invariant: what the next turn requires holds, and the streams from `index` on leave what all of them leave of the machine as
-- it was where the loop began. Assumes nothing.
use Prim.Native.Nat.{ℕ, ◌+◌}
use mathlib.Core.Path.{◌≡◌}
use mathlib.Core.Bool.{true, false}
use lib.ListN.{length}
use Rattle.word.specs.Each.{each_of}
use Rattle.stream.specs.Box.{streams}
use Rattle.device.specs.Machines.{machine}
use Rattle.record.specs.Loads.{device_at, is_device}
use Rattle.serve.specs.Serve.{turns_of, turn_at, goes_on, ServeNeeds}
use Rattle.serve.proofs.serve.Given as goal

abbrev pub invariant-loop-index : goal.invariant-loop-index
invariant-loop-index l =
    (length l.device ≡ length l.initial.device) × (is_device l.device ≡ true) × ServeNeeds (machine (device_at l.device) l.host l.lists l.queues l.memory)
    × (n : ℕ) × (l.index + n ≡ streams)
    × (each_of goes_on (turn_at l.nanos) n l.index (turns_of false (machine (device_at l.device) l.host l.lists l.queues l.memory))
    ≡ each_of goes_on (turn_at l.nanos) streams 0 (turns_of false (machine (device_at l.initial.device) l.initial.host l.initial.lists l.initial.queues l.initial.memory)))
