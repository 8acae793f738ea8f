-- The streams that are left decide.
use Rattle.std.proofs.Common.{◌≡◌, ◌-◌}
use Rattle.stream.specs.Box.{streams}
use Rattle.device.specs.Devices.{streams_valid}
use Rattle.device.proofs.Hda.streams_valid.Given as goal

abbrev pub invariant-loop-index : goal.invariant-loop-index
invariant-loop-index l = streams_valid (streams - l.index) l.index l.fn.self l.lists ≡ streams_valid streams 0 l.fn.self l.lists
