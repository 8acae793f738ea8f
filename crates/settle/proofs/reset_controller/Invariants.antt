-- The streams from `index` on leave what all of them leave of the device as it was where the loop began.
use Rattle.std.proofs.Common.{◌≡◌, ◌-◌}
use Rattle.word.specs.Each.{each_of, always}
use Rattle.stream.specs.Box.{streams}
use Rattle.settle.specs.Settle.{ports, reset_at}
use Rattle.settle.proofs.reset_controller.Given as goal

abbrev pub invariant-loop-index : goal.invariant-loop-index
invariant-loop-index l = each_of always reset_at (streams - l.index) l.index (ports l.d l.h) ≡ each_of always reset_at streams 0 (ports l.initial.d l.initial.h)
