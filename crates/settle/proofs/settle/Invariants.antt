-- The streams from `index` on leave what all of them leave of the device as it was where the loop began.
use Rattle.std.proofs.Common.{◌≡◌, ◌-◌}
use Rattle.word.specs.Each.{each_of, always}
use Rattle.stream.specs.Box.{streams}
use Rattle.settle.specs.Settle.{ports, settle_at}
use Rattle.settle.proofs.settle.Given as goal

abbrev pub invariant-loop-index : goal.invariant-loop-index
invariant-loop-index l = each_of always (settle_at l.old) (streams - l.index) l.index (ports l.d l.h) ≡ each_of always (settle_at l.old) streams 0 (ports l.initial.d l.initial.h)
