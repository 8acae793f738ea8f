-- The streams from `index` on leave what all of them leave of the file as it was where the loop began.
use Rattle.std.proofs.Common.{◌≡◌, ◌-◌}
use Rattle.word.specs.Each.{each_of, always}
use Rattle.stream.specs.Box.{streams}
use Rattle.registers.specs.Writes.{align_stream_of}
use Rattle.registers.proofs.align.Given as goal

abbrev pub invariant-loop-index : goal.invariant-loop-index
invariant-loop-index l = each_of always align_stream_of (streams - l.index) l.index l.regs ≡ each_of always align_stream_of streams 0 l.initial.regs
