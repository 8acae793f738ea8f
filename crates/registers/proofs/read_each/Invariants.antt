-- `i` bytes are read.
use Rattle.std.proofs.Common.{◌≡◌, take}
use Rattle.registers.specs.Reads.{read_of}
use Rattle.registers.proofs.read_each.Given as goal

abbrev pub invariant-loop-i : goal.invariant-loop-i
invariant-loop-i l = take l.i l.into ≡ read_of l.regs l.offset l.i
