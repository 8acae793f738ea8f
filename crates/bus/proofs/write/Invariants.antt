-- The bytes that are left, at `address` on, leave what all of them leave of the registers and the link as they were where the loop began.
use Rattle.std.proofs.Common.{◌≡◌, drop}
use Rattle.bus.specs.Bus.{front_of, bytes_of}
use Rattle.bus.proofs.write.Given as goal

abbrev pub invariant-loop-byte : goal.invariant-loop-byte
invariant-loop-byte l =
    bytes_of (front_of l.regs l.link) l.address (drop l.byte-index l.bytes) ≡ bytes_of (front_of l.initial.regs l.initial.link) l.offset l.bytes
