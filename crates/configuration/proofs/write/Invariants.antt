-- The bytes that are left, at `a` on, finish the write.
use Rattle.std.proofs.Common.{◌≡◌, drop}
use Rattle.configuration.specs.Configuration.{write_of}
use Rattle.configuration.proofs.write.Given as goal

abbrev pub invariant-loop-byte : goal.invariant-loop-byte
invariant-loop-byte l = write_of l.config l.a (drop l.byte-index l.bytes) ≡ write_of l.initial.config l.start l.bytes
