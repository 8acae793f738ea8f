-- The bytes that are left, at `at` on, leave what all of them leave, whatever the link is.
use Rattle.std.proofs.Common.{◌≡◌, ◌+◌, drop}
use Rattle.rings.specs.declared.Link.{Link}
use Rattle.bus.specs.Bus.{front_of, bytes_of}
use Rattle.bus.proofs.write_plain.Given as goal

abbrev pub invariant-loop-value : goal.invariant-loop-value
invariant-loop-value live =
    (live.at ≡ live.offset + live.value-index)
    × ((l : Link) → bytes_of (front_of live.regs l) live.at (drop live.value-index live.bytes) ≡ bytes_of (front_of live.initial.regs l) live.offset live.bytes)
