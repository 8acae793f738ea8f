-- `encode` meets its contract. The loop's invariant: what is written, then the digits of the rest of the bytes, are the digits of all. Assumes nothing.
use Rattle.std.proofs.Common.{◌≡◌, ◌*◌, ◌++◌, take, drop}
use Rattle.replay.specs.Hex.{to_hex}
use Rattle.replay.proofs.hex.encode.Given as goal

abbrev pub invariant-loop-i : goal.invariant-loop-i
invariant-loop-i l = take (2 * l.i) l.text ++ to_hex (drop l.i l.bytes) ≡ to_hex l.bytes
