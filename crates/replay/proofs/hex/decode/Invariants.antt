-- `decode` meets its contract. The loop's invariant: what is decoded, then what the rest of the text gives, is what the whole gives. Assumes nothing.
use Rattle.std.proofs.Common.{◌≡◌, ◌*◌, ◌++◌, take, drop}
use Rattle.replay.specs.Hex.{from_hex}
use Rattle.replay.proofs.hex.decode.Given as goal

abbrev pub invariant-loop-i : goal.invariant-loop-i
invariant-loop-i l = take l.i l.bytes ++ from_hex (drop (2 * l.i) l.text) ≡ from_hex l.text
