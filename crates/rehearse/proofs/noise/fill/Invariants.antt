-- `fill` meets its contract. The loop's invariant: what is written, then the noise from the power that is reached, is all of it. Assumes nothing.
use Rattle.std.proofs.Common.{◌≡◌, ◌-◌, ◌%◌, ◌<◌, ◌++◌, length, take}
use Rattle.rehearse.specs.Noise.{noise_of}
use Rattle.rehearse.proofs.noise.fill.Given as goal

abbrev pub invariant-loop-byte : goal.invariant-loop-byte
invariant-loop-byte l = record {
  below : l.power < 2147483647;
  noise : take l.byte-index l.memory ++ noise_of (length l.memory - l.byte-index) l.power ≡ noise_of (length l.initial.memory) (l.seed % 2147483647);
}
