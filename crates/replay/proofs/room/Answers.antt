-- `room` has its length by a law over any count: checking by computation would count a million elements. Assumes nothing.
use Rattle.std.proofs.Common.{◌≡◌, ℕ, length, replicate, sym}
use lib.ListN.{length-replicate}
use Rattle.replay.proofs.room.Goals as goal

zeros-length : (n : ℕ) → n ≡ length {A = ℕ} (replicate n 0)
zeros-length n = sym (length-replicate n 0)

pub returns : goal.returns
returns c =
    zeros-length 1048576
