-- The box: how many streams it has, and which of them capture (the Rust's stream 0 captures, its stream 1 plays).
use Rattle.std.specs.Prelude.{ℕ, ◌/◌, Bool, ltb}

abbrev pub streams : ℕ
streams = 2

-- the first half captures, the second half plays
abbrev pub captures : ℕ → Bool
captures i = ltb i (streams / 2)
