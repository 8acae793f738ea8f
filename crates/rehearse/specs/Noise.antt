-- The noise that guest memory starts with: the high bytes of the powers of a root modulo 2^31 - 1.
use Rattle.std.specs.Prelude.{ℕ, zero, suc, ◌*◌, ◌/◌, ◌%◌, List, [], ◌∷◌}

abbrev pub next_of : ℕ → ℕ
next_of power = power * 48271 % 2147483647

unfoldable pub noise_of : ℕ → ℕ → List ℕ
noise_of zero power = []
noise_of (suc n) power = (next_of power / 8388608) ∷ noise_of n (next_of power)
