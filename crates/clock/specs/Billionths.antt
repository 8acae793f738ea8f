-- Time counted at a rate: what elapsed nanoseconds add to a count that is kept in billionths. Sums and products are those of the natural numbers, as the
-- Rust's `Hda::advance` has them in 128 bits.
use Rattle.std.specs.Prelude.{ℕ, ◌+◌, ◌*◌, ◌/◌, ◌%◌}
use Rattle.clock.specs.declared.Amount.{Amount}

-- nanoseconds in a second, and billionths in a tick or a frame
abbrev pub billion : ℕ
billion = 1_000_000_000

-- billionths after `nanos` more at `rate` a second, `fraction` being there before (document 01, Wall clock: "elapsed × 24,000,000 plus the remainder")
abbrev pub total_of : ℕ → ℕ → ℕ → ℕ
total_of rate nanos fraction = nanos * rate + fraction

-- billionths, as whole ones and what is left over
abbrev pub amount_of : ℕ → Amount
amount_of total = record { whole = total / billion; remainder = total % billion }
