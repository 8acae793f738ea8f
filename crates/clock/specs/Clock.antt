-- The wall clock (document 01, Wall clock; the Rust's `wall_ticks` and `wall_fraction`).
use Rattle.std.specs.Prelude.{ℕ, ◌+◌, ◌/◌, ◌%◌, ◌^◌}
use Rattle.clock.specs.declared.Clock.{Clock}
use Rattle.clock.specs.Billionths.{billion, total_of}

-- ticks in a second: 24 MHz
abbrev pub wall_rate : ℕ
wall_rate = 24_000_000

-- a new device's clock (the Rust's `Hda::new`)
abbrev pub fresh_of : Clock
fresh_of = record { ticks = 0; fraction = 0 }

-- the clock `nanos` nanoseconds later; the tick count has 64 bits and wraps (the Rust's `Hda::advance`)
unfoldable pub advance_of : Clock → ℕ → Clock
advance_of c nanos =
    record {
      ticks = (c.ticks + total_of wall_rate nanos c.fraction / billion) % 2 ^ 64;
      fraction = total_of wall_rate nanos c.fraction % billion;
    }

-- what register 0x30 shows: the low 32 bits (document 01, Wall clock)
abbrev pub shown_of : Clock → ℕ
shown_of c = c.ticks % 2 ^ 32
