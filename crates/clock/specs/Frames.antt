-- A stream's frame time, in billionths of a frame (the Rust's `Stream::fraction`).
use Rattle.std.specs.Prelude.{ℕ, ◌+◌, ◌*◌, ◌/◌, ◌%◌, min}
use Rattle.clock.specs.Billionths.{billion, total_of}

-- the most whole frames that are deferred (document 01, `advance`; the Rust's `MAX_PENDING_FRAMES`)
abbrev pub max_pending : ℕ
max_pending = 8192

-- a frame time with at most `max_pending` whole frames in it, and the remainder kept
abbrev pub limited : ℕ → ℕ
limited total = min total (max_pending * billion + total % billion)

-- the frame time `nanos` nanoseconds later at `rate` frames a second (the Rust's `Hda::advance`)
unfoldable pub accrue_of : ℕ → ℕ → ℕ → ℕ
accrue_of rate nanos fraction = limited (total_of rate nanos fraction)

-- the whole frames that are due
abbrev pub whole_frames_of : ℕ → ℕ
whole_frames_of fraction = fraction / billion

-- what is left where a stream stops: less than a frame (the Rust's `Hda::stream_error`)
abbrev pub remainder_of : ℕ → ℕ
remainder_of fraction = fraction % billion
