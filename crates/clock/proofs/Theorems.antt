-- What the clock and the frame time keep: no time is lost between calls, and the limit holds.
-- Assumes nothing.
use Rattle.std.proofs.Common.{◌≡◌, ℕ, ◌+◌, ◌*◌, ◌/◌, ◌%◌, ◌<◌, min, refl, add_assoc, add-mul, arith}
use native.Mathlib.Nat.{mod-add-mod}
use Rattle.clock.specs.declared.Clock.{Clock}
use Rattle.clock.specs.Billionths.{billion, total_of}
use Rattle.clock.specs.Clock.{wall_rate, advance_of}
use Rattle.clock.specs.Frames.{max_pending, accrue_of}
use Rattle.clock.proofs.Laws.{limited-whole}

-- the clock's remainder is less than a tick
pub advance-fraction : (c : Clock) (nanos : ℕ) → (advance_of c nanos).fraction < billion
unfolding advance_of
advance-fraction c nanos = omega arith

-- two advances in a row are one by the sum, from any clock
pub advance-twice : (c : Clock) (m n : ℕ) → advance_of (advance_of c m) n ≡ advance_of c (m + n)
unfolding advance_of
advance-twice c m n =
    let first = total_of wall_rate m c.fraction in
    let ticks : first / billion + total_of wall_rate n (first % billion) / billion ≡ total_of wall_rate (m + n) c.fraction / billion = omega arith in
    let fraction : total_of wall_rate n (first % billion) % billion ≡ total_of wall_rate (m + n) c.fraction % billion = omega arith in
    rw (mod-add-mod, add_assoc, ticks, fraction)

-- whole frames and remainder of the frame time, apart
pub accrue-exact : (rate nanos fraction : ℕ) →
    accrue_of rate nanos fraction ≡ min (total_of rate nanos fraction / billion) max_pending * billion + total_of rate nanos fraction % billion
unfolding accrue_of
accrue-exact rate nanos fraction = limited-whole (total_of rate nanos fraction)

-- at most 8,192 whole frames are deferred: the frame time is one that a restore takes (document 01, number 8)
pub accrue-bound : (rate nanos fraction : ℕ) → accrue_of rate nanos fraction < 8193 * billion
unfolding accrue_of
accrue-bound rate nanos fraction = omega arith

-- the frames that are due are those of the time that has passed, up to the limit
pub accrue-whole : (rate nanos fraction : ℕ) → accrue_of rate nanos fraction / billion ≡ min (total_of rate nanos fraction / billion) max_pending
unfolding accrue_of
accrue-whole rate nanos fraction = omega arith

-- the limit drops whole frames alone
pub accrue-remainder : (rate nanos fraction : ℕ) → accrue_of rate nanos fraction % billion ≡ total_of rate nanos fraction % billion
unfolding accrue_of
accrue-remainder rate nanos fraction = omega arith

-- time that comes in two parts with no frame taken between gives what it gives in one
pub accrue-twice : (rate m n fraction : ℕ) → accrue_of rate n (accrue_of rate m fraction) ≡ accrue_of rate (m + n) fraction
unfolding accrue_of
accrue-twice rate m n fraction = let sum = add-mul m n rate in omega arith

-- Document 01, Worked by hand, one second at 48,000: 8,192 frames are due, of which a playback into an empty queue moves 512 and defers 7,680.
pub deferred : accrue_of 48_000 billion 0 ≡ (512 + 7_680) * billion
unfolding accrue_of
deferred = refl
