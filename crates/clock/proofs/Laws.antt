-- Laws of time counted in billionths: seconds apart from the rest, and the limit on whole frames.
-- Assumes nothing.
use Rattle.std.proofs.Common.{◌≡◌, ℕ, zero, suc, ◌+◌, ◌*◌, ◌/◌, ◌%◌, ◌^◌, ◌≤◌, min, sym, ap, add-mul, mul-le-mul, mul-le-mul_left, mul-zero, mul_right_comm, arith}
use native.Mathlib.Omega.{min_cases}
use Rattle.clock.specs.declared.Clock.{Clock}
use Rattle.clock.specs.Billionths.{billion, total_of, amount_of}
use Rattle.clock.specs.Clock.{wall_rate, advance_of}
use Rattle.clock.specs.Frames.{max_pending, limited, accrue_of}

-- the remainder of `fraction` carries into the whole ones together with what is added
pub carried : (added fraction : ℕ) →
    record { whole = fraction / billion + (added + fraction % billion) / billion; remainder = (added + fraction % billion) % billion }
    ≡ amount_of (added + fraction)
carried added fraction =
    let w : fraction / billion + (added + fraction % billion) / billion ≡ (added + fraction) / billion = omega arith in
    let r : (added + fraction % billion) % billion ≡ (added + fraction) % billion = omega arith in
    rw (w, r)

-- whole seconds apart: they add `rate` whole ones each
pub seconds-apart : (rate nanos fraction : ℕ) → total_of rate nanos fraction ≡ nanos / billion * rate * billion + total_of rate (nanos % billion) fraction
seconds-apart rate nanos fraction =
    let whole : nanos * rate ≡ (nanos / billion * billion + nanos % billion) * rate = ap (λ (n : ℕ). n * rate) (omega arith) in
    let parts = add-mul (nanos / billion * billion) (nanos % billion) rate in
    let order = mul_right_comm (nanos / billion) billion rate in
    omega arith

-- so its whole ones are those of the seconds and those of the rest, and its remainder is that of the rest
pub whole_apart : (rate nanos fraction : ℕ) → total_of rate nanos fraction / billion ≡ nanos / billion * rate + total_of rate (nanos % billion) fraction / billion
whole_apart rate nanos fraction = omega (arith, seconds-apart rate nanos fraction)

pub remainder-apart : (rate nanos fraction : ℕ) → total_of rate nanos fraction % billion ≡ total_of rate (nanos % billion) fraction % billion
remainder-apart rate nanos fraction = omega (arith, seconds-apart rate nanos fraction)

-- the limit, said of the whole frames alone
pub limited-whole : (total : ℕ) → limited total ≡ min (total / billion) max_pending * billion + total % billion
limited-whole total = omega arith

-- seconds past the limit change nothing: a rate above 0 is at the limit by then
pub seconds-enough : (seconds rate more : ℕ) → min (min seconds max_pending * rate + more) max_pending ≡ min (seconds * rate + more) max_pending
seconds-enough seconds zero more = simp mul-zero
seconds-enough seconds (suc rate) more =
    let one : 1 ≤ suc rate = omega arith in
    min_cases seconds max_pending _
    (λ h few. rw few)
    (λ h many. rw many (omega (arith, mul-le-mul_left max_pending one, mul-le-mul h one)))

-- the clock by seconds and part of a second
pub advanced : (c : Clock) (nanos : ℕ) →
    record {
      ticks = (c.ticks + (nanos / billion * wall_rate + total_of wall_rate (nanos % billion) c.fraction / billion)) % 2 ^ 64;
      fraction = total_of wall_rate (nanos % billion) c.fraction % billion;
    }
    ≡ advance_of c nanos
unfolding advance_of
advanced c nanos = rw (whole_apart wall_rate nanos c.fraction, remainder-apart wall_rate nanos c.fraction)

-- the frame time by seconds and part of a second
pub accrued : (rate nanos fraction : ℕ) →
    min (min (nanos / billion) max_pending * rate + total_of rate (nanos % billion) fraction / billion) max_pending * billion + total_of rate (nanos % billion) fraction % billion
    ≡ accrue_of rate nanos fraction
unfolding accrue_of
accrued rate nanos fraction =
    rw (seconds-enough (nanos / billion) rate (total_of rate (nanos % billion) fraction / billion), ← whole_apart rate nanos fraction, ← remainder-apart rate nanos fraction)
    (sym (limited-whole (total_of rate nanos fraction)))
