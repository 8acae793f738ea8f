-- A timer with jitter (request T-13): a host that knows the elapsed time of a call only between a shortest and a longest asks for the lowest and the highest submitted count that `advance` can leave of each stream.
use Rattle.std.specs.Prelude.{ℕ, zero, suc, ◌+◌, ◌-◌, ◌≤◌, min, max, ◌≡◌, false}
use Rattle.host.specs.declared.Host.{Host}
use Rattle.host.specs.Hosts.{host}
use Rattle.device.specs.Devices.{stream_at}
use Rattle.device.specs.Machines.{Machine, machine}
use Rattle.advance.specs.Advance.{advance_of}

-- both opening switches taken as off
abbrev pub without_switches : Host → Host
without_switches h = host false false h.downstream h.queues

abbrev pub switched_off : Machine → Machine
switched_off x = machine x.hda (without_switches x.host) x.lists x.queues x.memory

-- stream i's submitted count after `advance` by `nanos`; each time starts from the same machine, as from a copy
unfoldable pub count_of : Machine → ℕ → ℕ → ℕ
count_of x i nanos = (stream_at (advance_of nanos (switched_off x)).answer.hda i).submitted

-- the least and the greatest of f at first, first + 1, .. first + more
unfoldable pub least_of : (ℕ → ℕ) → ℕ → ℕ → ℕ
least_of f first zero = f first
least_of f first (suc more) = min (least_of f first more) (f (first + suc more))

unfoldable pub greatest_of : (ℕ → ℕ) → ℕ → ℕ → ℕ
greatest_of f first zero = f first
greatest_of f first (suc more) = max (greatest_of f first more) (f (first + suc more))

-- over every whole number of nanoseconds from the shortest to the longest
unfoldable pub lowest_of : Machine → ℕ → ℕ → ℕ → ℕ
lowest_of x i shortest longest = least_of (count_of x i) shortest (longest - shortest)

unfoldable pub highest_of : Machine → ℕ → ℕ → ℕ → ℕ
highest_of x i shortest longest = greatest_of (count_of x i) shortest (longest - shortest)

-- The request's own words: every elapsed time between ends within the two, and both ends are reached.
pub record Bounds (x : Machine) (i shortest longest low high : ℕ) : Type 0 where
  pub within : (t : ℕ) → shortest ≤ t → t ≤ longest → (low ≤ count_of x i t) × (count_of x i t ≤ high)
  pub lowest : (t : ℕ) × (shortest ≤ t) × (t ≤ longest) × (count_of x i t ≡ low)
  pub highest : (t : ℕ) × (shortest ≤ t) × (t ≤ longest) × (count_of x i t ≡ high)
