-- The call's steps, none of which a caller sees: what a case runs on, which times it stands for, and what the cases so far have found.
use Rattle.std.specs.Prelude.{ℕ, ◌-◌, ◌*◌, ◌≤◌, ◌<◌, min, max, ◌≡◌, true, false, List, length, take, drop, get_or}
use Rattle.word.specs.Place.{put_at}
use Rattle.word.specs.Each.{always, each_of}
use Rattle.stream.specs.Streams.{list_size}
use Rattle.stream.specs.Box.{streams}
use Rattle.queue.specs.Queues.{capacity}
use Rattle.host.specs.declared.Host.{Host}
use Rattle.device.specs.declared.Hda.{Hda}
use Rattle.device.specs.Devices.{stream_at}
use Rattle.device.specs.Machines.{Machine, check_machine}
use Rattle.record.specs.Layout.{device_size}
use Rattle.record.specs.Loads.{is_device}
use Rattle.counts.specs.Counts.{movable_of, list_at, list_window, ring_at, ring_window}
use Rattle.jitter.specs.declared.Spread.{Spread}
use Rattle.jitter.specs.Bounds.{count_of, lowest_of, highest_of}

-- ---- scratch: whatever stands in it, with windows of what it stands for in their places
-- n bytes of m from `at` on, or as many as there are
unfoldable pub window_of : List ℕ → ℕ → ℕ → List ℕ → List ℕ
window_of m at n l = let a = min at (length m) in put_at a (take (min n (length m - a)) (drop a m)) l

-- one for each stream
abbrev pub windows_of : (ℕ → ℕ) → (ℕ → ℕ) → List ℕ → List ℕ → List ℕ
windows_of at n m l = each_of always (λ (i : ℕ). window_of m (at i) (n i)) streams 0 l

-- of guest memory what counts can depend on, of the lists what is pending
unfoldable pub seen_of : List ℕ → List ℕ → List ℕ → List ℕ
seen_of regs m l = window_of m (ring_at regs) ring_window (windows_of (list_at regs) (λ (i : ℕ). list_window) m l)

unfoldable pub pending_of : Hda → List ℕ → List ℕ → List ℕ
pending_of d lists l = windows_of (λ (i : ℕ). list_size * i) (λ (i : ℕ). 8 * (stream_at d i).pending) lists l

-- what a case requires: a machine that passes the check with both switches off, and scratch as long as what it stands for
pub record CaseNeeds (x : Machine) (b lists' queues' memory' : List ℕ) : Type 0 where
  pub sized : length b ≡ device_size
  pub device : is_device b ≡ true
  pub passes : check_machine x ≡ 0
  pub playback : x.host.playback ≡ false
  pub capture : x.host.capture ≡ false
  pub lists : length lists' ≡ length x.lists
  pub queues : length queues' ≡ length x.queues
  pub memory : length memory' ≡ length x.memory

-- and what all of them require: scratch that is not short
pub record SpreadNeeds (x : Machine) (b lists' queues' memory' : List ℕ) : Type 0 where
  pub sized : length b ≡ device_size
  pub device : is_device b ≡ true
  pub passes : check_machine x ≡ 0
  pub lists : list_size * streams ≤ length lists'
  pub queues : capacity * streams ≤ length queues'
  pub memory : length x.memory ≤ length memory'

-- ---- times
-- a time between two that makes each stream as many frames to move as the first
pub record Lasting (d : Hda) (h : Host) (nanos longest end : ℕ) : Type 0 where
  pub low : nanos ≤ end
  pub high : end ≤ longest
  pub same : (i : ℕ) → i < streams → movable_of d h i nanos ≡ movable_of d h i end

-- ---- counts, a number for each stream
-- those of a device, and those after a call by `nanos`
pub record Counted (r : List ℕ) (d : Hda) : Type 0 where
  pub each : (i : ℕ) → i < streams → get_or r i 0 ≡ (stream_at d i).submitted

pub record CountedAt (r : List ℕ) (x : Machine) (nanos : ℕ) : Type 0 where
  pub each : (i : ℕ) → i < streams → get_or r i 0 ≡ count_of x i nanos

-- the lesser and the greater of what was found and of one count more
pub record Widened (r a : Spread) (found : List ℕ) : Type 0 where
  pub lowest : (i : ℕ) → i < streams → get_or r.lowest i 0 ≡ min (get_or a.lowest i 0) (get_or found i 0)
  pub highest : (i : ℕ) → i < streams → get_or r.highest i 0 ≡ max (get_or a.highest i 0) (get_or found i 0)

-- the answer
pub record SpreadOf (r : Spread) (x : Machine) (shortest longest : ℕ) : Type 0 where
  pub lowest : (i : ℕ) → i < streams → get_or r.lowest i 0 ≡ lowest_of x i shortest longest
  pub highest : (i : ℕ) → i < streams → get_or r.highest i 0 ≡ highest_of x i shortest longest
