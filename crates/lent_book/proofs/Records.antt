-- A call on bytes is the call on the machine in them: the records that it leaves hold the device and the host end that the definition gives, and bytes that are no records stay. Assumes
-- nothing.
use Prim.Native.Nat.{ℕ, ◌+◌}
use mathlib.Core.Path.{◌≡◌, refl}
use mathlib.Core.Bool.{Bool, true, false}
use mathlib.Core.List.{List}
use native.Mathlib.Omega.{arith}
use native.Mathlib.Nat.{zero-add}
use lib.ListN.{length}
use Rattle.word.specs.Value.{Bytes}
use Rattle.word.proofs.Place.{word_bound}
use Rattle.stream.specs.Box.{streams}
use Rattle.queue.specs.Queues.{closed}
use Rattle.host.specs.declared.Host.{Host}
use Rattle.driver.specs.Calls.{Set, playback_fails_of, capture_fails_of, downstream_of}
use Rattle.device.specs.Machines.{Machine, Done}
use Rattle.write.specs.Writes.{write_of}
use Rattle.hda.specs.Calls.{bar_write_of, config_write_of, pin_of}
use Rattle.advance.specs.Advance.{advance_of}
use Rattle.record.specs.Rows.{row_of}
use Rattle.record.specs.Devices.{device_bytes}
use Rattle.record.specs.Loads.{device_at, is_device}
use Rattle.record.specs.Typed.{TypedDevice}
use Rattle.record.proofs.Places.{row_at}
use Rattle.record.proofs.Replaced.{loaded-typed}
use Rattle.record.proofs.Theorems.{device-stored, device-record}
use Rattle.host_record.specs.Hosts.{host_size, queue_place, host_bytes, queue_at, host_at, is_host}
use Rattle.host_record.specs.Typed.{TypedHost}
use Rattle.host_record.proofs.Theorems.{host-stored}
use Rattle.reply.specs.Replies.{is_machine}
use Rattle.reply.proofs.Records.{device-length, host-length, machine-device, machine-host}
use Rattle.port_device.specs.Calls.{Lent, lent, machine_at, behind, paused_of}
use Rattle.port_host.specs.Calls as ends
use Rattle.calls.specs.Calls as calls
use Rattle.calls.specs.Calls.{after, left_of}
use Rattle.lent_book.specs.Typed.{TypedMachine}
use Rattle.lent_calls.specs.Calls as lents
use Rattle.lent_book.proofs.Turns.{bytes-part}
use Rattle.lent_book.proofs.Typed.{after-typed}

-- ---- what is read out of bytes is typed
module _ (b : List ℕ) (h : Bytes b) where
  loaded-regs : Bytes (device_at b).regs
  unfolding device_at
  loaded-regs = bytes-part 256 262 b h

  loaded-host : length b ≡ host_size → TypedHost (host_at b)
  unfolding host_at row_of
  loaded-host size =
      record {
        downstream = word_bound 4 2 b (omega arith) h;
        count = refl;
        lengths = λ i few. rw (row_at closed (λ (k : ℕ). queue_at (queue_place k) b) streams 0 i few, zero-add i) (word_bound 4 (queue_place i + 1) b (omega arith) h);
      }

-- bytes that are a device's record, and the device in them typed
pub record Ready (b : List ℕ) : Type 0 where
  pub there : is_device b ≡ true
  pub typed : TypedDevice (device_at b)
  pub regs : Bytes (device_at b).regs

pub bytes_ready : (b : List ℕ) → is_device b ≡ true → Bytes b → Ready b
bytes_ready b r h = record { there = r; typed = loaded-typed b (device-length b r) h; regs = loaded-regs b h }

-- the record of a typed device
pub stored-ready : (b : List ℕ) → (there : is_device b ≡ true) → (x : Machine) → device_at b ≡ x.hda → TypedMachine x → Ready b
stored-ready b there x e t = record { there = there; typed = rw e t.device; regs = rw e t.regs }

pub machine-typed : (x : Lent) → Ready x.device → is_host x.host ≡ true → Bytes x.host → Bytes x.queues → Bytes x.memory → TypedMachine (machine_at x)
machine-typed x r e host queues memory =
    record { device = r.typed; regs = r.regs; host = loaded-host x.host host (host-length x.host e); queues = queues; memory = memory }

-- ---- a call on bytes that are records
abbrev bytes_of : Machine → Lent
bytes_of y = lent (device_bytes y.hda) (host_bytes y.host) y.lists y.queues y.memory

-- all that a call on bytes owes: the machine in them, in a device's record
pub record Meets (x : Lent) (y : Machine) : Type 0 where
  pub same : machine_at x ≡ y
  pub there : is_device x.device ≡ true

module _ (y : Machine) (t : TypedMachine y) where
  whole_meets : Meets (bytes_of y) y
  whole_meets = record { same = rw (device-stored y.hda t.device, host-stored y.host t.host); there = device-record y.hda t.device }

  device-meets : (host lists queues memory : List ℕ) → host_at host ≡ y.host → lists ≡ y.lists → queues ≡ y.queues → memory ≡ y.memory
      → Meets (lent (device_bytes y.hda) host lists queues memory) y
  device-meets host lists queues memory eh el eq em = record { same = rw (device-stored y.hda t.device, eh, el, eq, em); there = device-record y.hda t.device }

  host-meets : (device lists queues memory : List ℕ) → is_device device ≡ true → device_at device ≡ y.hda → lists ≡ y.lists → queues ≡ y.queues → memory ≡ y.memory
      → Meets (lent device (host_bytes y.host) lists queues memory) y
  host-meets device lists queues memory there ed el eq em = record { same = rw (host-stored y.host t.host, ed, el, eq, em); there = there }

module _ (x : Lent) (e : is_machine x.device x.host ≡ true) (t : TypedMachine (machine_at x)) where
  there : is_device x.device ≡ true
  there = machine-device x.device x.host e

  hosted : is_host x.host ≡ true
  hosted = machine-host x.device x.host e

  behind-meets : (call : Machine → Done) → TypedMachine (left_of (call (machine_at x))) → Meets (behind call x).lent (left_of (call (machine_at x)))
  unfolding behind
  behind-meets call k = rw e (whole_meets (left_of (call (machine_at x))) k)

  setting-meets : (call : Host → ℕ → Set) → let y = calls.with_host (machine_at x) (call (host_at x.host) (length x.queues)).host x.queues in TypedMachine y
      → Meets (lents.with_host x (ends.setting call x.host (length x.queues)).host x.queues) y
  unfolding ends.setting
  setting-meets call k = rw hosted (host-meets _ k x.device x.lists x.queues x.memory there refl refl refl refl)

  pause-meets : (paused : Bool) → TypedMachine (after (calls.pause paused) (machine_at x)) → Meets (lents.after (lents.on (calls.pause paused)) x) (after (calls.pause paused) (machine_at x))
  unfolding lents.after after paused_of
  pause-meets paused k = rw e (device-meets (after (calls.pause paused) (machine_at x)) k x.host x.lists x.queues x.memory refl refl refl refl)

  feed-meets : (frames : List ℕ) → TypedMachine (after (calls.feed frames) (machine_at x)) → Meets (lents.after (lents.on (calls.feed frames)) x) (after (calls.feed frames) (machine_at x))
  unfolding lents.after after ends.feed_of
  feed-meets frames k = let y = after (calls.feed frames) (machine_at x) in rw hosted (host-meets y k x.device x.lists y.queues x.memory there refl refl refl refl)

  pull-meets : (into : List ℕ) → TypedMachine (after (calls.pull into) (machine_at x)) → Meets (lents.after (lents.on (calls.pull into)) x) (after (calls.pull into) (machine_at x))
  unfolding lents.after after ends.pull_of
  pull-meets into k = let y = after (calls.pull into) (machine_at x) in rw hosted (host-meets y k x.device x.lists y.queues x.memory there refl refl refl refl)

  restore-meets : (strict : Bool) (state : List ℕ) → TypedMachine (after (calls.restore strict state) (machine_at x)) → Meets (lents.after (lents.on (calls.restore strict state)) x) (after (calls.restore strict state) (machine_at x))
  unfolding lents.after after behind
  restore-meets strict state k = rw e (whole_meets (after (calls.restore strict state) (machine_at x)) k)

  pub left_meets : (c : calls.Call) → calls.Typed c → Meets (lents.after (lents.on c) x) (after c (machine_at x))
  unfolding lents.after after
  left_meets (calls.advance nanos) c = behind-meets (advance_of nanos) (after-typed (calls.advance nanos) c (machine_at x) t)
  left_meets (calls.read offset into) c = record { same = refl; there = there }
  left_meets (calls.write offset bytes) c = behind-meets (write_of offset bytes) (after-typed (calls.write offset bytes) c (machine_at x) t)
  left_meets (calls.bar_read bar offset into) c = record { same = refl; there = there }
  left_meets (calls.bar_write bar offset bytes) c = behind-meets (bar_write_of bar offset bytes) (after-typed (calls.bar_write bar offset bytes) c (machine_at x) t)
  left_meets (calls.config_read register) c = record { same = refl; there = there }
  left_meets (calls.config_write register offset bytes) c =
      behind-meets (config_write_of register offset bytes) (after-typed (calls.config_write register offset bytes) c (machine_at x) t)
  left_meets (calls.pin_change node) c = behind-meets (pin_of node) (after-typed (calls.pin_change node) c (machine_at x) t)
  left_meets (calls.pause paused) c = pause-meets paused (after-typed (calls.pause paused) c (machine_at x) t)
  left_meets (calls.feed frames) c = feed-meets frames (after-typed (calls.feed frames) c (machine_at x) t)
  left_meets (calls.pull into) c = pull-meets into (after-typed (calls.pull into) c (machine_at x) t)
  left_meets (calls.playback_fails fails) c = setting-meets (λ h n. playback_fails_of h n fails) (after-typed (calls.playback_fails fails) c (machine_at x) t)
  left_meets (calls.capture_fails fails) c = setting-meets (λ h n. capture_fails_of h n fails) (after-typed (calls.capture_fails fails) c (machine_at x) t)
  left_meets (calls.downstream n) c = setting-meets (λ h k. downstream_of h k n) (after-typed (calls.downstream n) c (machine_at x) t)
  left_meets (calls.save into) c = record { same = refl; there = there }
  left_meets (calls.restore strict state) c = restore-meets strict state (after-typed (calls.restore strict state) c (machine_at x) t)
  left_meets (calls.advance_bounds shortest longest lists queues memory into) c = record { same = refl; there = there }

-- ---- bytes that are none
pub record Stays (x y : Lent) : Type 0 where
  pub device : y.device ≡ x.device
  pub lists : y.lists ≡ x.lists

module _ (x : Lent) (e : is_machine x.device x.host ≡ false) where
  behind-stays : (call : Machine → Done) → Stays x (behind call x).lent
  unfolding behind
  behind-stays call = rw e record { device = refl; lists = refl }

  pub left-stays : (c : calls.Call) → Stays x (lents.after (lents.on c) x)
  unfolding lents.after paused_of behind
  left-stays (calls.advance nanos) = behind-stays (advance_of nanos)
  left-stays (calls.read offset into) = record { device = refl; lists = refl }
  left-stays (calls.write offset bytes) = behind-stays (write_of offset bytes)
  left-stays (calls.bar_read bar offset into) = record { device = refl; lists = refl }
  left-stays (calls.bar_write bar offset bytes) = behind-stays (bar_write_of bar offset bytes)
  left-stays (calls.config_read register) = record { device = refl; lists = refl }
  left-stays (calls.config_write register offset bytes) = behind-stays (config_write_of register offset bytes)
  left-stays (calls.pin_change node) = behind-stays (pin_of node)
  left-stays (calls.pause paused) = record { device = rw e; lists = refl }
  left-stays (calls.feed frames) = record { device = refl; lists = refl }
  left-stays (calls.pull into) = record { device = refl; lists = refl }
  left-stays (calls.playback_fails fails) = record { device = refl; lists = refl }
  left-stays (calls.capture_fails fails) = record { device = refl; lists = refl }
  left-stays (calls.downstream n) = record { device = refl; lists = refl }
  left-stays (calls.save into) = record { device = refl; lists = refl }
  left-stays (calls.restore strict state) = record { device = rw e; lists = rw e }
  left-stays (calls.advance_bounds shortest longest lists queues memory into) = record { device = refl; lists = refl }
