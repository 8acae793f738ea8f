-- Every call on a valid machine leaves a valid one, and so does every list of calls; a new device with a new host end is valid where the lent spaces are large
-- enough. So no call after it is refused with 9 or 10 for what the calls before it left. Assumes nothing.
use Prim.Native.Nat.{ℕ, ◌*◌, ◌≤◌}
use mathlib.Core.Path.{◌≡◌, refl}
use mathlib.Core.Bool.{Bool, true}
use mathlib.Core.List.{List, [], ◌∷◌}
use native.Mathlib.Omega.{arith}
use lib.ListN.{length}
use Rattle.stream.specs.Box.{streams}
use Rattle.stream.specs.Streams.{list_size}
use Rattle.queue.specs.Queues.{capacity}
use Rattle.host.specs.declared.Host.{Host}
use Rattle.host.specs.Hosts as hosts
use Rattle.driver.proofs.Validity.{feed-valid, pull-valid, playback-valid, capture-valid, downstream-valid}
use Rattle.registers.proofs.Files.{file-reset}
use Rattle.device.specs.Devices.{fresh_of}
use Rattle.device.specs.Machines.{Machine, check_machine}
use Rattle.device.proofs.Facts.{fresh-passes}
use Rattle.hda.specs.Calls.{new_of}
use Rattle.calls.proofs.Driver.{length-feed, length-pull}
use Rattle.calls.proofs.Pci.{fresh-word}
use Rattle.calls.proofs.Devices.{Stands, check-stands, stands-check}
use Rattle.calls.proofs.Writes.{write-leaves, bar-write-leaves}
use Rattle.calls.proofs.Calls.{config-write-leaves, pin-leaves, pause-holds}
use Rattle.calls.proofs.Advance.{advance-leaves}
use Rattle.calls.proofs.Restore.{restore-stands}
use Rattle.calls.specs.Calls.{Call, advance, read, write, bar_read, bar_write, config_read, config_write, pin_change, pause, feed, pull, playback_fails, capture_fails, downstream, save, restore, advance_bounds, with_host, after, Typed, Valid, run, AllTyped, new_machine}

stands : (x : Machine) → Valid x → Stands x
stands x v = check-stands x v.passes (record { sized = v.sized; bytes = v.bytes })

valid : (x : Machine) → Stands x → Valid x
valid x s = record { passes = stands-check x s; sized = s.holds.file.sized; bytes = s.holds.file.bytes }

-- another host end, and its queues in as much space
with-host : (x : Machine) (h : Host) (queues : List ℕ) → hosts.valid_of h ≡ true → length queues ≡ length x.queues → Stands x → Stands (with_host x h queues)
with-host x h queues v e s =
    record { lists = s.lists; queues = omega (arith, s.queues); holds = record { file = s.holds.file; device = s.holds.device; host = v } }

after-stands : (c : Call) → Typed c → (x : Machine) → Stands x → Stands (after c x)
unfolding after
after-stands (advance nanos) t x s = advance-leaves nanos x s
after-stands (read offset into) t x s = s
after-stands (write offset bytes) t x s = write-leaves x s offset bytes t
after-stands (bar_read bar offset into) t x s = s
after-stands (bar_write bar offset bytes) t x s = bar-write-leaves x s offset bytes t bar
after-stands (config_read register) t x s = s
after-stands (config_write register offset bytes) t x s = config-write-leaves x s register offset bytes
after-stands (pin_change node) t x s = pin-leaves x s node
after-stands (pause paused) t x s = record { lists = s.lists; queues = s.queues; holds = pause-holds x s paused }
after-stands (feed frames) t x s =
    with-host x _ _ (feed-valid x.host s.holds.host x.queues frames) (length-feed x.host x.queues frames) s
after-stands (pull into) t x s = with-host x _ _ (pull-valid x.host s.holds.host x.queues into) (length-pull x.host x.queues into) s
after-stands (playback_fails fails) t x s = with-host x _ x.queues (playback-valid x.host s.holds.host (length x.queues) fails) refl s
after-stands (capture_fails fails) t x s = with-host x _ x.queues (capture-valid x.host s.holds.host (length x.queues) fails) refl s
after-stands (downstream n) t x s = with-host x _ x.queues (downstream-valid x.host s.holds.host (length x.queues) n) refl s
after-stands (save into) t x s = s
after-stands (restore strict state) t x s = restore-stands x s strict state t
after-stands (advance_bounds shortest longest lists queues memory into) t x s = s

pub after-valid : (c : Call) → Typed c → (x : Machine) → Valid x → Valid (after c x)
after-valid c t x v = valid (after c x) (after-stands c t x (stands x v))

pub run-valid : (cs : List Call) → AllTyped cs → (x : Machine) → Valid x → Valid (run cs x)
unfolding run
run-valid [] t x v = v
run-valid (c ∷ cs) t x v = run-valid cs t.1 (after c x) (after-valid c t.0 x v)

pub new-valid : (microphone : Bool) (lists queues memory : List ℕ) → list_size * streams ≤ length lists → capacity * streams ≤ length queues
    → Valid (new_machine microphone lists queues memory)
unfolding new_of fresh_of
new-valid microphone lists queues memory long wide =
    record { passes = fresh-passes microphone fresh-word lists (length queues) long wide; sized = file-reset.sized; bytes = file-reset.bytes }

-- from a new machine on, whatever calls came, the next one passes its check
pub runs_on : (microphone : Bool) (lists queues memory : List ℕ) → list_size * streams ≤ length lists → capacity * streams ≤ length queues
    → (cs : List Call) → AllTyped cs → check_machine (run cs (new_machine microphone lists queues memory)) ≡ 0
runs_on microphone lists queues memory long wide cs t = (run-valid cs t _ (new-valid microphone lists queues memory long wide)).passes
