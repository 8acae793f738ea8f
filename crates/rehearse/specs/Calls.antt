-- The calls by their kind, on the bytes that are lent: each is what crates port_device, port_reads and port_host state of it.
use Rattle.std.specs.Prelude.{ℕ, ◌-◌, ◌%◌, Bool, true, false, cond, not, List, length, ◌==◌, nat_lt}
use Rattle.advance.specs.Advance.{advance_of}
use Rattle.write.specs.Writes.{write_of}
use Rattle.hda.specs.Calls.{bar_write_of, config_write_of, pin_of}
use Rattle.driver.specs.Calls.{playback_fails_of, capture_fails_of, downstream_of}
use Rattle.word.specs.Place.{put_at}
use Rattle.port_device.specs.Calls.{Lent, Returned, returned, behind, restored_by, Stored, stored_out, new_of}
use Rattle.port_reads.specs.Reads.{Shown, shown, read_of, bar_read_of, config_read_of, save_of}
use Rattle.port_host.specs.Calls.{PulledBytes, pulled_out, feed_of, pull_of, setting}
use Rattle.port_host.specs.Calls as hosts
use Rattle.rehearse.specs.Noise.{noise_of}

-- what a number returns that is no kind of the group
abbrev pub none : ℕ
none = 255

abbrev pub low_of : ℕ → ℕ
low_of x = x % 4294967296

-- a new host end, then a new device
unfoldable pub fresh_of : Bool → List ℕ → List ℕ → ℕ → ℕ → Stored
fresh_of microphone device host lists queues =
    let h = hosts.new_of host queues in
    let d = new_of microphone device lists queues in
    cond (h.reply == 0) (stored_out d.reply d.device h.host) (stored_out h.reply device h.host)

-- 10 time passes, 11 a write, 12 one by base address, 13 one to the configuration, 14 a pin's change, 16 a saved state comes back, 17 with crowded lists emptied
unfoldable pub change_of : ℕ → ℕ → ℕ → List ℕ → Lent → Returned
change_of kind first second bytes x =
    cond (kind == 10) (behind (advance_of first) x)
    (cond (kind == 11) (behind (write_of first bytes) x)
    (cond (kind == 12) (behind (bar_write_of (low_of second) first bytes) x)
    (cond (kind == 13) (behind (config_write_of first second bytes) x)
    (cond (kind == 14) (behind (pin_of (low_of first)) x)
    (cond (kind == 16) (behind (restored_by true bytes) x)
    (cond (kind == 17) (behind (restored_by false bytes) x)
    (returned none x)))))))

-- 20 a read, 21 one by base address, 22 one of the configuration, 23 the saved state
unfoldable pub show_of : ℕ → ℕ → ℕ → List ℕ → List ℕ → List ℕ → ℕ → List ℕ → Shown
show_of kind first second device host lists queues into =
    cond (kind == 20) (read_of first device host lists queues into)
    (cond (kind == 21) (bar_read_of (low_of second) first device host lists queues into)
    (cond (kind == 22) (shown (config_read_of first device host lists queues) into)
    (cond (kind == 23) (save_of device host lists queues into)
    (shown none into))))

-- 30 frames in, 31 frames out, 32 to 34 the settings
abbrev pub settled : hosts.Kept → List ℕ → List ℕ → PulledBytes
settled k queues into = pulled_out k.reply k.host queues into

abbrev pub fed : hosts.FedBytes → List ℕ → PulledBytes
fed f into = pulled_out f.kept.reply f.kept.host f.queues into

unfoldable pub host_of : ℕ → ℕ → List ℕ → List ℕ → List ℕ → List ℕ → PulledBytes
host_of kind first bytes host queues into =
    cond (kind == 30) (fed (feed_of host queues bytes) into)
    (cond (kind == 31) (pull_of host queues into)
    (cond (kind == 32) (settled (setting (λ h n. playback_fails_of h n (not (first == 0))) host (length queues)) queues into)
    (cond (kind == 33) (settled (setting (λ h n. capture_fails_of h n (not (first == 0))) host (length queues)) queues into)
    (cond (kind == 34) (settled (setting (λ h n. downstream_of h n (low_of first)) host (length queues)) queues into)
    (pulled_out none host queues into)))))

-- what reaches guest memory: 1 noise, 2 bytes at an address, 3 nothing
pub record Reached : Type 0 where
  pub reply : ℕ
  pub memory : List ℕ

abbrev pub reached : ℕ → List ℕ → Reached
reached reply memory = record { reply = reply; memory = memory }

abbrev pub noised_of : ℕ → List ℕ → Reached
noised_of seed memory = reached 0 (noise_of (length memory) (seed % 2147483647))

unfoldable pub poke_of : ℕ → List ℕ → List ℕ → Reached
poke_of address bytes memory =
    cond (nat_lt (length memory) address) (reached 1 memory)
    (cond (nat_lt (length memory - address) (length bytes)) (reached 1 memory)
    (reached 0 (put_at address bytes memory)))

unfoldable pub memory_of : ℕ → ℕ → ℕ → List ℕ → List ℕ → Reached
memory_of kind first second bytes memory =
    cond (kind == 1) (noised_of second memory)
    (cond (kind == 2) (poke_of first bytes memory)
    (cond (kind == 3) (reached 0 memory)
    (reached none memory)))
