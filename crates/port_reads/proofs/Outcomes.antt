-- The ways out of a call that reads: unreadable, and done on what the records hold. Assumes nothing.
use Prim.Native.Nat.{ℕ}
use mathlib.Core.Path.{◌≡◌}
use mathlib.Core.Bool.{true, false}
use mathlib.Core.List.{List}
use lib.ListN.{length}
use Rattle.host.specs.declared.Host.{Host}
use Rattle.device.specs.declared.Hda.{Hda}
use Rattle.read.specs.declared.Status.{Status}
use Rattle.read.specs.declared.Value.{Value}
use Rattle.read.specs.Reads as read
use Rattle.snapshot.specs.declared.Saved.{Saved}
use Rattle.snapshot.specs.Saves as snapshot
use Rattle.record.specs.Loads.{device_at}
use Rattle.host_record.specs.Hosts.{host_at}
use Rattle.reply.specs.Replies.{reply_of, unreadable_of, is_machine}
use Rattle.port_reads.specs.Reads.{shown, read_of, bar_read_of, config_read_of, save_of}

module _ (device host lists : List ℕ) (queues : ℕ) where
  module _ (t : is_machine device host ≡ false) (r : ℕ) (er : r ≡ unreadable_of (length lists) queues) where
    pub read-unreadable : (offset : ℕ) (into : List ℕ) → shown r into ≡ read_of offset device host lists queues into
    unfolding read_of
    read-unreadable offset into = rw (t, er)

    pub bar-unreadable : (bar offset : ℕ) (into : List ℕ) → shown r into ≡ bar_read_of bar offset device host lists queues into
    unfolding bar_read_of
    bar-unreadable bar offset into = rw (t, er)

    pub config-unreadable : (register : ℕ) → r ≡ config_read_of register device host lists queues
    unfolding config_read_of
    config-unreadable register = rw (t, er)

    pub save-unreadable : (into : List ℕ) → shown r into ≡ save_of device host lists queues into
    unfolding save_of
    save-unreadable into = rw (t, er)

  module _ (t : is_machine device host ≡ true) (h : Host) (eh : h ≡ host_at host) (r : ℕ) where
    -- a buffer, with the status of the read
    module _ (into l : List ℕ) (s : Status) (er : r ≡ reply_of s.number s.level false 0) where
      pub read_done : (offset : ℕ) → read.shown_of s l ≡ read.read_of offset (device_at device) h lists queues into
          → shown r l ≡ read_of offset device host lists queues into
      unfolding read_of
      read_done offset e = rw (t, ← eh, ← e, er)

      pub bar-done : (bar offset : ℕ) → read.shown_of s l ≡ read.bar_read_of bar offset (device_at device) h lists queues into
          → shown r l ≡ bar_read_of bar offset device host lists queues into
      unfolding bar_read_of
      bar-done bar offset e = rw (t, ← eh, ← e, er)

    pub config-done : (register : ℕ) (v : Value) → v ≡ read.config_read_of register (device_at device) h lists queues
        → r ≡ reply_of v.number v.level false v.value → r ≡ config_read_of register device host lists queues
    unfolding config_read_of
    config-done register v e er = rw (t, ← eh, ← e, er)

    pub save-done : (d : Hda) → d ≡ device_at device → (into l : List ℕ) (s : Saved) → snapshot.save_out s l ≡ snapshot.save_of d h lists queues into
        → r ≡ reply_of s.number s.level false s.count → shown r l ≡ save_of device host lists queues into
    unfolding save_of
    save-done d ed into l s e er = rw (t, ← eh, ← ed, ← e, er)
