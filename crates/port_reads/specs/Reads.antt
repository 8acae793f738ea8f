-- Calls that read a device, on the bytes that a caller lends: each is the call on what the records hold, behind the test that they are records.
use Rattle.std.specs.Prelude.{ℕ, false, cond, List, length}
use Rattle.read.specs.declared.Value.{Value}
use Rattle.read.specs.Reads as read
use Rattle.snapshot.specs.Saves as snapshot
use Rattle.record.specs.Loads.{device_at}
use Rattle.host_record.specs.Hosts.{host_at}
use Rattle.reply.specs.Replies.{reply_of, unreadable_of, is_machine}

-- what a call returns, and the buffer as it leaves it
pub record Shown : Type 0 where
  pub reply : ℕ
  pub into : List ℕ

abbrev pub shown : ℕ → List ℕ → Shown
shown reply into = record { reply = reply; into = into }

abbrev pub shown_of : read.Shown → Shown
shown_of s = shown (reply_of s.status.number s.status.level false 0) s.into

-- bytes that are no records leave the buffer as it was
abbrev pub unread : List ℕ → ℕ → List ℕ → Shown
unread lists queues into = shown (unreadable_of (length lists) queues) into

unfoldable pub read_of : ℕ → List ℕ → List ℕ → List ℕ → ℕ → List ℕ → Shown
read_of offset device host lists queues into =
    cond (is_machine device host) (shown_of (read.read_of offset (device_at device) (host_at host) lists queues into)) (unread lists queues into)

unfoldable pub bar_read_of : ℕ → ℕ → List ℕ → List ℕ → List ℕ → ℕ → List ℕ → Shown
bar_read_of bar offset device host lists queues into =
    cond (is_machine device host) (shown_of (read.bar_read_of bar offset (device_at device) (host_at host) lists queues into)) (unread lists queues into)

-- the register is the value returned
abbrev pub value_of : Value → ℕ
value_of v = reply_of v.number v.level false v.value

unfoldable pub config_read_of : ℕ → List ℕ → List ℕ → List ℕ → ℕ → ℕ
config_read_of register device host lists queues =
    cond (is_machine device host) (value_of (read.config_read_of register (device_at device) (host_at host) lists queues)) (unreadable_of (length lists) queues)

-- the count of bytes is the value returned
abbrev pub saved_of : snapshot.Save → Shown
saved_of s = shown (reply_of s.saved.number s.saved.level false s.saved.count) s.into

unfoldable pub save_of : List ℕ → List ℕ → List ℕ → ℕ → List ℕ → Shown
save_of device host lists queues into =
    cond (is_machine device host) (saved_of (snapshot.save_of (device_at device) (host_at host) lists queues into)) (unread lists queues into)
