-- Calls that change a device, on the bytes that a caller lends: each is the call on what the records hold, behind the test that they are records.
use Rattle.std.specs.Prelude.{ℕ, Bool, false, cond, List, [], length, eqb}
use Rattle.device.specs.declared.Answer.{Answer}
use Rattle.device.specs.Machines.{Machine, Done, machine, done_of}
use Rattle.hda.specs.Calls as hda
use Rattle.restore.specs.Restores.{restore_of}
use Rattle.record.specs.Layout.{device_size}
use Rattle.record.specs.Devices.{device_bytes}
use Rattle.record.specs.Loads.{device_at}
use Rattle.in_place.specs.declared.Ended.{Ended}
use Rattle.host_record.specs.Hosts.{host_bytes, host_at}
use Rattle.reply.specs.Replies.{is_sent, reply_of, unreadable_of, is_machine}

-- all that a caller lends: the records of device and host end, lists, queues, and guest memory
pub record Lent : Type 0 where
  pub device : List ℕ
  pub host : List ℕ
  pub lists : List ℕ
  pub queues : List ℕ
  pub memory : List ℕ

abbrev pub lent : List ℕ → List ℕ → List ℕ → List ℕ → List ℕ → Lent
lent device host lists queues memory = record { device = device; host = host; lists = lists; queues = queues; memory = memory }

-- what a call returns, and what it leaves in them
pub record Returned : Type 0 where
  pub reply : ℕ
  pub lent : Lent

abbrev pub returned : ℕ → Lent → Returned
returned reply x = record { reply = reply; lent = x }

abbrev pub machine_at : Lent → Machine
machine_at x = machine (device_at x.device) (host_at x.host) x.lists x.queues x.memory

abbrev pub answered_of : Answer → ℕ
answered_of a = reply_of a.number a.level (is_sent a.msi) 0

-- a write that the fast path carried out is done
abbrev pub carried_reply : Ended → ℕ
carried_reply q = reply_of 0 q.level (is_sent q.msi) 0

abbrev pub returned_of : Done → Returned
returned_of d = returned (answered_of d.answer) (lent (device_bytes d.answer.hda) (host_bytes d.answer.host) d.lists d.queues d.memory)

-- a call behind the test of the records: bytes that are none change nothing
unfoldable pub behind : (Machine → Done) → Lent → Returned
behind call x = cond (is_machine x.device x.host) (returned_of (call (machine_at x))) (returned (unreadable_of (length x.lists) (length x.queues)) x)

-- restore is lent no guest memory
abbrev pub none : List ℕ
none = []

abbrev pub restored_by : Bool → List ℕ → Machine → Done
restored_by strict state x = let r = restore_of strict state x.hda x.host x.lists (length x.queues) in done_of r.answer r.lists x.queues x.memory

-- what is returned with a device record, and with both records
pub record Made : Type 0 where
  pub reply : ℕ
  pub device : List ℕ

abbrev pub made : ℕ → List ℕ → Made
made reply device = record { reply = reply; device = device }

abbrev pub made_of : Answer → Made
made_of a = made (answered_of a) (device_bytes a.hda)

pub record Stored : Type 0 where
  pub reply : ℕ
  pub device : List ℕ
  pub host : List ℕ

abbrev pub stored_out : ℕ → List ℕ → List ℕ → Stored
stored_out reply device host = record { reply = reply; device = device; host = host }

abbrev pub stored_of : Answer → Stored
stored_of a = stored_out (answered_of a) (device_bytes a.hda) (host_bytes a.host)

-- a new device: 10 for short spaces, 9 for bytes that cannot hold its record
unfoldable pub new_of : Bool → List ℕ → ℕ → ℕ → Made
new_of microphone device lists queues =
    let m = hda.new_of microphone lists queues in
    cond (eqb m.number 0)
    (cond (eqb (length device) device_size) (made (reply_of 0 false false 0) (device_bytes m.hda)) (made (reply_of 9 false false 0) device))
    (made (reply_of m.number false false 0) device)

unfoldable pub paused_of : Bool → List ℕ → List ℕ → List ℕ → ℕ → Made
paused_of paused device host lists queues =
    cond (is_machine device host) (made_of (hda.pause_of paused (device_at device) (host_at host) lists queues)) (made (unreadable_of (length lists) queues) device)
