-- Every call on a machine (document 01, "The book of demand 3"), with all that it is handed beside the machine, and the machine after it, refused or not, by the
-- definitions that the calls' contracts cite.
use Rattle.std.specs.Prelude.{ℕ, ◌≡◌, Bool, List, [], ◌∷◌, length}
use Rattle.word.specs.Value.{Bytes}
use Rattle.host.specs.declared.Host.{Host}
use Rattle.host.specs.Hosts as hosts
use Rattle.registers.specs.Places.{size}
use Rattle.driver.specs.Calls.{feed_of, pull_of, playback_fails_of, capture_fails_of, downstream_of}
use Rattle.device.specs.declared.Hda.{Hda}
use Rattle.device.specs.Machines.{Machine, Done, machine, check_machine}
use Rattle.write.specs.Writes.{write_of}
use Rattle.hda.specs.Calls.{new_of, bar_write_of, config_write_of, pin_of, pause_of}
use Rattle.advance.specs.Advance.{advance_of}
use Rattle.restore.specs.Restores.{Restored, restore_of}

pub data Call : Type 0 where
  -- nanoseconds
  advance : ℕ → Call
  -- offset, and the buffer or the bytes; with a base address before them
  read : ℕ → List ℕ → Call
  write : ℕ → List ℕ → Call
  bar_read : ℕ → ℕ → List ℕ → Call
  bar_write : ℕ → ℕ → List ℕ → Call
  -- register; and offset and bytes
  config_read : ℕ → Call
  config_write : ℕ → ℕ → List ℕ → Call
  -- the pin's node
  pin_change : ℕ → Call
  pause : Bool → Call
  -- frames, and the buffer for them
  feed : List ℕ → Call
  pull : List ℕ → Call
  playback_fails : Bool → Call
  capture_fails : Bool → Call
  downstream : ℕ → Call
  -- the space lent for the state
  save : List ℕ → Call
  -- whether crowded lists are refused, or else emptied (request T-09), and the state
  restore : Bool → List ℕ → Call
  -- the shortest and the longest elapsed time, the scratch for lists, queues and guest memory, and the space for the result (request T-13)
  advance_bounds : ℕ → ℕ → List ℕ → List ℕ → List ℕ → List ℕ → Call

-- the machine that a call leaves
abbrev pub left_of : Done → Machine
left_of d = machine d.answer.hda d.answer.host d.lists d.queues d.memory

-- calls on the host end record alone
abbrev pub with_host : Machine → Host → List ℕ → Machine
with_host x h queues = machine x.hda h x.lists queues x.memory

abbrev pub with_device : Machine → Hda → Machine
with_device x d = machine d x.host x.lists x.queues x.memory

-- a restore is lent the lists alone
abbrev pub with_restored : Machine → Restored → Machine
with_restored x r = machine r.answer.hda r.answer.host r.lists x.queues x.memory

-- a read, of registers, configuration or state, is lent the machine as it is, and so is the call that asks for the bounds of an `advance` and makes none
unfoldable pub after : Call → Machine → Machine
after (advance nanos) x = left_of (advance_of nanos x)
after (read offset into) x = x
after (write offset bytes) x = left_of (write_of offset bytes x)
after (bar_read bar offset into) x = x
after (bar_write bar offset bytes) x = left_of (bar_write_of bar offset bytes x)
after (config_read register) x = x
after (config_write register offset bytes) x = left_of (config_write_of register offset bytes x)
after (pin_change node) x = left_of (pin_of node x)
after (pause paused) x = with_device x (pause_of paused x.hda x.host x.lists (length x.queues)).hda
after (feed frames) x = let f = feed_of x.host x.queues frames in with_host x f.fed.host f.space
after (pull into) x = let f = pull_of x.host x.queues into in with_host x f.fed.host f.space
after (playback_fails fails) x = with_host x (playback_fails_of x.host (length x.queues) fails).host x.queues
after (capture_fails fails) x = with_host x (capture_fails_of x.host (length x.queues) fails).host x.queues
after (downstream n) x = with_host x (downstream_of x.host (length x.queues) n).host x.queues
after (save into) x = x
after (restore strict state) x = with_restored x (restore_of strict state x.hda x.host x.lists (length x.queues))
after (advance_bounds shortest longest lists queues memory into) x = x

-- what the types say of the bytes that a call writes to the registers, of frames, and of a state
abbrev pub Typed : Call → Type 0
Typed (advance nanos) = Unit {0}
Typed (read offset into) = Unit {0}
Typed (write offset bytes) = Bytes bytes
Typed (bar_read bar offset into) = Unit {0}
Typed (bar_write bar offset bytes) = Bytes bytes
Typed (config_read register) = Unit {0}
Typed (config_write register offset bytes) = Unit {0}
Typed (pin_change node) = Unit {0}
Typed (pause paused) = Unit {0}
Typed (feed frames) = Bytes frames
Typed (pull into) = Unit {0}
Typed (playback_fails fails) = Unit {0}
Typed (capture_fails fails) = Unit {0}
Typed (downstream n) = Unit {0}
Typed (save into) = Unit {0}
Typed (restore strict state) = Bytes state
Typed (advance_bounds shortest longest lists queues memory into) = Unit {0}

-- A machine that passes the check of every call (document 01, "Numbers returned", below the table), and whose registers are what their type says: 256 bytes.
pub record Valid (x : Machine) : Type 0 where
  pub passes : check_machine x ≡ 0
  pub sized : length x.hda.regs ≡ size
  pub bytes : Bytes x.hda.regs

-- a list of calls in order, and what the types say of their bytes
unfoldable pub run : List Call → Machine → Machine
run [] x = x
run (c ∷ cs) x = run cs (after c x)

abbrev pub AllTyped : List Call → Type 0
AllTyped [] = Unit {0}
AllTyped (c ∷ cs) = Typed c × AllTyped cs

-- a new device with a new host end, on the spaces that are lent
abbrev pub new_machine : Bool → List ℕ → List ℕ → List ℕ → Machine
new_machine microphone lists queues memory = machine (new_of microphone (length lists) (length queues)).hda hosts.fresh_of lists queues memory
