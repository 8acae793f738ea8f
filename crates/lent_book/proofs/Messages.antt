-- A caller finds a message's address and data in the device record that the call leaves, whatever bytes it lent. Assumes nothing.
use Prim.Native.Nat.{ℕ, ◌+◌}
use mathlib.Core.Path.{◌≡◌, refl}
use mathlib.Core.Bool.{Bool, true}
use mathlib.Core.List.{List}
use native.Mathlib.Omega.{arith}
use lib.ListN.{length}
use Rattle.word.specs.Value.{Bytes}
use Rattle.word.specs.Place.{word_at}
use Rattle.std.specs.Prelude.{Some}
use Rattle.device.specs.Machines.{Machine, Done}
use Rattle.write.specs.Writes.{write_of}
use Rattle.hda.specs.Calls.{bar_write_of, config_write_of, pin_of}
use Rattle.advance.specs.Advance.{advance_of}
use Rattle.reply.specs.Replies.{is_machine}
use Rattle.reply.proofs.Records.{machine-device, machine-host}
use Rattle.port_device.specs.Calls.{Lent, lent, machine_at, none, behind, restored_by}
use Rattle.port_device.proofs.Theorems.{message, Placed, message-place, advance-placed, write-placed, bar-write-placed, config-write-placed, pin-placed, restore-placed}
use Rattle.calls.specs.Calls as calls
use Rattle.calls.specs.Calls.{left_of}
use Rattle.lent_calls.specs.Calls.{on, after}
use Rattle.lent_book.specs.Typed.{TypedMachine}
use Rattle.lent_book.specs.Claim.{Lends}
use Rattle.lent_book.proofs.Typed.{after-typed}
use Rattle.lent_book.proofs.Records.{bytes_ready, machine-typed}

-- the 8 bytes at 0x64 and the 2 at 0x6c of the configuration, which stands at byte 6 of the record
abbrev pub Holds : List ℕ → ℕ → ℕ → Type 0
Holds device address value = (word_at 8 (6 + 0x64) device ≡ address) × (word_at 2 (6 + 0x6c) device ≡ value)

module _ (x : Lent) (bytes : Lends x) (e : is_machine x.device x.host ≡ true) where
  found : TypedMachine (machine_at x)
  found =
      machine-typed x (bytes_ready x.device (machine-device x.device x.host e) bytes.device) (machine-host x.device x.host e) bytes.host bytes.queues bytes.memory

  -- what a call leaves has a configuration of 256 bytes
  by_call : (c : calls.Call) → calls.Typed c → (call : Machine → Done) → calls.after c (machine_at x) ≡ left_of (call (machine_at x)) → Placed (call (machine_at x)).answer
      → (address value : ℕ) → (call (machine_at x)).answer.msi ≡ Some (message address value) → Holds (behind call x).lent.device address value
  by_call c typed call same placed =
      let size : length (call (machine_at x)).answer.hda.config ≡ 256 = rw same at (after-typed c typed (machine_at x) found).device.sized.config in
      message-place call x e placed size

  pub advance-message : (nanos address value : ℕ) → (advance_of nanos (machine_at x)).answer.msi ≡ Some (message address value)
      → Holds (after (on (calls.advance nanos)) x).device address value
  unfolding after calls.after
  advance-message nanos = by_call (calls.advance nanos) tt (advance_of nanos) refl (advance-placed nanos (machine_at x))

  pub write-message : (offset : ℕ) (written : List ℕ) → Bytes written → (address value : ℕ) → (write_of offset written (machine_at x)).answer.msi ≡ Some (message address value)
      → Holds (after (on (calls.write offset written)) x).device address value
  unfolding after calls.after
  write-message offset written h = by_call (calls.write offset written) h (write_of offset written) refl (write-placed offset written (machine_at x))

  pub bar-write-message : (bar offset : ℕ) (written : List ℕ) → Bytes written → (address value : ℕ) → (bar_write_of bar offset written (machine_at x)).answer.msi ≡ Some (message address value)
      → Holds (after (on (calls.bar_write bar offset written)) x).device address value
  unfolding after calls.after
  bar-write-message bar offset written h = by_call (calls.bar_write bar offset written) h (bar_write_of bar offset written) refl (bar-write-placed bar offset written (machine_at x))

  pub config-write-message : (register offset : ℕ) (written : List ℕ) (address value : ℕ) → (config_write_of register offset written (machine_at x)).answer.msi ≡ Some (message address value)
      → Holds (after (on (calls.config_write register offset written)) x).device address value
  unfolding after calls.after
  config-write-message register offset written =
      by_call (calls.config_write register offset written) tt (config_write_of register offset written) refl (config-write-placed register offset written (machine_at x))

  pub pin-message : (node address value : ℕ) → (pin_of node (machine_at x)).answer.msi ≡ Some (message address value) → Holds (after (on (calls.pin_change node)) x).device address value
  unfolding after calls.after
  pin-message node = by_call (calls.pin_change node) tt (pin_of node) refl (pin-placed node (machine_at x))

-- hda_restore and hda_restore_emptied are lent no memory
pub restore-message : (x : Lent) → Lends x → is_machine x.device x.host ≡ true → (strict : Bool) (state : List ℕ) → Bytes state → (address value : ℕ)
    → (restored_by strict state (machine_at x)).answer.msi ≡ Some (message address value) → Holds (after (on (calls.restore strict state)) x).device address value
unfolding after calls.after
restore-message x bytes e strict state h =
    let y = lent x.device x.host x.lists x.queues none in
    by_call y (record { device = bytes.device; host = bytes.host; queues = bytes.queues; memory = λ _. omega arith }) e (calls.restore strict state) h (restored_by strict state) refl (restore-placed strict state (machine_at y))
