-- The ways out of the call: unreadable, and done on what the records hold. Assumes nothing.
use Prim.Native.Nat.{ℕ}
use mathlib.Core.Path.{◌≡◌}
use mathlib.Core.Bool.{true, false}
use mathlib.Core.List.{List}
use lib.ListN.{length}
use Rattle.host.specs.declared.Host.{Host}
use Rattle.device.specs.Machines.{machine}
use Rattle.record.specs.Loads.{device_at}
use Rattle.host_record.specs.Hosts.{host_at}
use Rattle.jitter.specs.declared.Bounded.{Bounded}
use Rattle.jitter.specs.Calls as jitter
use Rattle.jitter.specs.Calls.{Scratch, bounding_of}
use Rattle.reply.specs.Replies.{reply_of, unreadable_of, is_machine}
use Rattle.port_jitter.specs.Calls.{bounded_out, bounds_of}

module _ (shortest longest : ℕ) (device host lists queues memory : List ℕ) (s : Scratch) (into : List ℕ) (r : ℕ) where
  pub unreadable : is_machine device host ≡ false → r ≡ unreadable_of (length lists) (length queues) → bounded_out r s into ≡ bounds_of shortest longest device host lists queues memory s into
  unfolding bounds_of
  unreadable t er = rw (t, er)

  pub done : is_machine device host ≡ true → (h : Host) → h ≡ host_at host → (b : Bounded) (s' : Scratch) (into' : List ℕ)
      → bounding_of b s' into' ≡ jitter.bounds_of shortest longest (machine (device_at device) h lists queues memory) s into → r ≡ reply_of b.number b.level false b.count
      → bounded_out r s' into' ≡ bounds_of shortest longest device host lists queues memory s into
  unfolding bounds_of
  done t h eh b s' into' e er = rw (t, ← eh, ← e, er)
