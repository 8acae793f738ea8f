-- Bytes that are records: each is one, and as long as its record. Assumes nothing.
use Prim.Native.Nat.{ℕ, ◌≤◌}
use mathlib.Core.Path.{◌≡◌}
use mathlib.Core.Bool.{true}
use mathlib.Core.List.{List}
use native.Mathlib.Omega.{arith}
use borrow.Author.Tests.{eqb-true}
use lib.Dec.{eqb}
use lib.ListN.{length}
use Rattle.word.proofs.Choices.{left, right}
use Rattle.record.specs.Layout.{device_size}
use Rattle.record.specs.Loads.{is_device}
use Rattle.host_record.specs.Hosts.{host_size, is_host}
use Rattle.reply.specs.Replies.{is_machine}

pub device-length : (b : List ℕ) → is_device b ≡ true → length b ≡ device_size
unfolding is_device
device-length b r = eqb-true (length b) device_size (left (eqb (length b) device_size) _ r)

pub host-length : (b : List ℕ) → is_host b ≡ true → length b ≡ host_size
unfolding is_host
host-length b r = eqb-true (length b) host_size (left (eqb (length b) host_size) _ r)

pub host-room : (b : List ℕ) → is_host b ≡ true → host_size ≤ length b
host-room b r = omega (arith, host-length b r)

-- both records of a machine, each with its size and with room for what is read from it
module _ (device host : List ℕ) (r : is_machine device host ≡ true) where
  pub machine-device : is_device device ≡ true
  machine-device = left (is_device device) (is_host host) r

  pub machine-host : is_host host ≡ true
  machine-host = right (is_device device) (is_host host) r

  pub device-sized : length device ≡ device_size
  device-sized = device-length device machine-device

  pub host-sized : length host ≡ host_size
  host-sized = host-length host machine-host

  pub device-fits : device_size ≤ length device
  device-fits = omega (arith, device-sized)

  pub host-fits : host_size ≤ length host
  host-fits = host-room host machine-host
