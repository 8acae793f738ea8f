-- Bytes that are a record have its size, under names that a function's attribute can write. Assumes nothing.
use Prim.Native.Nat.{ℕ, ◌≤◌}
use mathlib.Core.Path.{◌≡◌}
use mathlib.Core.Bool.{true}
use mathlib.Core.List.{List}
use lib.ListN.{length}
use Rattle.host_record.specs.Hosts.{host_size, is_host}
use Rattle.reply.proofs.Records.{host-length, host-room}

pub host_room : (b : List ℕ) → is_host b ≡ true → host_size ≤ length b
host_room b r = host-room b r

pub host_length : (b : List ℕ) → is_host b ≡ true → length b ≡ host_size
host_length b r = host-length b r
