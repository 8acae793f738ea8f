-- A new device's registers, the size of its base address, and an interrupt as line and as message, computed. Assumes nothing.
use Prim.Native.Nat.{ℕ}
use mathlib.Core.Path.{◌≡◌, refl}
use mathlib.Core.Bool.{true, false}
use mathlib.Core.List.{List, [], ◌∷◌}
use lib.ListN.{set, replicate}
use Rattle.word.specs.Place.{word_at, store_at}
use Rattle.word.specs.Each.{each_of}
use Rattle.registers.specs.Places.{intctl, ctl, sts}
use Rattle.std.specs.Prelude.{Some, None}
use Rattle.configuration.specs.Configuration.{fresh_of, read_of, write_byte_of, write_of}
use Rattle.pci.specs.Interrupts.{sources_of, status_of, pending_of, level_of, signal_of, update_of}

-- the definitions that a run computes through
everything : Unit {0}
unfolding word_at store_at each_of fresh_of read_of write_byte_of write_of sources_of pending_of level_of update_of
everything = tt

-- vendor and device, status, class and revision, base address, subsystem, capabilities, interrupt pin, MSI
pub fresh-reads : (read_of fresh_of 0 ≡ 0x293e_8086)
    × (read_of fresh_of 1 ≡ 0x0010_0000)
    × (read_of fresh_of 2 ≡ 0x0403_0003)
    × (read_of fresh_of 4 ≡ 0)
    × (read_of fresh_of 11 ≡ 0x293e_8086)
    × (read_of fresh_of 13 ≡ 0x60)
    × (read_of fresh_of 15 ≡ 0x100)
    × (read_of fresh_of 24 ≡ 0x0080_0005)
unfolding everything
fresh-reads = (refl, refl, refl, refl, refl, refl, refl, refl)

-- firmware writes ones to the base address and reads its size
pub base-size : read_of (write_of fresh_of 0x10 (0xff ∷ 0xff ∷ 0xff ∷ 0xff ∷ [])) 4 ≡ 0xffff_c000
unfolding everything
base-size = refl

-- the last stream's completion, with all enables on
abbrev completed : List ℕ
completed = set (set (store_at 4 intctl 0xc000_0003 (replicate 256 0)) (sts 1) 4) (ctl 1) 4

pub line : (status_of completed ≡ 0x8000_0002) × (level_of fresh_of completed ≡ true) × ((update_of fresh_of completed false).signal ≡ signal_of false None)
unfolding everything
line = (refl, refl, refl)

-- MSI with an address, data and its enable
abbrev messaging : List ℕ
messaging = write_of (write_of fresh_of 0x64 (0 ∷ 0 ∷ 0xe0 ∷ 0xfe ∷ 0 ∷ 0 ∷ 0 ∷ 0 ∷ 0x41 ∷ 0 ∷ [])) 0x62 (1 ∷ [])

pub message-sent : (level_of messaging completed ≡ false)
    × ((update_of messaging completed false).signal ≡ signal_of true (Some (record { address = 0xfee0_0000; value = 0x41 })))
    × ((update_of messaging completed true).signal ≡ signal_of true None)
unfolding everything
message-sent = (refl, refl, refl)
