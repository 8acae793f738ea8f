-- The device that a state restores, from what its parts' functions give; and the ways out of `restore`. Assumes nothing.
use Prim.Native.Nat.{ℕ, ◌+◌}
use mathlib.Core.Path.{◌≡◌}
use mathlib.Core.Bool.{Bool, false}
use mathlib.Core.List.{List}
use native.Mathlib.Omega.{arith}
use borrow.Author.Tests.{ne_eqb}
use lib.ListN.{drop}
use Rattle.word.specs.Place.{store_at}
use Rattle.clock.specs.declared.Clock.{Clock}
use Rattle.clock.specs.Clock.{shown_of}
use Rattle.stream.specs.declared.Stream.{Stream}
use Rattle.stream.specs.Box.{streams}
use Rattle.stream.proofs.Validity.{valid-parts}
use Rattle.host.specs.declared.Host.{Host}
use Rattle.registers.specs.Places.{walclk}
use Rattle.rings.specs.declared.Link.{Link}
use Rattle.std.specs.Prelude.{None}
use Rattle.device.specs.declared.Hda.{Hda}
use Rattle.device.specs.declared.Answer.{Answer}
use Rattle.device.specs.Devices.{hda}
use Rattle.device.specs.Machines.{check_of, answer_of, finish_of}
use Rattle.record.specs.Loads.{flag_at, block_at, link_at, clock_at}
use Rattle.parse.specs.States.{place_of, state_number}
use Rattle.parse.proofs.Theorems.{taken-streams}
use Rattle.parse.proofs.Choices.{both-pass}
use Rattle.restore.specs.Restores.{stream_of, Fits, opening_number, later_of, restored_streams, restored_lists, restored_host, restored_device, restored_out, number_of, restore_step, restore_of}

-- a state that is taken
pub taken-fits : (strict : Bool) (s : List ℕ) (microphone : Bool) (config : List ℕ) → state_number strict s microphone config ≡ 0 → Fits s
taken-fits strict s microphone config taken =
    let t = taken-streams strict s microphone config taken in
    record {
      whole = omega (arith, t.0);
      few = λ i few. (valid-parts (stream_of s i) (drop (place_of s i + 34) s) (t.1 i few).valid).few;
    }

pub device-made : (strict : Bool) (s : List ℕ) (d : Hda) {other clock : Clock} {shown : ℕ} {config block regs : List ℕ} {link : Link} {ss : List Stream}
    → other ≡ clock_at s → clock ≡ later_of d.clock other → shown ≡ shown_of clock
    → block ≡ block_at 262 s → regs ≡ store_at 4 walclk shown block → config ≡ block_at 6 s → link ≡ link_at s → ss ≡ restored_streams strict streams 0 s
    → hda config regs link ss clock d.microphone (flag_at 5 s) false ≡ restored_device strict s d
unfolding restored_device
device-made strict s d own later shows file stored space chip list = rw (stored, shows, file, space, chip, list, later, own)

-- the number as the code has it: the state's, or that of the openings
-- where all tests are passed, those of the state are
pub state-passed : (strict : Bool) (s : List ℕ) (d : Hda) (h : Host) → number_of strict s d h ≡ 0 → state_number strict s d.microphone d.config ≡ 0
state-passed strict s d h z = (both-pass (state_number strict s d.microphone d.config) (opening_number s d.microphone h) z).0

module _ (strict : Bool) (s : List ℕ) (d : Hda) (h : Host) (lists : List ℕ) {number : ℕ} (given : number ≡ number_of strict s d h) where
  pub refused : (number ≡ 0 → ⊥) → {r : Answer} → r ≡ answer_of number None d h → restored_out r lists ≡ restore_step strict s d h lists
  unfolding restore_step
  refused b e = rw (← given, ne_eqb _ _ b, e)

  pub taken : number ≡ 0 → {r : Answer} {device : Hda} {host : Host} {left : List ℕ}
      → r ≡ finish_of 0 device host → device ≡ restored_device strict s d → host ≡ restored_host s d.microphone h → left ≡ restored_lists strict s lists
      → restored_out r left ≡ restore_step strict s d h lists
  unfolding restore_step
  taken b e own ends puts = rw (← given, b, e, own, ends, puts)

-- the check's number as the code has it
module _ (strict : Bool) (s : List ℕ) (d : Hda) (h : Host) (lists : List ℕ) (queues : ℕ) {number : ℕ} (given : number ≡ check_of d h lists queues) where
  pub checked : (number ≡ 0 → ⊥) → {r : Answer} → r ≡ answer_of number None d h → restored_out r lists ≡ restore_of strict s d h lists queues
  unfolding restore_of
  checked b e = rw (← given, ne_eqb _ _ b, e)

  pub passes : number ≡ 0 → restore_step strict s d h lists ≡ restore_of strict s d h lists queues
  unfolding restore_of
  passes b = rw (← given, b)
