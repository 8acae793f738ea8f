-- Which writes take the fast path, and what they leave: what the calls' own definitions say (crates write and hda).
use Rattle.std.specs.Prelude.{ℕ, zero, suc, ◌+◌, ◌*◌, ◌^◌, Bool, true, cond, not, ◌&&◌, List, length, eqb, ltb, Option, None, Some}
use Rattle.stream.specs.Box.{streams}
use Rattle.registers.specs.Places.{gctl, ctl, byte_at, has}
use Rattle.registers.specs.Writes.{align_of}
use Rattle.bus.specs.Bus.{Front, front_of, plain_write}
use Rattle.device.specs.declared.Hda.{Hda}
use Rattle.device.specs.Machines.{Machine, Done, check_machine, Commanded, commanded_of}
use Rattle.write.specs.Writes.{written_of, write_of}
use Rattle.hda.specs.Calls.{config_write_of}
use Rattle.record.specs.Devices.{device_bytes}
use Rattle.in_place.specs.Ends.{End, ended, end_of}
use Rattle.in_place.specs.declared.Ended.{Ended}

-- a write that is left to the calls on the whole device
abbrev pub left_alone : Option Ended
left_alone = None

-- what a try leaves: the INTx level and the message of a write that was carried out, the device's record and guest memory
pub record Tried : Type 0 where
  pub quick : Option Ended
  pub device : List ℕ
  pub memory : List ℕ

abbrev pub tried : Option Ended → List ℕ → List ℕ → Tried
tried q device memory = record { quick = q; device = device; memory = memory }

-- all of a call, where host end and lent spaces stay
abbrev pub carried_out : Done → Tried
carried_out z = tried (Some (ended z.answer.level z.answer.msi)) (device_bytes z.answer.hda) z.memory

-- ---- which writes: the controller's reset bit stays, nothing is flushed, and every stream is not in reset and goes on running or resting
abbrev pub same : Bool → Bool → Bool
same a b = not (a && not b) && not (not a && b)

abbrev pub stays_of : ℕ → ℕ → Bool
stays_of before after = not (has 1 after) && same (has 2 before) (has 2 after)

-- stream `i` and those after it
unfoldable pub stay_from : ℕ → ℕ → List ℕ → List ℕ → Bool
stay_from zero i old regs = true
stay_from (suc n) i old regs = stays_of (byte_at old (ctl i)) (byte_at regs (ctl i)) && stay_from n (i + 1) old regs

unfoldable pub quiet_of : List ℕ → List ℕ → Bool
quiet_of old regs = same (has 1 (byte_at old gctl)) (has 1 (byte_at regs gctl)) && (not (has 2 (byte_at regs gctl)) && stay_from streams 0 old regs)

-- a write to the registers that leaves the codec alone, and one to the configuration, whose address may not pass 64 bits
unfoldable pub write_by : ℕ → List ℕ → List ℕ → Machine → Tried
write_by offset bytes device x =
    cond (eqb (check_machine x) 0 && (plain_write offset (length bytes) && quiet_of x.hda.regs (written_of x.hda offset bytes).regs)) (carried_out (write_of offset bytes x)) (tried left_alone device x.memory)

unfoldable pub config_write_by : ℕ → ℕ → List ℕ → List ℕ → Machine → Tried
config_write_by register offset bytes device x =
    cond (eqb (check_machine x) 0 && ltb (4 * register + offset) (2 ^ 64)) (carried_out (config_write_of register offset bytes x)) (tried left_alone device x.memory)

-- ---- the steps
abbrev pub aligned_of : Front → Front
aligned_of x = front_of (align_of x.regs) x.link

-- the commands and the interrupt
abbrev pub ended_by : List ℕ → End → Tried
ended_by memory e = tried (Some (ended e.ended.level e.ended.msi)) (device_bytes e.hda) memory

abbrev pub commanded_by : Commanded → Tried
commanded_by c = ended_by c.memory (end_of c.hda)

unfoldable pub concluded_of : Hda → List ℕ → Tried
concluded_of d memory = commanded_by (commanded_of d memory)
