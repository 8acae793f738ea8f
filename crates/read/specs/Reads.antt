-- A guest's reads: registers, also by base address, and configuration (the Rust's `BusDevice` and `PciDevice`). Each is behind the check of document 01,
-- "Numbers returned".
use Rattle.std.specs.Prelude.{ℕ, cond, List, length, replicate, eqb}
use Rattle.registers.specs.Reads as registers
use Rattle.configuration.specs.Configuration as pci
use Rattle.pci.specs.Interrupts.{level_of}
use Rattle.host.specs.declared.Host.{Host}
use Rattle.device.specs.declared.Hda.{Hda}
use Rattle.device.specs.Machines.{check_of}
use Rattle.read.specs.declared.Status.{Status}
use Rattle.read.specs.declared.Value.{Value}

-- what a read leaves: its number and the INTx level, and the buffer, which a refusal leaves as it was
pub record Shown : Type 0 where
  pub status : Status
  pub into : List ℕ

abbrev pub shown_of : Status → List ℕ → Shown
shown_of status into = record { status = status; into = into }

unfoldable pub status_of : ℕ → Hda → Status
status_of number d = record { number = number; level = level_of d.config d.regs }

-- `number` is what the check gave
abbrev pub read_with : ℕ → Hda → List ℕ → List ℕ → Shown
read_with number d into bytes = shown_of (status_of number d) (cond (eqb number 0) bytes into)

-- registers from `offset` on; bad offsets read 0
unfoldable pub read_of : ℕ → Hda → Host → List ℕ → ℕ → List ℕ → Shown
read_of offset d h lists queues into = read_with (check_of d h lists queues) d into (registers.read_of d.regs offset (length into))

-- the registers are base address 0; another reads 0
unfoldable pub bar_read_of : ℕ → ℕ → Hda → Host → List ℕ → ℕ → List ℕ → Shown
bar_read_of bar offset d h lists queues into =
    cond (eqb bar 0) (read_of offset d h lists queues into) (read_with (check_of d h lists queues) d into (replicate (length into) 0))

-- a configuration register, four bytes as a number; a refused read gives 0
abbrev pub value_of : Status → ℕ → Value
value_of status value = record { number = status.number; level = status.level; value = value }

unfoldable pub config_read_of : ℕ → Hda → Host → List ℕ → ℕ → Value
config_read_of register d h lists queues =
    let number = check_of d h lists queues in
    value_of (status_of number d) (cond (eqb number 0) (pci.read_of d.config register) 0)
