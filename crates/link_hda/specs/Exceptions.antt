-- Where HDA 1.0a leaves open what happens, or the device does otherwise, by name (docs/DIFFERENCES.md lists them): the Rust decides there.
use Rattle.std.specs.Prelude.{ℕ, Bool, true, false, cond, List, get_or}
use Rattle.rings_hda.specs.Hda.{bit, dma_of, State}
use Rattle.rings_hda.specs.Exceptions as rings
use Rattle.link_hda.specs.Unsolicited.{asked}
use Rattle.link_hda.specs.Immediate.{is_busy, rings_run}

pub data Exception : Type 0 where
  None : Exception
  -- a pin that does not declare unsolicited responses: HDA's never sends one; the device's sends as if it did
  Undeclared : Exception
  -- an unsolicited response while bus master is off: HDA says nothing; the device sends none
  DmaOff : Exception
  -- one of the response ring's exceptions
  InRing : rings.Exception → Exception
  -- the immediate status written in reset: HDA ignores it; the device clears valid and busy by it, and sends no command
  InReset : Exception
  -- busy written 1 while it is 1: HDA sends nothing; the device sends the command again
  BusySet : Exception
  -- busy written 1 while a ring runs: HDA has software not do it; the device sends where the command ring is stopped or has caught up, and else drops the command
  RingsRun : Exception

abbrev pub is_none : Exception → Bool
is_none None = true
is_none Undeclared = false
is_none DmaOff = false
is_none (InRing e) = false
is_none InReset = false
is_none BusySet = false
is_none RingsRun = false

abbrev pub in_ring : rings.Exception → Exception
in_ring e = cond (rings.is_none e) None (InRing e)

-- of a change of presence: HDA's nodes that are `able` declare unsolicited responses
unfoldable pub unsolicited_exception : (ℕ → Bool) → List ℕ → State → ℕ → ℕ → Exception
unsolicited_exception able config s node control =
    cond (asked s.regs node control)
    (cond (able node) (cond (dma_of config s.regs) (in_ring (rings.store_exception config s)) DmaOff) Undeclared)
    None

-- of a byte written to the immediate command's status
unfoldable pub immediate_exception : List ℕ → ℕ → Exception
immediate_exception regs written =
    cond (bit 1 (get_or regs 0x08 0))
    (cond (bit 1 written) (cond (is_busy (get_or regs 0x68 0)) BusySet (cond (rings_run regs) RingsRun None)) None)
    InReset
