-- The call `save` (document 01, "Numbers returned": "Save writes 748 + 8 × pending bytes from the start of the lent space, returns that count and leaves the rest").
use Rattle.std.specs.Prelude.{ℕ, cond, List, ◌++◌, length, drop, eqb, ltb}
use Rattle.host.specs.declared.Host.{Host}
use Rattle.pci.specs.Interrupts.{level_of}
use Rattle.device.specs.declared.Hda.{Hda}
use Rattle.device.specs.Machines.{check_of}
use Rattle.snapshot.specs.declared.Saved.{Saved}
use Rattle.snapshot.specs.States.{state_of, size_of}

-- the answer: a number, the INTx level, and the count of bytes; and the lent space
pub record Save : Type 0 where
  pub saved : Saved
  pub into : List ℕ

abbrev pub save_out : Saved → List ℕ → Save
save_out saved into = record { saved = saved; into = into }

abbrev pub saved_of : ℕ → Hda → ℕ → Saved
saved_of number d count = record { number = number; level = level_of d.config d.regs; count = count }

-- a refusal leaves the lent space as it was
abbrev pub refused_of : ℕ → Hda → List ℕ → Save
refused_of number d into = save_out (saved_of number d 0) into

-- 10 where the lent space is short
unfoldable pub save_step : Hda → List ℕ → List ℕ → Save
save_step d lists into =
    cond (ltb (length into) (size_of d)) (refused_of 10 d into) (save_out (saved_of 0 d (size_of d)) (state_of d lists ++ drop (size_of d) into))

unfoldable pub save_of : Hda → Host → List ℕ → ℕ → List ℕ → Save
save_of d h lists queues into =
    let number = check_of d h lists queues in
    cond (eqb number 0) (save_step d lists into) (refused_of number d into)
