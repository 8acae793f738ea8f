-- A restore of either kind leaves a valid machine, where the state's bytes are bytes. Assumes nothing.
use Prim.Native.Nat.{ℕ, ◌≤◌}
use mathlib.Core.Path.{◌≡◌}
use mathlib.Core.Bool.{Bool}
use mathlib.Core.List.{List}
use native.Mathlib.Omega.{arith}
use borrow.Author.Tests.{eqb-true}
use lib.Dec.{eqb}
use lib.ListN.{length, drop}
use Rattle.word.specs.Value.{Bytes}
use Rattle.word.proofs.Choices.{by_cond}
use Rattle.word.proofs.Lists.{bytes_take, bytes_drop, length_part}
use Rattle.registers.specs.Places.{walclk}
use Rattle.registers.proofs.Files.{File, file-store}
use Rattle.host.specs.declared.Host.{Host}
use Rattle.device.specs.declared.Hda.{Hda}
use Rattle.device.specs.Machines.{Machine, check_of, answer_of, finish_of}
use Rattle.record.specs.Loads.{block_at}
use Rattle.parse.proofs.Theorems.{taken-long}
use Rattle.restore.specs.Restores.{restored_device, Restored, accepted_of, number_of, restore_step, restore_of}
use Rattle.restore.proofs.Theorems.{number-taken, restored-valid}
use Rattle.calls.specs.Calls.{with_restored}
use Rattle.calls.proofs.Pci.{update-file}
use Rattle.calls.proofs.Devices.{Stands, check-stands, stands-check}

module _ (s : List ℕ) (typed : Bytes s) where
  -- a state's 256 bytes of registers
  block-file : 680 ≤ length s → File (block_at 262 s)
  block-file long = record { sized = length_part 256 262 s (omega arith); bytes = bytes_take 256 (drop 262 s) (bytes_drop 262 s typed) }

  module _ (strict : Bool) (d : Hda) (h : Host) (l : List ℕ) (q : ℕ) (file : File d.regs) where
    accepted-file : number_of strict s d h ≡ 0 → File (accepted_of strict s d h l).answer.hda.regs
    unfolding finish_of answer_of restored_device
    accepted-file e =
        let long : 680 ≤ length s = taken-long strict s d.microphone d.config (number-taken strict s d h e) in
        update-file _ _ _ (file-store 4 walclk _ (omega arith) (block-file long))

    -- accepted, or refused by the state or by the check
    restored-file : File (restore_of strict s d h l q).answer.hda.regs
    unfolding restore_of restore_step answer_of
    restored-file =
        let Q : Restored → Type 0 = λ r. File r.answer.hda.regs in
        by_cond Q (eqb (check_of d h l q) 0) _ _
        (λ _. by_cond Q (eqb (number_of strict s d h) 0) _ _ (λ e. accepted-file (eqb-true (number_of strict s d h) 0 e)) (λ _. file))
        (λ _. file)

pub restore-stands : (x : Machine) → Stands x → (strict : Bool) (state : List ℕ) → Bytes state
    → Stands (with_restored x (restore_of strict state x.hda x.host x.lists (length x.queues)))
restore-stands x s strict state typed =
    check-stands _ (restored-valid strict state x.hda x.host x.lists (length x.queues) (stands-check x s))
    (restored-file state typed strict x.hda x.host x.lists (length x.queues) s.holds.file)
