-- The identity as the word that a check compares, and the register file after an update of the interrupts. Assumes nothing.
use Prim.Native.Nat.{ℕ}
use mathlib.Core.Path.{◌≡◌, refl, ap, ◌∙◌}
use mathlib.Core.Bool.{Bool}
use mathlib.Core.List.{List}
use Rattle.word.specs.Value.{value_of}
use Rattle.word.specs.Place.{word_at, store_at}
use Rattle.registers.proofs.Files.{File}
use Rattle.configuration.specs.Configuration.{identity, fresh_of, write_of}
use Rattle.pci.specs.Interrupts.{update_of}
use Rattle.pci.proofs.Facts.{identity-kept, update-identity-kept, length-update-regs, bytes-update-regs}

pub fresh-word : word_at 4 0 fresh_of ≡ identity
unfolding fresh_of store_at word_at
fresh-word = refl

pub write_word : (config : List ℕ) (a : ℕ) (bs : List ℕ) → word_at 4 0 (write_of config a bs) ≡ word_at 4 0 config
unfolding word_at
write_word config a bs = ap value_of (identity-kept config a bs)

module _ (config regs : List ℕ) (asserted : Bool) where
  pub update_word : word_at 4 0 (update_of config regs asserted).config ≡ word_at 4 0 config
  unfolding word_at
  update_word = ap value_of (update-identity-kept config regs asserted)

  pub update-file : File regs → File (update_of config regs asserted).regs
  update-file f =
      record { sized = length-update-regs regs f.sized config asserted ∙ f.sized; bytes = bytes-update-regs regs f.sized config asserted f.bytes }
