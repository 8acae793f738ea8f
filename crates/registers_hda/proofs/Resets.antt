-- The register file at reset is the table's reset column, byte for byte, and so it is regular. Assumes nothing.
use Prim.Native.Nat.{ℕ, zero, suc, ◌+◌, ◌<◌}
use mathlib.Core.Path.{◌≡◌, refl, sym, ap, ◌∙◌}
use mathlib.Core.List.{List}
use native.Mathlib.Omega.{arith}
use native.Mathlib.Nat.{add-zero}
use lib.Bits.{bit_and}
use Rattle.word.specs.Place.{put_at, store_at}
use Rattle.word.specs.Each.{each_of}
use Rattle.registers.specs.Places.{size, byte_at}
use Rattle.registers.specs.Reset.{reset_stream_of, reset_of}
use Rattle.registers.proofs.Files.{file-reset}
use Rattle.registers_hda.specs.Files.{reset_at, constant_at, bytes_from, file_by, Regular}

pub reset : reset_of ≡ file_by reset_at
unfolding put_at store_at each_of reset_stream_of reset_of reset_at
reset = refl

byte-from : (byte : ℕ → ℕ) (n a i : ℕ) → i < n → byte_at (bytes_from byte n a) i ≡ byte (a + i)
byte-from byte zero a i h = absurd (omega arith)
byte-from byte (suc n) a zero h = ap byte (sym (add-zero a))
byte-from byte (suc n) a (suc i) h = byte-from byte n (a + 1) i (omega arith) ∙ ap byte (omega arith)

pub reset-regular : Regular reset_of
reset-regular =
    record {
      sized = file-reset.sized;
      bytes = file-reset.bytes;
      constant = λ a few.
          ap (λ (v : ℕ). bit_and v (constant_at a)) (ap (λ (l : List ℕ). byte_at l a) reset ∙ byte-from reset_at size 0 a few ∙ ap reset_at (omega arith));
    }
