-- The bytes of a write keep the register file, where they are bytes. Assumes nothing.
use Prim.Native.Nat.{ℕ, suc, ◌+◌, ◌<◌}
use mathlib.Core.List.{List, [], ◌∷◌}
use native.Mathlib.Omega.{arith}
use lib.Dec.{eqb, ltb}
use Rattle.word.specs.Value.{Bytes}
use Rattle.word.proofs.Choices.{by_cond}
use Rattle.registers.specs.Places.{size, rirbwp, icis, has}
use Rattle.registers.proofs.Files.{File, file-store, file-write}
use Rattle.bus.specs.Bus.{Front, byte_of, bytes_of}
use Rattle.calls.proofs.Rings.{immediate-file}

abbrev Filed : Front → Type 0
Filed x = File x.regs

file-byte : (x : Front) (a b : ℕ) → b < 256 → Filed x → Filed (byte_of x a b)
unfolding byte_of
file-byte x a b small f =
    by_cond Filed (ltb a size) _ _
    (λ _. by_cond Filed (eqb a (rirbwp + 1)) _ _
    (λ _. by_cond Filed (has 0x80 b) _ _ (λ _. file-store 2 rirbwp 0 (omega arith) f) (λ _. f))
    (λ _. by_cond Filed (eqb a icis) _ _ (λ _. immediate-file x.regs x.link.codec b f) (λ _. file-write a b small f)))
    (λ _. f)

pub file-bytes : (x : Front) (a : ℕ) (bs : List ℕ) → Bytes bs → Filed x → Filed (bytes_of x a bs)
unfolding bytes_of
file-bytes x a [] h f = f
file-bytes x a (b ∷ bs) h f = file-bytes (byte_of x a b) (a + 1) bs (λ i. h (suc i)) (file-byte x a b (h 0) f)
