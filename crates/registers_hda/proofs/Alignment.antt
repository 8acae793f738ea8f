-- The alignment after a write, as a mask of each byte. Assumes nothing.
use Prim.Native.Nat.{ℕ, zero, suc, ◌+◌, ◌<◌}
use mathlib.Core.Path.{◌≡◌, sym, ap, ◌∙◌}
use mathlib.Core.List.{List}
use native.Mathlib.Omega.{arith}
use borrow.Author.Tests.{eqb-false}
use lib.Bits.{bit_and, and_zero_r, and_self}
use lib.ListN.{length, set, replicate, length-set, length-replicate, get_or-replicate}
use lib.Seq.{get_or-set_same, get_or-set_other, ext_get_or}
use Rattle.word.specs.Each.{each_of, always}
use Rattle.word.proofs.Choices.{by_value}
use Rattle.stream.specs.Box.{streams}
use Rattle.registers.specs.Places.{size, corbbase, corbwp, rirbbase, dplbase, bdpl, byte_at, keep_bits}
use Rattle.registers.specs.Writes.{align_stream_of, align_of}
use Rattle.registers.proofs.Facts.{length-align}
use Rattle.registers.proofs.Files.{File, file-set, file-align}
use Rattle.registers_hda.proofs.Bits.{and_assoc, and-ones}

-- what the alignment leaves of a file of ones
abbrev ones : List ℕ
ones = replicate size 255

unfoldable pub alignment : ℕ → ℕ
alignment a = byte_at (align_of ones) a

-- ---- it is the mask of every file
-- byte i of a file is what `x` has of byte i of another
record Masked (x i : ℕ) (l o : List ℕ) : Type 0 where
  sized : length l ≡ size
  whole : length o ≡ size
  byte : byte_at l i ≡ bit_and x (byte_at o i)

module _ {x i : ℕ} where
  masked-set : {l o : List ℕ} (p v w : ℕ) → p < size → (i ≡ p → v ≡ bit_and x w) → Masked x i l o → Masked x i (set l p v) (set o p w)
  masked-set {l} {o} p v w few e m =
      record {
        sized = length-set l p v ∙ m.sized;
        whole = length-set o p w ∙ m.whole;
        byte =
            by_value i p (λ s. rw (s, get_or-set_same l p v 0 (omega (arith, m.sized)), get_or-set_same o p w 0 (omega (arith, m.whole))) (e s)) λ f.
            let d = eqb-false i p f in
            rw (get_or-set_other l p i v 0 d, get_or-set_other o p i w 0 d) m.byte;
      }

  masked-keep : {l o : List ℕ} (p k : ℕ) → p < size → Masked x i l o → Masked x i (keep_bits p k l) (keep_bits p k o)
  masked-keep {l} {o} p k few m =
      masked-set p _ _ few (λ s. ap (λ (v : ℕ). bit_and v k) (rw s at m.byte) ∙ and_assoc x (byte_at o p) k) m

  masked-streams : {l o : List ℕ} (n j : ℕ) → j + n ≡ streams → Masked x i l o → Masked x i (each_of always align_stream_of n j l) (each_of always align_stream_of n j o)
  unfolding each_of
  masked-streams zero j e m = m
  masked-streams {l = l} {o = o} (suc n) j e m =
      masked-streams {l = keep_bits (bdpl j) 0x80 l} {o = keep_bits (bdpl j) 0x80 o} n (j + 1) (omega arith) (masked-keep (bdpl j) 0x80 (omega arith) m)

module _ {regs : List ℕ} (f : File regs) where
  pub byte-align : (i : ℕ) → i < size → byte_at (align_of regs) i ≡ bit_and (byte_at regs i) (alignment i)
  unfolding align_of alignment
  byte-align i few =
      let start : Masked (byte_at regs i) i regs ones =
      record {
        sized = f.sized;
        whole = length-replicate {A = ℕ} size 255;
        byte = rw (get_or-replicate {A = ℕ} size i 255 0 few) (sym (and-ones (byte_at regs i) (f.bytes i)));
      } in
      (masked-streams streams 0 (omega arith)
      (masked-set (corbwp + 1) 0 0 (omega arith) (λ s. sym (and_zero_r (byte_at regs i)))
      (masked-keep dplbase 0x81 (omega arith) (masked-keep rirbbase 0x80 (omega arith) (masked-keep corbbase 0x80 (omega arith) start))))
      ).byte

-- A second alignment changes nothing: every write leaves an aligned file.
pub aligned : {regs : List ℕ} → File regs → align_of (align_of regs) ≡ align_of regs
aligned {regs} f =
    ext_get_or 0 (align_of (align_of regs)) (align_of regs) (length-align (align_of regs)) λ i h.
    let few : i < size = omega (arith, length-align (align_of regs), length-align regs, f.sized) in
    byte-align (file-align f) i few
    ∙ ap (λ (v : ℕ). bit_and v (alignment i)) (byte-align f i few)
    ∙ and_assoc (byte_at regs i) (alignment i) (alignment i)
    ∙ ap (bit_and (byte_at regs i)) (and_self (alignment i))
    ∙ sym (byte-align f i few)

-- a byte set
pub align-set : {l : List ℕ} → File l → (a v : ℕ) → a < size → v < 256 → align_of (set l a v) ≡ set (align_of l) a (bit_and v (alignment a))
align-set {l} f a v few small =
    let sized : length (align_of l) ≡ size = length-align l ∙ f.sized in
    ext_get_or 0 (align_of (set l a v)) (set (align_of l) a (bit_and v (alignment a)))
    (length-align (set l a v) ∙ length-set l a v ∙ sym (length-align l) ∙ sym (length-set (align_of l) a (bit_and v (alignment a)))) λ i h.
    let less : i < size = omega (arith, length-align (set l a v), length-set l a v, f.sized) in
    byte-align (file-set a v small f) i less
    ∙ by_value i a (λ s. rw (s, get_or-set_same l a v 0 (omega (arith, f.sized)), get_or-set_same (align_of l) a (bit_and v (alignment a)) 0 (omega arith))) λ t.
    let d = eqb-false i a t in
    rw (get_or-set_other l a i v 0 d, get_or-set_other (align_of l) a i (bit_and v (alignment a)) 0 d) (sym (byte-align f i less))

-- a byte set that has all its bits
pub align-set-whole : {l : List ℕ} → File l → (a v : ℕ) → a < size → v < 256 → alignment a ≡ 255 → align_of (set l a v) ≡ set (align_of l) a v
align-set-whole f a v few small e = align-set f a v few small ∙ ap (set (align_of _) a) (rw e (and-ones v small))
