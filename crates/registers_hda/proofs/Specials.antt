-- The high bytes of the rings' pointers, and size codes: what HDA 1.0a says of them, and where the device parts from it. Assumes nothing.
use Prim.Native.Nat.{ℕ, ◌+◌, ◌*◌, ◌/◌, ◌%◌, ◌<◌}
use mathlib.Core.Path.{◌≡◌, refl, sym, ap, ◌∙◌}
use mathlib.Core.Bool.{true, cond}
use mathlib.Core.List.{List}
use native.Mathlib.Omega.{arith}
use borrow.Author.Tests.{eqb-true, ne_eqb}
use lib.Bits.{and_high, and_mask, or_shifted}
use lib.Dec.{eqb}
use lib.ListN.{set}
use Rattle.word.specs.Place.{word_at, store_at}
use Rattle.word.specs.Each.{each_of}
use Rattle.word.proofs.Choices.{by_bit, by-test, by_value, by-either}
use Rattle.word.proofs.Place.{store_pair, store_same}
use Rattle.registers.specs.Places.{size, corbrp, rirbwp, has}
use Rattle.registers.specs.Writes.{sized_of, control_byte_of, write_byte_of, align_of}
use Rattle.registers.proofs.Facts.{length-align}
use Rattle.registers.proofs.Files.{File, file-set}
use Rattle.rings.specs.declared.Link.{Link}
use Rattle.bus.specs.Bus.{front_of, byte_of}
use Rattle.registers_hda.specs.Table.{ring_size, top, read_pointer_of, write_pointer_of}
use Rattle.registers_hda.specs.Exceptions.{is_size, pointer_cleared}
use Rattle.registers_hda.specs.Files.{Regular}
use Rattle.registers_hda.proofs.Alignment.{alignment, align-set-whole}
use Rattle.registers_hda.proofs.Agreement.{file, regular-aligned}

-- ---- pointers
-- a word whose bytes have all their bits
align-pair : {l : List ℕ} → File l → (p v : ℕ) → p + 1 < size → alignment p ≡ 255 → alignment (p + 1) ≡ 255 → align_of (store_at 2 p v l) ≡ store_at 2 p v (align_of l)
align-pair {l} f p v few low high =
    ap align_of (store_pair p l (omega (arith, f.sized)) v)
    ∙ align-set-whole (file-set p (v % 256) (omega arith) f) (p + 1) (v / 256 % 256) few (omega arith) high
    ∙ ap (λ (k : List ℕ). set k (p + 1) (v / 256 % 256)) (align-set-whole f p (v % 256) (omega arith) (omega arith) low)
    ∙ sym (store_pair p (align_of l) (omega (arith, length-align l, f.sized)) v)

-- the device's test of a byte's bit 7
top_bit : (b : ℕ) → has 0x80 b ≡ top b
top_bit b = by_bit (b / 0x80) (λ e. rw (and_high b 1 7, e)) (λ e. rw (and_high b 1 7, e))

module _ {regs : List ℕ} (r : Regular regs) (b : ℕ) where
  -- CORBRP's high byte does what HDA says, but where a zero meets a pointer that is not 0.
  pub read-pointer : align_of (write_byte_of regs 0x4b b)
      ≡ store_at 2 0x4a (cond (pointer_cleared (word_at 2 0x4a regs) b) 0 (read_pointer_of (word_at 2 0x4a regs) b)) regs
  unfolding write_byte_of control_byte_of alignment align_of each_of
  read-pointer =
      align-pair (file r) corbrp (cond (has 0x80 b) 0x8000 0) (omega arith) refl refl
      ∙ rw (regular-aligned r, top_bit b)
      (by-test (top b) (λ t. rw t) λ t. rw t (by_value (word_at 2 0x4a regs % 0x8000) 0 (λ e. rw e) (λ e. rw e)))

  -- RIRBWP's high byte does what HDA says.
  pub write-pointer : (link : Link) → align_of (byte_of (front_of regs link) 0x59 b).regs ≡ store_at 2 0x58 (write_pointer_of (word_at 2 0x58 regs) b) regs
  unfolding byte_of alignment align_of each_of
  write-pointer link =
      rw (top_bit b)
      (by-test (top b) (λ t. rw t (align-pair (file r) rirbwp 0 (omega arith) refl refl ∙ rw (regular-aligned r))) λ t.
      rw t (regular-aligned r ∙ sym (store_same 2 0x58 regs (omega (arith, r.sized)) r.bytes)))

-- ---- ring sizes
write-size : (l : List ℕ) (a b : ℕ) → is_size a ≡ true → write_byte_of l a b ≡ sized_of l a b
unfolding write_byte_of control_byte_of
write-size l a b t = by-either (eqb a 0x4e) (eqb a 0x5e) (λ s. rw (eqb-true a 0x4e s)) (λ s. rw (eqb-true a 0x5e s)) t

size-place : (a : ℕ) → is_size a ≡ true → (a < size) × (alignment a ≡ 255)
unfolding alignment align_of each_of
size-place a t = by-either (eqb a 0x4e) (eqb a 0x5e) (λ s. rw (eqb-true a 0x4e s) (omega arith, refl)) (λ s. rw (eqb-true a 0x5e s) (omega arith, refl)) t

-- Size codes 0 to 2 stand in CORBSIZE and RIRBSIZE as written, beside the sizes that the ring may have.
pub size-code : {regs : List ℕ} → Regular regs → (a b : ℕ) → is_size a ≡ true → b % 4 < 3 → align_of (write_byte_of regs a b) ≡ set regs a (ring_size / 4 * 4 + b % 4)
size-code {regs} r a b t h =
    let p = size-place a t in
    ap align_of (write-size regs a b t)
    ∙ rw (and_mask b 2, ne_eqb (b % 4) 3 (omega arith), or_shifted 28 2 (b % 4) (omega arith))
    (align-set-whole (file r) a (0x70 + b % 4) p.0 (omega arith) p.1 ∙ rw (regular-aligned r))

-- Size code 3, reserved in HDA, leaves the register as it is.
pub size-reserved : (l : List ℕ) (a b : ℕ) → is_size a ≡ true → b % 4 ≡ 3 → write_byte_of l a b ≡ l
size-reserved l a b t e = write-size l a b t ∙ rw (and_mask b 2, e)
