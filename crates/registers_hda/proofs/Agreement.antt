-- The device writes its registers as HDA 1.0a's table says, but for the named exceptions (specs/Exceptions). Assumes nothing.
use Prim.Native.Nat.{ℕ, ◌+◌, ◌-◌, ◌%◌, ◌<◌}
use mathlib.Core.Path.{◌≡◌, refl, sym, ap, ◌∙◌}
use mathlib.Core.Bool.{Bool, true, false, cond, ◌&&◌, ◌||◌, true≢false}
use mathlib.Core.List.{List, [], ◌∷◌}
use native.Mathlib.Omega.{arith}
use borrow.Author.Tests.{eqb-true, ltb-true}
use lib.Bits.{bit_and, bit_or, and_zero_r, or_zero_r, or_comm, and_mask, and_le_l, or_lt}
use lib.Dec.{eqb, ltb}
use lib.ListN.{set}
use lib.Seq.{ext_get_or, set-get_or}
use Rattle.word.specs.Each.{each_of}
use Rattle.word.proofs.Choices.{both, by_both}
use Rattle.stream.specs.Box.{streams}
use Rattle.registers.specs.Places.{size, gctl, corbrp, corbctl, corbsize, rirbctl, rirbsize, base_of, byte_at, keep_bits}
use Rattle.registers.specs.Reads.{within}
use Rattle.registers.specs.Writes.{replaced, cleared, sized_of, stream_replaced, stream_byte_of, control_byte_of, write_byte_of, align_of}
use Rattle.registers.proofs.Facts.{length-align}
use Rattle.registers.proofs.Files.{File}
use Rattle.registers_hda.specs.Table.{byte_after}
use Rattle.registers_hda.specs.Exceptions.{Special, None, ReadPointerReset, WritePointerReset, SizeReserved, ImmediateCommand, is_none, is_size, special_of}
use Rattle.registers_hda.specs.Files.{written_at, cleared_at, reset_at, constant_at, Regular}
use Rattle.registers_hda.proofs.Bits.{and_assoc, and-or, and-ones, and-within}
use Rattle.registers_hda.proofs.Alignment.{alignment, byte-align, align-set, align-set-whole}
use Rattle.registers_hda.proofs.Places.{failing, holds}

-- ---- what the device does to a byte, by its place
data Action : Type 0 where
  -- the new byte's bits of a mask, beside fixed ones
  Fills : ℕ → ℕ → Action
  -- bits of a mask that a one clears
  Clears : ℕ → Action
  Keeps : Action

stream_action : ℕ → Action
stream_action k =
    cond (eqb k 0x00) (Fills 0 0x1f) (cond (eqb k 0x02) (Fills 0 0xf0) (cond (eqb k 0x03) (Clears 0x1c) (cond (stream_replaced k) (Fills 0 255) Keeps)))

control_action : ℕ → Action
control_action a =
    cond (eqb a corbsize || eqb a rirbsize) (Fills 0x70 3)
    (cond (eqb a gctl) (Fills 0 3)
    (cond (eqb a (gctl + 1)) (Fills 0 1)
    (cond (eqb a (corbrp + 1)) Keeps (cond (eqb a corbctl) (Fills 0 3) (cond (eqb a rirbctl) (Fills 0 7) Keeps)))))

action_of : ℕ → Action
action_of a =
    cond (replaced a) (Fills 0 255)
    (cond (cleared a) (Clears 255) (cond (within (base_of 0) (base_of streams) a) (stream_action ((a - base_of 0) % 0x20)) (control_action a)))

-- ---- and what the table says there
agrees : ℕ → Action → Bool
agrees a (Fills f w) =
    eqb (written_at a) (bit_and w (alignment a))
    && (eqb (cleared_at a) 0 && (eqb (constant_at a) (255 - written_at a) && eqb (bit_and (reset_at a) (constant_at a)) (bit_and f (alignment a))))
agrees a (Clears m) = eqb (alignment a) 255 && (eqb (written_at a) 0 && eqb (cleared_at a) m)
agrees a Keeps = eqb (written_at a) 0 && eqb (cleared_at a) 0

-- The masks are the table's at all places but two: CORBRP's high byte and ICIS.
masks : failing (λ a. agrees a (action_of a)) size ≡ 0x68 ∷ 0x4b ∷ []
unfolding action_of stream_action control_action agrees written_at cleared_at constant_at reset_at alignment align_of each_of
masks = refl

-- ---- laws of masks
-- a byte whose bits software clears by ones, one that it only reads, and one that it writes
byte-cleared : (m old new : ℕ) → byte_after 0 m old new ≡ bit_and old (255 - bit_and new m)
byte-cleared m old new = rw (and_zero_r new)

byte-kept : (old new : ℕ) → old < 256 → byte_after 0 0 old new ≡ old
byte-kept old new h = rw (byte-cleared 0 old new, and_zero_r new) (and-ones old h)

byte-filled : (w f old new : ℕ) → bit_and old (255 - w) ≡ f → byte_after w 0 old new ≡ bit_or f (bit_and new w)
byte-filled w f old new e = rw (and_zero_r new, or_zero_r w, e) (or_comm (bit_and new w) f)

-- a test of an equation before others
equal : (m n : ℕ) (rest : Bool) → eqb m n && rest ≡ true → (m ≡ n) × (rest ≡ true)
equal m n rest t = let k = both (eqb m n) rest t in (eqb-true m n k.0, k.1)

-- ---- writes that masks say
-- where none of them is, its test has failed
skipped : (t : Bool) (e rest : Special) → is_none e ≡ false → cond t e rest ≡ None → (t ≡ false) × (rest ≡ None)
skipped true e rest n h = absurd (true≢false (sym (ap is_none h) ∙ n))
skipped false e rest n h = (refl, h)

pub record Masked (a b : ℕ) : Type 0 where
  pub read-pointer : eqb a 0x4b ≡ false
  pub write-pointer : eqb a 0x59 ≡ false
  pub command : eqb a 0x68 ≡ false
  pub size-code : is_size a && eqb (b % 4) 3 ≡ false

pub masked : (a b : ℕ) → special_of a b ≡ None → Masked a b
unfolding special_of
masked a b h =
    let r = skipped (eqb a 0x4b) ReadPointerReset _ refl h in
    let w = skipped (eqb a 0x59) WritePointerReset _ refl r.1 in
    let c = skipped (eqb a 0x68) ImmediateCommand _ refl w.1 in
    record { read-pointer = r.0; write-pointer = w.0; command = c.0; size-code = (skipped _ SizeReserved None refl c.1).0 }

-- ---- a regular file
-- The reserved bits hold the alignment: at each place the bits that it clears are constant, and 0 at reset.
aligns : ℕ → Bool
aligns a =
    let lost = 255 - alignment a in
    ltb (alignment a) 256 && (eqb (bit_and (constant_at a) lost) lost && eqb (bit_and (reset_at a) lost) 0)

alignments : failing aligns size ≡ []
unfolding aligns constant_at written_at cleared_at reset_at alignment align_of each_of
alignments = refl

pub file : {regs : List ℕ} → Regular regs → File regs
file r = record { sized = r.sized; bytes = r.bytes }

-- A regular file is aligned.
pub regular-aligned : {regs : List ℕ} → Regular regs → align_of regs ≡ regs
unfolding aligns
regular-aligned {regs} r =
    ext_get_or 0 (align_of regs) regs (length-align regs) λ i h.
    let few : i < size = omega (arith, length-align regs, r.sized) in
    let lost : ℕ = 255 - alignment i in
    let t = both (ltb (alignment i) 256) _ (holds aligns size i few (rw alignments refl)) in
    let e = equal (bit_and (constant_at i) lost) lost _ t.1 in
    let none : bit_and (byte_at regs i) lost ≡ 0 =
    ap (bit_and (byte_at regs i)) (sym e.0)
    ∙ sym (and_assoc (byte_at regs i) (constant_at i) lost)
    ∙ ap (λ (v : ℕ). bit_and v lost) (r.constant i few)
    ∙ and_assoc (reset_at i) (constant_at i) lost
    ∙ ap (bit_and (reset_at i)) e.0
    ∙ eqb-true (bit_and (reset_at i) lost) 0 e.1 in
    byte-align (file r) i few ∙ and-within (byte_at regs i) (alignment i) (r.bytes i) (ltb-true _ _ t.0) none

-- ---- a byte written
-- The file as the bytes of a write before it left it: it is regular once it is aligned.
module _ {l : List ℕ} (f : File l) (r : Regular (align_of l)) (a b : ℕ) (few : a < size) (small : b < 256) where
  abbrev old : ℕ
  old = byte_at (align_of l) a

  abbrev Does : List ℕ → Action → Type 0
  Does k action = agrees a action ≡ true → align_of k ≡ set (align_of l) a (byte_after (written_at a) (cleared_at a) old b)

  fills : (v w : ℕ) → v < 256 → Does (set l a (bit_or v (bit_and b w))) (Fills v w)
  unfolding agrees
  fills v w fixed t =
      let al : ℕ = alignment a in
      let x = equal (written_at a) (bit_and w al) _ t in
      let y = equal (cleared_at a) 0 _ x.1 in
      let z = equal (constant_at a) (255 - written_at a) _ y.1 in
      let same : bit_and old (255 - written_at a) ≡ bit_and v al = ap (bit_and old) (sym z.0) ∙ r.constant a few ∙ eqb-true _ _ z.1 in
      align-set f a (bit_or v (bit_and b w)) few (or_lt 8 v (bit_and b w) fixed (omega (arith, and_le_l b w)))
      ∙ ap (set (align_of l) a)
      (and-or v (bit_and b w) al
      ∙ ap (bit_or (bit_and v al)) (and_assoc b w al ∙ ap (bit_and b) (sym x.0))
      ∙ sym (rw y.0 (byte-filled (written_at a) (bit_and v al) old b same)))

  whole : Does (set l a b) (Fills 0 255)
  whole = rw (and-ones b small) at (fills 0 255 (omega arith))

  clears : (m : ℕ) → Does (keep_bits a (255 - bit_and b m) l) (Clears m)
  unfolding agrees
  clears m t =
      let x = equal (alignment a) 255 _ t in
      let y = equal (written_at a) 0 _ x.1 in
      let v : ℕ = bit_and (byte_at l a) (255 - bit_and b m) in
      let same : old ≡ byte_at l a = byte-align f a few ∙ rw x.0 (and-ones (byte_at l a) (f.bytes a)) in
      align-set-whole f a v few (omega (arith, and_le_l (byte_at l a) (255 - bit_and b m), f.bytes a)) x.0
      ∙ ap (set (align_of l) a) (sym (rw (y.0, eqb-true (cleared_at a) m y.1, same) (byte-cleared m (byte_at l a) b)))

  keeps : Does l Keeps
  unfolding agrees
  keeps t =
      let x = equal (written_at a) 0 _ t in
      sym (rw (x.0, eqb-true (cleared_at a) 0 x.1, byte-kept old b (r.bytes a)) (set-get_or (align_of l) a 0))

  stream-does : (k : ℕ) → Does (stream_byte_of l a k b) (stream_action k)
  unfolding stream_byte_of stream_action
  stream-does k =
      by_both Does (eqb k 0x00) _ _ _ _ (λ t. fills 0 0x1f (omega arith)) λ t.
      by_both Does (eqb k 0x02) _ _ _ _ (λ t. fills 0 0xf0 (omega arith)) λ t.
      by_both Does (eqb k 0x03) _ _ _ _ (λ t. clears 0x1c) λ t.
      by_both Does (stream_replaced k) _ _ _ _ (λ t. whole) (λ t. keeps)

  module _ (p : Masked a b) where
    sized : is_size a ≡ true → Does (sized_of l a b) (Fills 0x70 3)
    sized t =
        let code : eqb (bit_and b 3) 3 ≡ false = rw (and_mask b 2) (rw t at p.size-code) in
        rw code (fills 0x70 3 (omega arith))

    control-does : Does (control_byte_of l a b) (control_action a)
    unfolding control_byte_of control_action
    control-does =
        by_both Does (eqb a corbsize || eqb a rirbsize) _ _ _ _ sized λ t.
        by_both Does (eqb a gctl) _ _ _ _ (λ t. fills 0 3 (omega arith)) λ t.
        by_both Does (eqb a (gctl + 1)) _ _ _ _ (λ t. fills 0 1 (omega arith)) λ t.
        by_both Does (eqb a (corbrp + 1)) _ _ _ _ (λ t. absurd (true≢false (sym t ∙ p.read-pointer))) λ t.
        by_both Does (eqb a corbctl) _ _ _ _ (λ t. fills 0 3 (omega arith)) λ t.
        by_both Does (eqb a rirbctl) _ _ _ _ (λ t. fills 0 7 (omega arith)) (λ t. keeps)

    write-does : Does (write_byte_of l a b) (action_of a)
    unfolding write_byte_of action_of
    write-does =
        by_both Does (replaced a) _ _ _ _ (λ t. whole) λ t.
        by_both Does (cleared a) _ _ _ _ (λ t. rw (and-ones b small) at (clears 255)) λ t.
        by_both Does (within (base_of 0) (base_of streams) a) _ _ _ _ (λ t. stream-does ((a - base_of 0) % 0x20)) (λ t. control-does)

  pub byte-writes : special_of a b ≡ None → align_of (write_byte_of l a b) ≡ set (align_of l) a (byte_after (written_at a) (cleared_at a) old b)
  byte-writes h =
      let p = masked a b h in
      write-does p (holds (λ a. agrees a (action_of a)) size a few (rw masks (rw (p.command, p.read-pointer))))

-- A byte written does to the registers what the table says, with the exceptions, and nothing else.
pub writes : {regs : List ℕ} → Regular regs → (a b : ℕ) → a < size → b < 256 → special_of a b ≡ None
    → align_of (write_byte_of regs a b) ≡ set regs a (byte_after (written_at a) (cleared_at a) (byte_at regs a) b)
writes {regs} r a b few small h =
    let e = regular-aligned r in
    rw e at (byte-writes (file r) (rw e r) a b few small h)
