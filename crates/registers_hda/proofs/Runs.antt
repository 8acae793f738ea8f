-- A guest's write of several bytes, which are aligned after the last: it does what the table says of each, and whatever it is, it leaves a regular file regular. Assumes nothing.
use Prim.Native.Nat.{ℕ, suc, ◌+◌, ◌-◌, ◌/◌, ◌%◌, ◌^◌, ◌<◌, ◌≤◌}
use mathlib.Core.Path.{◌≡◌, refl, sym, ap, ◌∙◌}
use mathlib.Core.Bool.{false, cond, ◌&&◌}
use mathlib.Core.List.{List, [], ◌∷◌}
use native.Mathlib.Omega.{arith}
use borrow.Author.Tests.{eqb-true, ltb-true}
use lib.Bits.{bit_and, bit_or, and_zero_r, and_le_l, or_lt}
use lib.Dec.{eqb, ltb}
use lib.ListN.{length, set}
use Rattle.word.specs.Value.{Bytes}
use Rattle.word.specs.Place.{word_at, store_at}
use Rattle.word.specs.Each.{each_of}
use Rattle.word.proofs.Choices.{both, by-test, by_value, by_cond, chosen}
use Rattle.word.proofs.Place.{store_pair, store-join}
use Rattle.codec.specs.declared.Codec.{Codec}
use Rattle.std.specs.Prelude.{Option as Reply, Some as Value, None as Nothing}
use Rattle.codec.specs.Codecs.{verb_of}
use Rattle.registers.specs.Places.{size, corbrp, rirbwp, icoi, icii, icis, byte_at, has, keep_bits}
use Rattle.registers.specs.Writes.{write_byte_of, control_byte_of, align_of}
use Rattle.registers.proofs.Files.{File, file-set, file-write}
use Rattle.rings.specs.declared.Link.{Link}
use Rattle.immediate.specs.Immediate.{Immediate, immediate_allowed, replied_of, immediate_of}
use Rattle.bus.specs.Bus.{Front, front_of, byte_of, bytes_of}
use Rattle.bus.proofs.Laws.{byte-plain}
use Rattle.registers_hda.specs.Exceptions.{None, is_size, special_of}
use Rattle.registers_hda.specs.Files.{written_at, cleared_at, reset_at, constant_at, Regular, after_write, Plain}
use Rattle.registers_hda.proofs.Alignment.{alignment, align-set}
use Rattle.registers_hda.proofs.Agreement.{masked, file, regular-aligned, byte-writes}
use Rattle.registers_hda.proofs.Keeping.{regular-set, regular-after}
use Rattle.registers_hda.proofs.Specials.{size-reserved}

-- a file between two bytes of a write: regular once it is aligned
record Midway (l : List ℕ) : Type 0 where
  file : File l
  regular : Regular (align_of l)

midway : {regs : List ℕ} → Regular regs → Midway regs
midway r = record { file = file r; regular = rw (regular-aligned r) r }

-- ---- a write of plain bytes
midway-plain : {l : List ℕ} → Midway l → (a b : ℕ) → a < size → b < 256 → special_of a b ≡ None → Midway (write_byte_of l a b)
midway-plain m a b few small h =
    record {
      file = file-write a b small m.file;
      regular = rw (byte-writes m.file m.regular a b few small h) (regular-after m.regular a b few small);
    }

run : {l : List ℕ} → Midway l → (link : Link) (a : ℕ) (bs : List ℕ) → Bytes bs → a + length bs ≤ size → Plain a bs
    → align_of (bytes_of (front_of l link) a bs).regs ≡ after_write (align_of l) a bs
unfolding bytes_of
run {l = l} m link a [] small few h = refl
run {l = l} m link a (b ∷ bs) small few h =
    let p = masked a b h.0 in
    let inside : a < size = omega arith in
    let next = byte-writes m.file m.regular a b inside (small 0) h.0 in
    ap (λ (x : Front). align_of (bytes_of x (a + 1) bs).regs) (sym (byte-plain (front_of l link) a b inside (rw (p.write-pointer, p.command))))
    ∙ run {l = write_byte_of l a b} (midway-plain m a b inside (small 0) h.0) link (a + 1) bs (λ k. small (suc k)) (omega arith) h.1
    ∙ ap (λ (k : List ℕ). after_write k (a + 1) bs) next

-- A write of plain bytes does to the registers what the table says, with the exceptions, byte by byte.
pub write-agrees : {regs : List ℕ} → Regular regs → (link : Link) (a : ℕ) (bs : List ℕ) → Bytes bs → a + length bs ≤ size → Plain a bs
    → align_of (bytes_of (front_of regs link) a bs).regs ≡ after_write regs a bs
write-agrees r link a bs small few h = run (midway r) link a bs small few h ∙ ap (λ (k : List ℕ). after_write k a bs) (regular-aligned r)

-- ---- any write
midway-set : {l : List ℕ} → Midway l → (p v : ℕ) → p < size → v < 256 → bit_and (bit_and v (alignment p)) (constant_at p) ≡ bit_and (reset_at p) (constant_at p) → Midway (set l p v)
midway-set m p v few small e =
    record {
      file = file-set p v small m.file;
      regular = rw (align-set m.file p v few small) (regular-set m.regular p _ (omega (arith, and_le_l v (alignment p))) e);
    }

-- a byte with no constant bits
midway-free : {l : List ℕ} → Midway l → (p v : ℕ) → p < size → v < 256 → constant_at p ≡ 0 → Midway (set l p v)
midway-free m p v few small e = midway-set m p v few small (rw (e, and_zero_r (bit_and v (alignment p)), and_zero_r (reset_at p)))

midway-pair : {l : List ℕ} → Midway l → (p v : ℕ) → p + 1 < size → constant_at p ≡ 0
    → bit_and (bit_and (v / 256 % 256) (alignment (p + 1))) (constant_at (p + 1)) ≡ bit_and (reset_at (p + 1)) (constant_at (p + 1)) → Midway (store_at 2 p v l)
midway-pair {l} m p v few low high =
    rw (store_pair p l (omega (arith, m.file.sized)) v)
    (midway-set (midway-free m p (v % 256) (omega arith) (omega arith) low) (p + 1) (v / 256 % 256) few (omega arith) high)

module _ {l : List ℕ} (m : Midway l) where
  -- CORBRP's high byte
  midway-restart : (b : ℕ) → Midway (store_at 2 corbrp (cond (has 0x80 b) 0x8000 0) l)
  unfolding constant_at written_at cleared_at reset_at alignment align_of each_of
  midway-restart b = by-test (has 0x80 b) (λ t. rw t (midway-pair m corbrp 0x8000 (omega arith) refl refl)) (λ t. rw t (midway-pair m corbrp 0 (omega arith) refl refl))

  -- RIRBWP's
  midway-rewind : Midway (store_at 2 rirbwp 0 l)
  unfolding constant_at written_at cleared_at reset_at
  midway-rewind = midway-pair m rirbwp 0 (omega arith) refl refl

  midway-byte : (a b : ℕ) → a < size → b < 256 → eqb a 0x59 ≡ false → eqb a 0x68 ≡ false → Midway (write_byte_of l a b)
  unfolding special_of write_byte_of control_byte_of
  midway-byte a b few small u w =
      by_value a 0x4b (λ e. rw e (midway-restart b)) λ f.
      by-test (is_size a && eqb (b % 4) 3)
      (λ t. let k = both (is_size a) _ t in rw (size-reserved l a b k.0 (eqb-true (b % 4) 3 k.1)) m)
      (λ t. midway-plain m a b few small (rw (f, u, w, t)))

-- ICIS and ICII, of whose bits none is constant
module _ {l : List ℕ} (m : Midway l) where
  midway-icis : (v : ℕ) → v < 256 → Midway (set l icis v)
  unfolding constant_at written_at cleared_at
  midway-icis v small = midway-free m icis v (omega arith) small refl

  midway-keep : (mask : ℕ) → Midway (keep_bits icis mask l)
  midway-keep mask = midway-icis (bit_and (byte_at l icis) mask) (omega (arith, and_le_l (byte_at l icis) mask, m.file.bytes icis))

  midway-response : (v : ℕ) → Midway (store_at 4 icii v l)
  unfolding constant_at written_at cleared_at reset_at
  midway-response v =
      rw (sym (store-join 2 icii v l (omega (arith, m.file.sized)) 2 v refl))
      (midway-pair (midway-pair m icii v (omega arith) refl (free (v / 256 % 256) 0x65)) 0x66 (v / 256 ^ 2) (omega arith) refl (free (v / 256 ^ 2 / 256 % 256) 0x67))
    where
      free : (w p : ℕ) → bit_and (bit_and w (alignment p)) 0 ≡ 0
      free w p = and_zero_r (bit_and w (alignment p))

module _ {l : List ℕ} (m : Midway l) (codec : Codec) where
  midway-replied : (reply : Reply ℕ) → Midway (replied_of l codec reply).regs
  midway-replied Nothing = midway-icis m (bit_or (byte_at l icis) 1) (or_lt 8 (byte_at l icis) 1 (m.file.bytes icis) (omega arith))
  midway-replied (Value v) = midway-icis (midway-response m v) 2 (omega arith)

abbrev Left : Immediate → Type 0
Left i = Midway i.regs

midway-immediate : {l : List ℕ} → Midway l → (codec : Codec) (b : ℕ) → Midway (immediate_of l codec b).regs
unfolding immediate_of
midway-immediate {l} m codec b =
    let k = midway-keep m (255 - bit_and b 2) in
    let cleared : List ℕ = keep_bits icis (255 - bit_and b 2) l in
    chosen Left (has 1 b) (chosen Left (immediate_allowed cleared) (midway-replied k _ (verb_of codec (word_at 4 icoi cleared)).reply) k) (midway-keep k 0xfe)

abbrev Written : Front → Type 0
Written x = Midway x.regs

byte-midway : (x : Front) → Written x → (a b : ℕ) → b < 256 → Written (byte_of x a b)
unfolding byte_of
byte-midway x m a b small =
    by_cond Written (ltb a size) _ _ (λ t.
    by_cond Written (eqb a (rirbwp + 1)) _ _ (λ u. chosen Written (has 0x80 b) (midway-rewind m) m) λ u.
    by_cond Written (eqb a icis) _ _ (λ w. midway-immediate m x.link.codec b) λ w. midway-byte m a b (ltb-true a size t) small u w)
    (λ t. m)

bytes-midway : (x : Front) → Written x → (a : ℕ) (bs : List ℕ) → Bytes bs → Written (bytes_of x a bs)
unfolding bytes_of
bytes-midway x m a [] small = m
bytes-midway x m a (b ∷ bs) small = bytes-midway (byte_of x a b) (byte-midway x m a b (small 0)) (a + 1) bs (λ k. small (suc k))

-- Whatever a guest writes, and wherever, a regular file stays regular.
pub write-regular : {regs : List ℕ} → Regular regs → (link : Link) (a : ℕ) (bs : List ℕ) → Bytes bs → Regular (align_of (bytes_of (front_of regs link) a bs).regs)
write-regular {regs} r link a bs small = (bytes-midway (front_of regs link) (midway r) a bs small).regular
