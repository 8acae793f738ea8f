-- Laws of the format word: the fields that make it 16-bit stereo PCM, and what is left to decide then.
-- Assumes nothing.
use mathlib.Core.Path.{◌≡◌, refl, sym, ◌∙◌}
use mathlib.Core.Bool.{Bool, true, false, cond, ◌&&◌, beq, true≢false}
use Prim.Native.Nat.{ℕ, ◌+◌, ◌*◌, ◌%◌, ◌<◌}
use native.Mathlib.Numerals.{add-one}
use native.Mathlib.Omega.{arith}
use lib.Dec.{T, eqb, ltb, eqb→eq, eqb-suc-suc}
use lib.ListN.{length, get_or}
use borrow.Author.Tests.{ltb-true, eqb-true}
use Rattle.std.specs.Prelude.{Option, None, Some}
use Rattle.word.proofs.Choices.{left, right}
use Rattle.format.specs.Hda.{Pcm, pcm_of, type_field, base_field, mult_field, div_field, reserved_field, bits_field, chan_field, base_rate, multipliers, sample_bits}
use Rattle.format.specs.Format.{rated_of, restricted, format_of}
use Rattle.format.proofs.Computed.{below}

-- ---- the codes

beq→eq : (a b : Bool) → T (beq a b) → a ≡ b
beq→eq true true t = refl
beq→eq true false t = absurd t
beq→eq false true t = absurd t
beq→eq false false t = refl

-- BITS is 16 at code 1 alone: a test of its eight codes
sixteen : (code : ℕ) → code < 8 → (ltb code (length sample_bits) && eqb (get_or sample_bits code 0) 16) ≡ eqb code 1
sixteen code h = beq→eq _ _ (below (λ b. beq (ltb b (length sample_bits) && eqb (get_or sample_bits b 0) 16) (eqb b 1)) 8 tt code h)

-- MULT multiplies by one more than its code: a test of the four that are not reserved
times : (code : ℕ) → code < 4 → get_or multipliers code 0 ≡ code + 1
times code h = eqb→eq _ _ (below (λ m. eqb (get_or multipliers m 0) (m + 1)) 4 tt code h)

-- CHAN is stereo at code 1 alone
stereo : (code : ℕ) → eqb (code + 1) 2 ≡ eqb code 1
stereo code = rw add-one (eqb-suc-suc code 1)

-- ---- the word

-- 16-bit stereo PCM with nothing reserved, by the fields
abbrev pub stereo_fields : ℕ → Bool
stereo_fields w =
    eqb (type_field w) 0 && eqb (reserved_field w) 0 && ltb (mult_field w) 4 && eqb (bits_field w) 1 && eqb (chan_field w) 1

-- `restricted` as one test
one-test : (x y : Bool) (p : Pcm) →
    restricted (cond (x && y) (Some p) None)
    ≡ cond (x && (y && eqb p.bits 16) && eqb p.channels 2) (rated_of p.numerator p.divisor) None
one-test true true p = refl
one-test true false p = refl
one-test false y p = refl

-- what is chosen under a test may use a part of the test
guarded : (t r m b c : Bool) (f g : Option ℕ) → (m ≡ true → f ≡ g) →
    cond (t && r && m && b && c) f None ≡ cond (t && r && m && b && c) g None
guarded true true true true true f g e = e refl
guarded true true true true false f g e = refl
guarded true true true false c f g e = refl
guarded true true false b c f g e = refl
guarded true false m b c f g e = refl
guarded false r m b c f g e = refl

-- the word by its fields: what the code decides
by-fields : (w : ℕ) →
    format_of w ≡ cond (stereo_fields w) (rated_of (base_rate (base_field w) * (mult_field w + 1)) (div_field w + 1)) None
unfolding format_of pcm_of
by-fields w =
    one-test (eqb (type_field w) 0 && eqb (reserved_field w) 0 && ltb (mult_field w) 4) (ltb (bits_field w) 5) _
    ∙ rw (sixteen (bits_field w) (omega arith), stereo (chan_field w))
    (guarded (eqb (type_field w) 0) (eqb (reserved_field w) 0) (ltb (mult_field w) 4) (eqb (bits_field w) 1) (eqb (chan_field w) 1) _ _
    (λ h. rw (times (mult_field w) (ltb-true _ _ h))))

pub refused : (w : ℕ) → stereo_fields w ≡ false → None ≡ format_of w
refused w h = rw (by-fields, h)

pub rated : (w : ℕ) → stereo_fields w ≡ true → format_of w ≡ rated_of (base_rate (base_field w) * (mult_field w + 1)) (div_field w + 1)
rated w h = rw (by-fields, h)

record Ends (r b c : Bool) : Type 0 where
  reserved : r ≡ true
  bits : b ≡ true
  chan : c ≡ true

ends : (t r m b c : Bool) → (t && r && m && b && c) ≡ true → Ends r b c
ends true r m b c h =
    record {
      reserved = left r m (left (r && m) b (left (r && m && b) c h));
      bits = right (r && m) b (left (r && m && b) c h);
      chan = right (r && m && b) c h;
    }
ends false r m b c h = absurd (true≢false (sym h))

-- 16-bit stereo PCM ends in 0x11
pub low_byte : (w : ℕ) → stereo_fields w ≡ true → w % 256 ≡ 0x11
low_byte w h =
    let e = ends (eqb (type_field w) 0) (eqb (reserved_field w) 0) (ltb (mult_field w) 4) (eqb (bits_field w) 1) (eqb (chan_field w) 1) h in
    omega (arith, eqb-true (reserved_field w) 0 e.reserved, eqb-true (bits_field w) 1 e.bits, eqb-true (chan_field w) 1 e.chan)
