-- Laws of `gain_of`: its three cases. Laws of `amplified_of`: its length, its bytes, whole frames and what comes after them, and what leaves a
-- buffer as it is. Assumes nothing.
use mathlib.Core.Path.{◌≡◌, refl, sym, ap, ◌∙◌, subst}
use mathlib.Core.Bool.{Bool, true, false, cond}
use mathlib.Core.List.{List, [], ◌∷◌, ◌++◌}
use Prim.Native.Nat.{ℕ, zero, suc, ◌+◌, ◌-◌, ◌*◌, ◌/◌, ◌%◌, ◌≤◌, ◌<◌, min}
use native.Mathlib.Nat.{mod-lt}
use native.Mathlib.Omega.{arith}
use lib.Dec.{ltb, lit<}
use lib.IntN.{pos, negsuc, neg_ℤ}
use lib.ListN.{length}
use borrow.Author.Tests.{le-leb, lt-leb, ne_eqb}
use Rattle.word.specs.Value.{Bytes}
use Rattle.gain.specs.declared.Gain.{Gain}
use Rattle.gain.specs.declared.Gain.TheVariants.{Silence, Unity, Factor}
use Rattle.gain.specs.Gain.{factor, gain_of, rounded, whole_of, is_negative, clamp, product, scaled, signed16, bits16, scaled16, amplified_of}

-- ---- what a byte asks for
pub gain-silence : (b : ℕ) → 128 ≤ b → gain_of b ≡ Silence
unfolding gain_of
gain-silence b h = simp (le-leb 128 b h)

pub gain-unity : (b : ℕ) → b ≡ 74 → gain_of b ≡ Unity
unfolding gain_of
gain-unity b e = ap gain_of e

pub gain-factor : (b : ℕ) → b < 128 → (b ≡ 74 → ⊥) → gain_of b ≡ Factor (factor b)
unfolding gain_of
gain-factor b h e = simp (lt-leb 128 b h, ne_eqb b 74 e)

-- ---- the length
pub amplified-length : (g h : Gain) (xs : List ℕ) → length (amplified_of g h xs) ≡ length xs
unfolding amplified_of
amplified-length g h [] = refl
amplified-length g h (x ∷ []) = refl
amplified-length g h (x ∷ y ∷ xs) = ap (λ (n : ℕ). suc (suc n)) (amplified-length h g xs)

-- ---- bytes
word_fits : (lo hi : ℕ) → lo < 256 → hi < 256 → lo + 256 * hi < 65536
word_fits lo hi h k = omega arith

bits-signed : (n : ℕ) → n < 65536 → bits16 (signed16 n) ≡ n
bits-signed n h = go (ltb n 32768)
  where
    twice : (n : ℕ) → n < 65536 → 65535 - (65535 - n) ≡ n
    twice n h = omega arith

    go : (b : Bool) → bits16 (cond b (pos n) (negsuc (65535 - n))) ≡ n
    go true = refl
    go false = twice n h

clamp-fits : (s : Bool) (r : ℕ) → bits16 (clamp s r) < 65536
clamp-fits false r = omega arith
clamp-fits true r = go (min r 32768)
  where
    go : (n : ℕ) → bits16 (neg_ℤ (pos n)) < 65536
    go zero = lit< tt
    go (suc n) = under n
      where
        under : (n : ℕ) → 65535 - n < 65536
        under n = omega arith

scaled16-fits : (g : Gain) (w : ℕ) → w < 65536 → scaled16 g w < 65536
unfolding scaled16 scaled rounded
scaled16-fits Silence w h = lit< tt
scaled16-fits Unity w h = subst (λ (n : ℕ). n < 65536) (sym (bits-signed w h)) h
scaled16-fits (Factor f) w h = clamp-fits (is_negative (product f (signed16 w))) (whole_of (product f (signed16 w)))

pub high-byte-fits : (w : ℕ) → w < 65536 → w / 256 < 256
high-byte-fits w h = omega arith

pub amplified-bytes : (g h : Gain) (xs : List ℕ) → Bytes xs → Bytes (amplified_of g h xs)
unfolding amplified_of
amplified-bytes g h [] b k = b k
amplified-bytes g h (x ∷ []) b k = b k
amplified-bytes g h (x ∷ y ∷ xs) b zero = mod-lt (scaled16 g (x + 256 * y)) (lit< tt)
amplified-bytes g h (x ∷ y ∷ xs) b (suc zero) = high-byte-fits (scaled16 g (x + 256 * y)) (scaled16-fits g (x + 256 * y) (word_fits x y (b 0) (b 1)))
amplified-bytes g h (x ∷ y ∷ xs) b (suc (suc k)) = amplified-bytes h g xs (λ n. b (suc (suc n))) k

-- ---- whole frames, then the rest
frames-append : (g h : Gain) (n : ℕ) (xs ys : List ℕ) → length xs ≡ 4 * n → amplified_of g h (xs ++ ys) ≡ amplified_of g h xs ++ amplified_of g h ys
unfolding amplified_of
frames-append g h zero [] ys e = refl
frames-append g h zero (x ∷ xs) ys e = absurd (omega arith)
frames-append g h (suc n) [] ys e = absurd (omega arith)
frames-append g h (suc n) (x ∷ []) ys e = absurd (omega arith)
frames-append g h (suc n) (x ∷ y ∷ []) ys e = absurd (omega arith)
frames-append g h (suc n) (x ∷ y ∷ z ∷ []) ys e = absurd (omega arith)
frames-append g h (suc n) (x ∷ y ∷ z ∷ t ∷ xs) ys e =
    ap (λ (l : List ℕ). scaled16 g (x + 256 * y) % 256 ∷ scaled16 g (x + 256 * y) / 256 ∷ scaled16 h (z + 256 * t) % 256 ∷ scaled16 h (z + 256 * t) / 256 ∷ l)
    (frames-append g h n xs ys (four-less (length xs) n e))
  where
    four-less : (l n : ℕ) → suc (suc (suc (suc l))) ≡ 4 * suc n → l ≡ 4 * n
    four-less l n e = omega arith

pub amplified-append : (g h : Gain) (xs ys : List ℕ) → length xs % 4 ≡ 0 → amplified_of g h (xs ++ ys) ≡ amplified_of g h xs ++ amplified_of g h ys
amplified-append g h xs ys e = frames-append g h (length xs / 4) xs ys (whole (length xs) e)
  where
    whole : (n : ℕ) → n % 4 ≡ 0 → n ≡ 4 * (n / 4)
    whole n e = omega arith

-- ---- a sample that stays
low_byte : (w lo hi : ℕ) → w ≡ lo + 256 * hi → lo < 256 → w % 256 ≡ lo
low_byte w lo hi e h = omega arith

high_byte : (w lo hi : ℕ) → w ≡ lo + 256 * hi → lo < 256 → w / 256 ≡ hi
high_byte w lo hi e h = omega arith

pub unity-word : (w : ℕ) → w < 65536 → scaled16 Unity w ≡ w
unfolding scaled16 scaled
unity-word w h = bits-signed w h

pub sample-stays : (lo hi : ℕ) (xs : List ℕ) → lo < 256 → hi < 256 → scaled16 Unity (lo + 256 * hi) % 256 ∷ scaled16 Unity (lo + 256 * hi) / 256 ∷ xs ≡ lo ∷ hi ∷ xs
sample-stays lo hi xs h k =
    let w = scaled16 Unity (lo + 256 * hi) in
    let e = unity-word (lo + 256 * hi) (word_fits lo hi h k) in
    ap (λ (x : ℕ). x ∷ w / 256 ∷ xs) (low_byte w lo hi e h) ∙ ap (λ (x : ℕ). lo ∷ x ∷ xs) (high_byte w lo hi e h)

pub amplified-unity : (xs : List ℕ) → Bytes xs → amplified_of Unity Unity xs ≡ xs
unfolding amplified_of
amplified-unity [] b = refl
amplified-unity (x ∷ []) b = refl
amplified-unity (x ∷ y ∷ xs) b = sample-stays x y (amplified_of Unity Unity xs) (b 0) (b 1) ∙ ap (λ (l : List ℕ). x ∷ y ∷ l) (amplified-unity xs (λ k. b (suc (suc k))))
