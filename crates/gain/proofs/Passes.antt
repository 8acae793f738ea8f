-- A buffer amplified, place by place: each byte of `amplified_of` is `amplified_byte`, so what is put at each place makes the whole, in place or in
-- another buffer. Theorem: `one-pass-is-two-steps`. Assumes nothing.
use mathlib.Core.Path.{◌≡◌, refl, sym, ap, ◌∙◌, subst}
use mathlib.Core.Bool.{Bool, true, false, cond, ◌&&◌, true≢false, and-eq-true_iff}
use mathlib.Core.List.{List, [], ◌∷◌, ◌++◌}
use Prim.Native.Nat.{ℕ, zero, suc, ◌+◌, ◌-◌, ◌*◌, ◌/◌, ◌%◌, ◌≤◌, ◌<◌, suc-le-suc}
use native.Mathlib.Omega.{arith}
use native.Mathlib.Nat.{not-suc-le-zero, le_of_suc-le-suc, zero-lt-suc, zero-add}
use borrow.Author.Tests.{ltb-true, ltb-false, lt-ltb, le-ltb}
use lib.Dec.{ltb, eqb}
use lib.ListN.{length, get_or, set, take, drop, replicate, length-set, get_or-append, length-replicate}
use lib.Seq.{get_or-set_same, get_or-set_other, take_all, get_or-take, length-take-le}
use Rattle.std.proofs.lemmas.List.{get_or-replicate, get_or-append_right, get_or-drop}
use Rattle.word.specs.Value.{Bytes}
use Rattle.word.proofs.Choices.{by-test}
use Rattle.gain.specs.declared.Gain.{Gain}
use Rattle.gain.specs.declared.Gain.TheVariants.{Silence, Unity, Factor}
use Rattle.gain.specs.Gain.{scaled, scaled16, amplified_of, two_steps_of, sample_at, side_at, half_of, amplified_byte, pass_from, one_pass_of}
use Rattle.gain.specs.Fast.{is_silence, is_unity, AmplifiedTo, ZerosTo, SameFrom, EachScaled, ScaledWords, ScaledSide, Scattered, sample_scaled}
use Rattle.gain.proofs.Laws.{amplified-length, amplified-unity}

-- ---- one byte
pub side_left : (g h : Gain) (p : ℕ) → p % 4 < 2 → side_at g h p ≡ g
side_left g h p s = ap (λ (b : Bool). cond b g h) (lt-ltb (p % 4) 2 s)

pub side_right : (g h : Gain) (p : ℕ) → 2 ≤ p % 4 → side_at g h p ≡ h
side_right g h p s = ap (λ (b : Bool). cond b g h) (le-ltb (p % 4) 2 s)

-- a half of the sample whose low byte stands at p
pub half : (g h : Gain) (xs : List ℕ) (at p : ℕ) → 2 * (at / 2) ≡ p → p + 1 < length xs → amplified_byte g h xs at ≡ half_of (scaled16 (side_at g h at) (sample_at xs p)) at
half g h xs at p e k =
    ap (λ (l : ℕ). cond (ltb (l + 1) (length xs)) (half_of (scaled16 (side_at g h at) (sample_at xs l)) at) (get_or xs at 0)) e
    ∙ ap (λ (b : Bool). cond b (half_of (scaled16 (side_at g h at) (sample_at xs p)) at) (get_or xs at 0)) (lt-ltb (p + 1) (length xs) k)

-- an odd last byte, and what is past the end
pub alone : (g h : Gain) (xs : List ℕ) (at : ℕ) → length xs ≤ 2 * (at / 2) + 1 → amplified_byte g h xs at ≡ get_or xs at 0
alone g h xs at k = ap (λ (b : Bool). cond b (half_of (scaled16 (side_at g h at) (sample_at xs (2 * (at / 2)))) at) (get_or xs at 0)) (le-ltb (2 * (at / 2) + 1) (length xs) k)

-- both halves, where the side is known
module _ (g h : Gain) (xs : List ℕ) (p : ℕ) (even : p % 2 ≡ 0) (inside : p + 1 < length xs) (s : Gain) (low : side_at g h p ≡ s) (high : side_at g h (p + 1) ≡ s) where
  low_half : amplified_byte g h xs p ≡ scaled16 s (sample_at xs p) % 256
  low_half =
      half g h xs p p (omega arith) inside ∙ ap (λ (n : ℕ). cond (eqb n 0) (scaled16 (side_at g h p) (sample_at xs p) % 256) (scaled16 (side_at g h p) (sample_at xs p) / 256)) even
      ∙ ap (λ (x : Gain). scaled16 x (sample_at xs p) % 256) low

  high_half : amplified_byte g h xs (p + 1) ≡ scaled16 s (sample_at xs p) / 256
  high_half =
      let odd : (p + 1) % 2 ≡ 1 = omega arith in
      half g h xs (p + 1) p (omega arith) inside
      ∙ ap (λ (n : ℕ). cond (eqb n 0) (scaled16 (side_at g h (p + 1)) (sample_at xs p) % 256) (scaled16 (side_at g h (p + 1)) (sample_at xs p) / 256)) odd
      ∙ ap (λ (x : Gain). scaled16 x (sample_at xs p) / 256) high

-- the four bytes of a frame
frame : (g h : Gain) (xs : List ℕ) (p : ℕ) → p % 4 ≡ 0 → p + 3 < length xs
    → (amplified_byte g h xs p ≡ scaled16 g (sample_at xs p) % 256) × (amplified_byte g h xs (p + 1) ≡ scaled16 g (sample_at xs p) / 256)
    × (amplified_byte g h xs (p + 2) ≡ scaled16 h (sample_at xs (p + 2)) % 256) × (amplified_byte g h xs (p + 3) ≡ scaled16 h (sample_at xs (p + 2)) / 256)
frame g h xs p aligned inside =
    let e : (p + 2) % 2 ≡ 0 = omega arith in
    let k : p + 2 + 1 < length xs = omega arith in
    let next : p + 2 + 1 ≡ p + 3 = omega arith in
    let l = side_left g h p (omega arith) in
    let l' = side_left g h (p + 1) (omega arith) in
    let r = side_right g h (p + 2) (omega arith) in
    let r' = side_right g h (p + 2 + 1) (omega arith) in (
      low_half g h xs p (omega arith) (omega arith) g l l',
      high_half g h xs p (omega arith) (omega arith) g l l',
      low_half g h xs (p + 2) e k h r r',
      subst (λ (m : ℕ). amplified_byte g h xs m ≡ scaled16 h (sample_at xs (p + 2)) / 256) next (high_half g h xs (p + 2) e k h r r'),
    )

-- ---- each byte of the frames amplified
side-next : (g h : Gain) (m : ℕ) → side_at g h (suc (suc m)) ≡ side_at h g m
side-next g h m =
    by-test (ltb (m % 4) 2) (λ t. let s = ltb-true (m % 4) 2 t in side_right g h (suc (suc m)) (omega arith) ∙ sym (side_left h g m s))
    (λ t. let s = ltb-false (m % 4) 2 t in side_left g h (suc (suc m)) (omega arith) ∙ sym (side_right h g m s))

-- two bytes are passed over, and the sides change
byte_next : (g h : Gain) (x y : ℕ) (xs : List ℕ) (m : ℕ) → amplified_byte g h (x ∷ y ∷ xs) (suc (suc m)) ≡ amplified_byte h g xs m
byte_next g h x y xs m =
    by-test (ltb (2 * (m / 2) + 1) (length xs))
    (λ t. let k = ltb-true (2 * (m / 2) + 1) (length xs) t in
    half g h (x ∷ y ∷ xs) (suc (suc m)) (suc (suc l)) (omega arith) (omega arith)
    ∙ ap (λ (n : ℕ). cond (eqb n 0) (w % 256) (w / 256)) parity
    ∙ ap (λ (v : ℕ). half_of v m) (ap (λ (s : Gain). scaled16 s (sample_at (x ∷ y ∷ xs) (suc (suc l)))) (side-next g h m) ∙ ap (λ (n : ℕ). scaled16 (side_at h g m) (get_or xs l 0 + 256 * get_or (x ∷ y ∷ xs) n 0)) high)
    ∙ sym (half h g xs m l refl k))
    (λ t. let k = ltb-false (2 * (m / 2) + 1) (length xs) t in alone g h (x ∷ y ∷ xs) (suc (suc m)) (omega arith) ∙ sym (alone h g xs m k))
  where
    l : ℕ
    l = 2 * (m / 2)

    w : ℕ
    w = scaled16 (side_at g h (suc (suc m))) (sample_at (x ∷ y ∷ xs) (suc (suc l)))

    parity : suc (suc m) % 2 ≡ m % 2
    parity = omega arith

    high : suc (suc l) + 1 ≡ suc (suc (l + 1))
    high = omega arith

byte-is : (g h : Gain) (xs : List ℕ) (m : ℕ) → get_or (amplified_of g h xs) m 0 ≡ amplified_byte g h xs m
unfolding amplified_of
byte-is g h [] m = sym (alone g h [] m (omega arith))
byte-is g h (x ∷ []) m = sym (alone g h (x ∷ []) m (omega arith))
byte-is g h (x ∷ y ∷ xs) zero = sym (low_half g h (x ∷ y ∷ xs) 0 refl (omega arith) g refl refl)
byte-is g h (x ∷ y ∷ xs) (suc zero) = sym (high_half g h (x ∷ y ∷ xs) 0 refl (omega arith) g refl refl)
byte-is g h (x ∷ y ∷ xs) (suc (suc m)) = byte-is h g xs m ∙ sym (byte_next g h x y xs m)

-- ---- from the bytes to the whole
-- a list whose bytes are another's is the front of it
front : (xs ys : List ℕ) → length ys ≤ length xs → ((m : ℕ) → m < length ys → get_or ys m 0 ≡ get_or xs m 0) → ys ≡ take (length ys) xs
front xs [] h a = refl
front [] (y ∷ ys) h a = absurd (not-suc-le-zero h)
front (x ∷ xs) (y ∷ ys) h a =
    ap (λ (n : ℕ). n ∷ ys) (a 0 (zero-lt-suc (length ys))) ∙ ap (λ (l : List ℕ). x ∷ l) (front xs ys (le_of_suc-le-suc h) (λ m l. a (suc m) (suc-le-suc l)))

pub amplified-whole : (g h : Gain) (xs ys : List ℕ) → length ys ≡ length xs → AmplifiedTo (length xs) g h xs ys → ys ≡ amplified_of g h xs
amplified-whole g h xs ys e a =
    let k = amplified-length g h xs in
    front (amplified_of g h xs) ys (omega arith) (λ m l. a m (subst (λ (n : ℕ). m < n) e l) ∙ sym (byte-is g h xs m)) ∙ take_all (length ys) (amplified_of g h xs) (omega arith)

module _ (g h : Gain) (xs : List ℕ) where
  pass-length : (n at : ℕ) → length (pass_from g h xs at n) ≡ n
  pass-length zero at = refl
  pass-length (suc n) at = ap suc (pass-length n (suc at))

  pass-at : (n at m : ℕ) → m < n → get_or (pass_from g h xs at n) m 0 ≡ amplified_byte g h xs (at + m)
  pass-at zero at m l = absurd (not-suc-le-zero l)
  pass-at (suc n) at zero l = ap (amplified_byte g h xs) (first at)
    where
      first : (at : ℕ) → at ≡ at + 0
      first at = omega arith
  pass-at (suc n) at (suc m) l = pass-at n (suc at) m (le_of_suc-le-suc l) ∙ ap (amplified_byte g h xs) (next at m)
    where
      next : (at m : ℕ) → suc at + m ≡ at + suc m
      next at m = omega arith

  -- The pass gives what amplifying first and copying afterwards gives (T-03).
  pub one-pass-is-two-steps : (n : ℕ) → n ≤ length xs → one_pass_of g h xs n ≡ two_steps_of g h xs n
  unfolding one_pass_of two_steps_of
  one-pass-is-two-steps n k =
      let e = pass-length n 0 in
      let f = amplified-length g h xs in
      front (amplified_of g h xs) (pass_from g h xs 0 n) (omega arith)
      (λ m l. pass-at n 0 m (subst (λ (i : ℕ). m < i) e l) ∙ ap (amplified_byte g h xs) (zero-add m) ∙ sym (byte-is g h xs m))
      ∙ ap (λ (i : ℕ). take i (amplified_of g h xs)) e

  pub passed : (ys : List ℕ) → length ys ≤ length xs → AmplifiedTo (length ys) g h xs ys → ys ≡ one_pass_of g h xs (length ys)
  unfolding two_steps_of
  passed ys k a =
      let f = amplified-length g h xs in
      front (amplified_of g h xs) ys (omega arith) (λ m l. a m l ∙ sym (byte-is g h xs m)) ∙ sym (one-pass-is-two-steps (length ys) k)

-- ---- a block: both sides' samples of xs, scaled, put behind what is amplified already
module _ (g h : Gain) (n i : ℕ) (xs vs ws ys zs : List ℕ) (aligned : i % 4 ≡ 0) (source : i + 4 * n ≤ length xs) (left : ScaledSide n g xs i vs) (right : ScaledSide n h xs (i + 2) ws)
    (put : Scattered n vs ws i ys zs) where
  abbrev At : ℕ → Type 0
  At m = get_or zs m 0 ≡ amplified_byte g h xs m

  frame-done : (k : ℕ) → k < n → At (i + 4 * k) × At (i + 4 * k + 1) × At (i + 4 * k + 2) × At (i + 4 * k + 3)
  frame-done k l =
      let f = put.0 k l in
      let b = frame g h xs (i + 4 * k) (omega arith) (omega arith) in
      let side : i + 2 + 4 * k ≡ i + 4 * k + 2 = omega arith in
      let v = left k l in
      let w : get_or ws k 0 ≡ scaled16 h (sample_at xs (i + 4 * k + 2)) = right k l ∙ ap (λ (p : ℕ). scaled16 h (sample_at xs p)) side in (
        f.0 ∙ ap (λ (x : ℕ). x % 256) v ∙ sym b.0,
        f.1 ∙ ap (λ (x : ℕ). x / 256) v ∙ sym b.1,
        f.2 ∙ ap (λ (x : ℕ). x % 256) w ∙ sym b.2,
        f.3 ∙ ap (λ (x : ℕ). x / 256) w ∙ sym b.3,
      )

  inside-at : (m : ℕ) → i ≤ m → m < i + 4 * n → At m
  inside-at m a b =
      let l : (m - i) / 4 < n = omega arith in
      go ((m - i) % 4) refl ((m - i) / 4) l (omega arith)
    where
      go : (r : ℕ) → (m - i) % 4 ≡ r → (k : ℕ) → k < n → m ≡ i + 4 * k + (m - i) % 4 → At m
      go zero e k l f = let p : i + 4 * k ≡ m = omega arith in subst At p (frame-done k l).0
      go (suc zero) e k l f = let p : i + 4 * k + 1 ≡ m = omega arith in subst At p (frame-done k l).1
      go (suc (suc zero)) e k l f = let p : i + 4 * k + 2 ≡ m = omega arith in subst At p (frame-done k l).2
      go (suc (suc (suc zero))) e k l f = let p : i + 4 * k + 3 ≡ m = omega arith in subst At p (frame-done k l).3
      go (suc (suc (suc (suc r)))) e k l f = absurd (omega arith)

  pub block-done : AmplifiedTo i g h xs ys → AmplifiedTo (i + 4 * n) g h xs zs
  block-done a m l = by-test (ltb m i) (λ t. let u = ltb-true m i t in put.1 m u ∙ a m u) (λ t. inside-at m (ltb-false m i t) l)

-- in place: what is scaled is what stood there at first, where nothing from there on has changed
pub same-scaled : (n : ℕ) (g : Gain) (xs ys : List ℕ) (i at : ℕ) (ws : List ℕ) → i ≤ at → SameFrom i xs ys → ScaledSide n g ys at ws → ScaledSide n g xs at ws
same-scaled n g xs ys i at ws h s w k l =
    w k l ∙ ap (λ (x : ℕ). scaled16 g (x + 256 * get_or ys (at + 4 * k + 1) 0)) (s (at + 4 * k) (omega arith)) ∙ ap (λ (x : ℕ). scaled16 g (get_or xs (at + 4 * k) 0 + 256 * x)) (s (at + 4 * k + 1) (omega arith))

-- ---- both sides silent, and both as they are
silence-is : (g : Gain) → is_silence g ≡ true → g ≡ Silence
silence-is Silence t = refl
silence-is Unity t = absurd (true≢false (sym t))
silence-is (Factor f) t = absurd (true≢false (sym t))

unity-is : (g : Gain) → is_unity g ≡ true → g ≡ Unity
unity-is Silence t = absurd (true≢false (sym t))
unity-is Unity t = refl
unity-is (Factor f) t = absurd (true≢false (sym t))

module _ (g h : Gain) (a b : Bool) (xs ys : List ℕ) (n : ℕ) where
  pub all-silent : a ≡ is_silence g → b ≡ is_silence h → (a && b) ≡ true → n % 4 ≡ 0 → n ≤ length xs → ZerosTo n ys → AmplifiedTo n g h xs ys
  unfolding scaled16 scaled
  all-silent p q t w k z m l =
      let e = silence-is g (sym p ∙ ((and-eq-true_iff a b).0 t).0) in
      let f = silence-is h (sym q ∙ ((and-eq-true_iff a b).0 t).1) in
      z m l ∙ sym (ap (λ (x : Gain). amplified_byte x h xs m) e ∙ ap (λ (x : Gain). amplified_byte Silence x xs m) f ∙ silent m l)
    where
      same : (x : Bool) → cond x Silence Silence ≡ Silence
      same true = refl
      same false = refl

      none : (x : Bool) → cond x (0 % 256) (0 / 256) ≡ 0
      none true = refl
      none false = refl

      silent : (m : ℕ) → m < n → amplified_byte Silence Silence xs m ≡ 0
      silent m l = half Silence Silence xs m (2 * (m / 2)) refl (omega arith) ∙ ap (λ (x : Gain). half_of (scaled16 x (sample_at xs (2 * (m / 2)))) m) (same (ltb (m % 4) 2)) ∙ none (eqb (m % 2) 0)

  pub all-unity : a ≡ is_unity g → b ≡ is_unity h → (a && b) ≡ true → Bytes xs → ((m : ℕ) → m < n → get_or ys m 0 ≡ get_or xs m 0) → AmplifiedTo n g h xs ys
  all-unity p q t bytes z m l =
      let e = unity-is g (sym p ∙ ((and-eq-true_iff a b).0 t).0) in
      let f = unity-is h (sym q ∙ ((and-eq-true_iff a b).0 t).1) in
      z m l ∙ sym (ap (λ (x : Gain). amplified_byte x h xs m) e ∙ ap (λ (x : Gain). amplified_byte Unity x xs m) f ∙ sym (byte-is Unity Unity xs m) ∙ ap (λ (l : List ℕ). get_or l m 0) (amplified-unity xs bytes))

-- the front of a copy is what was copied, where j bytes were lent
front_of : (xs ys : List ℕ) (n m : ℕ) → n ≤ length xs → m < n → get_or (take n xs ++ ys) m 0 ≡ get_or xs m 0
front_of xs ys zero m k l = absurd (not-suc-le-zero l)
front_of [] ys (suc n) m k l = absurd (not-suc-le-zero k)
front_of (x ∷ xs) ys (suc n) zero k l = refl
front_of (x ∷ xs) ys (suc n) (suc m) k l = front_of xs ys n m (le_of_suc-le-suc k) (le_of_suc-le-suc l)

-- the front of a buffer overwritten: with zeros, with the front of another, and with its own words scaled
pub zeros-front : (xs ys : List ℕ) (n : ℕ) → n ≤ length xs → ys ≡ replicate (length (take n xs)) 0 → ZerosTo n (ys ++ drop n xs)
zeros-front xs ys n k e m l =
    let whole : length (take n xs) ≡ n = length-take-le n xs k in
    let filled : length ys ≡ n = ap length e ∙ length-replicate (length (take n xs)) 0 ∙ whole in
    get_or-append ys (drop n xs) 0 m (omega arith) ∙ ap (λ (zs : List ℕ). get_or zs m 0) e ∙ get_or-replicate (length (take n xs)) m 0 0 (omega arith)

pub copied-front : (xs ys zs : List ℕ) (n : ℕ) → n ≤ length xs → ys ≡ take n xs → (m : ℕ) → m < n → get_or (ys ++ zs) m 0 ≡ get_or xs m 0
copied-front xs ys zs n k e m l = ap (λ (us : List ℕ). get_or (us ++ zs) m 0) e ∙ front_of xs zs n m k l

pub same-behind : (xs ys : List ℕ) (n : ℕ) → n ≤ length xs → length ys ≡ length (take n xs) → SameFrom n xs (ys ++ drop n xs)
same-behind xs ys n k e m l =
    let whole : length (take n xs) ≡ n = length-take-le n xs k in
    let there : n + (m - n) ≡ m = omega arith in
    get_or-append_right ys (drop n xs) n m 0 (e ∙ whole) l ∙ get_or-drop n xs (m - n) 0 ∙ ap (λ (i : ℕ). get_or xs i 0) there

pub front-scaled : (n : ℕ) (g : Gain) (xs ys : List ℕ) → n ≤ length xs → length ys ≡ length (take n xs) → EachScaled (λ v w. w ≡ scaled16 g v) (take n xs) ys → ScaledWords n g xs (ys ++ drop n xs)
front-scaled n g xs ys k e s m l =
    let whole : length (take n xs) ≡ n = length-take-le n xs k in
    get_or-append ys (drop n xs) 0 m (omega arith) ∙ s m (omega arith) ∙ ap (scaled16 g) (get_or-take n xs m 0 l)

-- ---- in place, the sample behind the whole frames
module _ (g h : Gain) (n : ℕ) (xs ys : List ℕ) (aligned : n % 4 ≡ 0) (last : length xs < n + 4) (e : length ys ≡ length xs) (a : AmplifiedTo n g h xs ys) (s : SameFrom n xs ys) where
  w : ℕ
  w = scaled16 g (sample_at ys n)

  there : w ≡ scaled16 g (sample_at xs n)
  unfolding w
  there = ap (λ (x : ℕ). scaled16 g (x + 256 * get_or ys (n + 1) 0)) (s n (omega arith)) ∙ ap (λ (x : ℕ). scaled16 g (get_or xs n 0 + 256 * x)) (s (n + 1) (omega arith))

  put : List ℕ
  put = set (set ys n (w % 256)) (n + 1) (w / 256)

  put-length : length put ≡ length xs
  unfolding put
  put-length = length-set (set ys n (w % 256)) (n + 1) (w / 256) ∙ length-set ys n (w % 256) ∙ e

  past : (m : ℕ) → (m ≡ n → ⊥) → (m ≡ n + 1 → ⊥) → get_or put m 0 ≡ get_or ys m 0
  unfolding put
  past m c d = get_or-set_other (set ys n (w % 256)) (n + 1) m (w / 256) 0 d ∙ get_or-set_other ys n m (w % 256) 0 c

  put_whole : n + 1 < length xs → put ≡ amplified_of g h xs
  unfolding put
  put_whole k = amplified-whole g h xs put put-length (λ m l. by-test (ltb m n) (λ t. let u = ltb-true m n t in past m (λ e. omega arith) (λ e. omega arith) ∙ a m u) (λ t. from m (m - n) (split m (ltb-false m n t)) l))
    where
      split : (m : ℕ) → n ≤ m → m ≡ n + (m - n)
      split m u = omega arith

      fits : length (set ys n (w % 256)) ≡ length xs
      fits = length-set ys n (w % 256) ∙ e

      left : side_at g h n ≡ g
      left = side_left g h n (omega arith)

      left' : side_at g h (n + 1) ≡ g
      left' = side_left g h (n + 1) (omega arith)

      from : (m r : ℕ) → m ≡ n + r → m < length xs → get_or put m 0 ≡ amplified_byte g h xs m
      from m zero f l =
          let p : n ≡ m = omega arith in
          subst (λ (i : ℕ). get_or put i 0 ≡ amplified_byte g h xs i) p
          (get_or-set_other (set ys n (w % 256)) (n + 1) n (w / 256) 0 (λ e. omega arith) ∙ get_or-set_same ys n (w % 256) 0 (omega arith) ∙ ap (λ (x : ℕ). x % 256) there ∙ sym (low_half g h xs n (omega arith) k g left left'))
      from m (suc zero) f l =
          let p : n + 1 ≡ m = omega arith in
          subst (λ (i : ℕ). get_or put i 0 ≡ amplified_byte g h xs i) p
          (get_or-set_same (set ys n (w % 256)) (n + 1) (w / 256) 0 (omega (arith, fits)) ∙ ap (λ (x : ℕ). x / 256) there ∙ sym (high_half g h xs n (omega arith) k g left left'))
      from m (suc (suc r)) f l = past m (λ e. omega arith) (λ e. omega arith) ∙ s m (omega arith) ∙ sym (alone g h xs m (omega arith))

  short-whole : length xs ≤ n + 1 → ys ≡ amplified_of g h xs
  short-whole k = amplified-whole g h xs ys e (λ m l. by-test (ltb m n) (λ t. a m (ltb-true m n t)) (λ t. let u = ltb-false m n t in s m u ∙ sym (alone g h xs m (omega arith))))

  pub rest-done : sample_scaled g n ys ≡ amplified_of g h xs
  unfolding w put
  rest-done =
      by-test (ltb (n + 1) (length ys))
      (λ t. let k = ltb-true (n + 1) (length ys) t in ap (λ (b : Bool). cond b put ys) t ∙ put_whole (omega arith))
      (λ t. let k = ltb-false (n + 1) (length ys) t in ap (λ (b : Bool). cond b put ys) t ∙ short-whole (omega arith))
