-- Which words are accepted, for all 65,536 of them, and what is known of an accepted rate.
-- Assumes nothing.
use mathlib.Core.Path.{◌≡◌, refl, sym, ap, ◌∙◌, subst}
use mathlib.Core.Bool.{Bool, true, false, cond, ◌&&◌, true≢false, not-eq-not}
use mathlib.Core.List.{List, [], ◌∷◌}
use Prim.Native.Nat.{ℕ, ◌+◌, ◌*◌, ◌/◌, ◌%◌, ◌≤◌, ◌<◌}
use native.Mathlib.Omega.{arith}
use lib.Dec.{T, eqb, leb, ltb, lit<, eqb→eq, leb→le, ltb→lt}
use lib.Ieee.Bits.{is_true}
use lib.Ieee.Fits.{and_l, and_r}
use borrow.Author.Tests.{eqb-true, eqb-false, ne_eqb}
use Rattle.std.specs.Prelude.{Option, None, Some}
use Rattle.word.proofs.Choices.{by-test, by-either}
use Rattle.format.specs.Hda.{Pcm, pcm_of}
use Rattle.format.specs.Format.{rates, among, stereo16, rated_of, restricted, format_of}
use Rattle.format.specs.Accepted.{accepted_words, listed, Accepted}
use Rattle.format.proofs.Computed.{every, below}
use Rattle.format.proofs.Laws.{refused, low_byte}

-- ---- formats compared by computation

abbrev same : Option ℕ → Option ℕ → Bool
same None None = true
same None (Some b) = false
same (Some a) None = false
same (Some a) (Some b) = eqb a b

same→eq : (f g : Option ℕ) → T (same f g) → f ≡ g
same→eq None None t = refl
same→eq None (Some b) t = absurd t
same→eq (Some a) None t = absurd t
same→eq (Some a) (Some b) t = ap Some (eqb→eq a b t)

-- ---- the accepted words

-- the words that end in 0x11: one test, computed at all 256 of them
ending : (h : ℕ) → h < 256 → format_of (h * 256 + 0x11) ≡ listed (h * 256 + 0x11) accepted_words
unfolding format_of pcm_of
ending h l = same→eq _ _ (below (λ h. same (format_of (h * 256 + 0x11)) (listed (h * 256 + 0x11) accepted_words)) 256 tt h l)

-- a word with another end is in no table whose words end in 0x11
not_listed : (w : ℕ) (es : List (ℕ × ℕ)) → T (every (λ e. eqb (e.0 % 256) 0x11) es) → (w % 256 ≡ 0x11 → ⊥) → None ≡ listed w es
not_listed w [] t n = refl
not_listed w (e ∷ es) t n =
    let end = eqb→eq _ _ (and_l (eqb (e.0 % 256) 0x11) _ t) in
    rw (ne_eqb w e.0 (λ h. n (ap (λ (v : ℕ). v % 256) h ∙ end)))
    (not_listed w es (and_r (eqb (e.0 % 256) 0x11) _ t) n)

-- document 01's table is the whole of what is accepted, and every other word is refused
pub accepted : (w : ℕ) → w < 65536 → format_of w ≡ listed w accepted_words
accepted w l =
    by-test (eqb (w % 256) 0x11)
    (λ e.
    let whole : w / 256 * 256 + 0x11 ≡ w = omega (arith, eqb-true (w % 256) 0x11 e) in
    subst (λ (v : ℕ). format_of v ≡ listed v accepted_words) whole (ending (w / 256) (omega arith)))
    (λ e.
    let other = eqb-false (w % 256) 0x11 e in
    sym (refused w ((not-eq-not {b = false}).0 (λ h. other (low_byte w h)))) ∙ not_listed w accepted_words tt other)

-- document 01, Worked by hand, without the word that T-01 accepts: a reserved multiplier; mono; not PCM
pub refused-words : (format_of 0x2011 ≡ None) × (format_of 0x0010 ≡ None) × (format_of 0x8011 ≡ None)
refused-words = (accepted 0x2011 (lit< tt), accepted 0x0010 (lit< tt), accepted 0x8011 (lit< tt))

-- ---- the accepted rates

module _ (p : ℕ → Bool) where
  -- what holds of each number of a list holds of a number that is on it
  pub on_list : (x : ℕ) (ys : List ℕ) → T (every p ys) → among x ys ≡ true → T (p x)
  on_list x [] t h = absurd (true≢false (sym h))
  on_list x (y ∷ ys) t h =
      by-either (eqb x y) (among x ys)
      (λ e. rw (eqb-true x y e) (and_l (p y) (every p ys) t))
      (λ m. on_list x ys (and_r (p y) (every p ys) t) m)
      h

  abbrev holds : Option ℕ → Bool
  holds None = true
  holds (Some r) = p r

  module _ (each : T (every p rates)) where
    holds-rated : (exact listed : Bool) (x : ℕ) → listed ≡ among x rates → T (holds (cond (exact && listed) (Some x) None))
    holds-rated true true x h = on_list x rates each (sym h)
    holds-rated true false x h = tt
    holds-rated false listed x h = tt

    holds-chosen : (b : Bool) (n d : ℕ) → T (holds (cond b (rated_of n d) None))
    holds-chosen true n d = holds-rated (eqb (n % d) 0) (among (n / d) rates) (n / d) refl
    holds-chosen false n d = tt

    holds-restricted : (o : Option Pcm) → T (holds (restricted o))
    holds-restricted None = tt
    holds-restricted (Some f) = holds-chosen (stereo16 f) f.numerator f.divisor

    -- what holds of each rate on the list holds of every accepted rate
    pub every-rate : (w r : ℕ) → format_of w ≡ Some r → T (p r)
    unfolding format_of
    every-rate w r e = subst (λ (f : Option ℕ). T (holds f)) e (holds-restricted (pcm_of w))

-- an accepted rate is positive, and at most 96,000 frames a second
pub rate-bound : (w r : ℕ) → format_of w ≡ Some r → (0 < r) × (r ≤ 96_000)
rate-bound w r e =
    let t = every-rate (λ r. ltb 0 r && leb r 96_000) tt w r e in
    (ltb→lt 0 r (and_l (ltb 0 r) (leb r 96_000) t), leb→le r 96_000 (and_r (ltb 0 r) (leb r 96_000) t))

-- the first word of the table with a rate, and whether the table has one
abbrev word_for : ℕ → List (ℕ × ℕ) → ℕ
word_for r [] = 0
word_for r (e ∷ es) = cond (eqb r e.1) e.0 (word_for r es)

abbrev has_word : ℕ → Bool
has_word r = ltb (word_for r accepted_words) 65536 && same (listed (word_for r accepted_words) accepted_words) (Some r)

word-accepted : (r : ℕ) → T (has_word r) → Accepted r
word-accepted r t =
    let w = word_for r accepted_words in
    let l = ltb→lt w 65536 (and_l (ltb w 65536) (same (listed w accepted_words) (Some r)) t) in
    (w, l, accepted w l ∙ same→eq (listed w accepted_words) (Some r) (and_r (ltb w 65536) (same (listed w accepted_words) (Some r)) t))

-- the list has exactly the rates of accepted words
pub rates-exact : (r : ℕ) → (among r rates ≡ true → Accepted r) × (Accepted r → among r rates ≡ true)
rates-exact r = (
  (λ on. word-accepted r (on_list has_word r rates tt on)),
  λ a. is_true (among r rates) (every-rate (λ r. among r rates) tt a.0 r a.2),
)
