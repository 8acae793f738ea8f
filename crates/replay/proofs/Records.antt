-- Laws of the recorded answers: a record of another size stays, and one of the right size gets the leaf's answer, from what the calls on the way gave.
-- Assumes nothing.
use Rattle.std.proofs.Common.{◌≡◌, ℕ, ◌+◌, ◌-◌, ◌*◌, ◌<◌, ◌≤◌, true, false, List, [], ◌++◌, length, get_or, take, drop, ap, ◌∙◌, append-nil, arith, length-append, length-drop, drop_of_length-le, length-take-le, take_all, take_at, drop_at, le-ltb, lt-ltb, eq-eqb, ne_eqb}
use Rattle.std.proofs.Math.Seq.{paste}
use Rattle.gain.specs.declared.Gain.{Gain}
use Rattle.gain.specs.Gain.{gain_of, amplified_of}
use Rattle.replay.specs.Answers.{answered, sized, pcm_of, gain_answer}

pub other-size : (n : ℕ) (b own : List ℕ) → (length b ≡ n → ⊥) → answered false b ≡ sized n b own
other-size n b own h = rw (ne_eqb (length b) n h)

pub right-size : (n : ℕ) (b own x : List ℕ) → length b ≡ n → x ≡ own → answered true x ≡ sized n b own
right-size n b own x h e = rw (eq-eqb (length b) n h, e)

-- a record of a gain that is too short, or of another length than it says
pub gain-short : (b : List ℕ) → length b < 4 → answered false b ≡ gain_answer b
unfolding gain_answer
gain-short b h = rw (lt-ltb (length b) 4 h)

pub gain-other : (b : List ℕ) (pcm : ℕ) → 4 ≤ length b → pcm ≡ pcm_of b → (length b ≡ 4 + 2 * pcm → ⊥) → answered false b ≡ gain_answer b
unfolding gain_answer
gain-other b pcm h e g = rw (le-ltb (length b) 4 h, ← e) (other-size (4 + 2 * pcm) b _ g)

-- the samples, copied behind themselves, are amplified where they stand
abbrev repeated : ℕ → List ℕ → List ℕ
repeated pcm b = take (4 + pcm) b ++ take pcm (drop 4 b)

module _ (b : List ℕ) (pcm : ℕ) (whole : length b ≡ 4 + 2 * pcm) where
  front_length : length (take (4 + pcm) b) ≡ 4 + pcm
  front_length = length-take-le (4 + pcm) b (omega arith)

  samples-length : length (take pcm (drop 4 b)) ≡ pcm
  samples-length = length-take-le pcm (drop 4 b) (omega (arith, length-drop 4 b))

  repeated-front : take (4 + pcm) (repeated pcm b) ≡ take (4 + pcm) b
  repeated-front = take_at (take (4 + pcm) b) (take pcm (drop 4 b)) (4 + pcm) front_length

  repeated-back : drop (4 + pcm) (repeated pcm b) ≡ take pcm (drop 4 b)
  repeated-back = drop_at (take (4 + pcm) b) (take pcm (drop 4 b)) (4 + pcm) front_length

  repeated-length : length (repeated pcm b) ≡ 4 + 2 * pcm
  repeated-length = length-append (take (4 + pcm) b) (take pcm (drop 4 b)) ∙ omega (arith, front_length, samples-length)

  -- what `copy_within` gives
  pub copied-behind : (y : List ℕ) (n : ℕ) → n ≡ pcm → y ≡ paste b (4 + pcm) (drop 4 b) n → y ≡ repeated pcm b
  copied-behind y n e f =
      let rest : drop (4 + pcm + n) b ≡ [] = drop_of_length-le b (omega (arith, whole)) in
      f ∙ rw rest (rw e (append-nil (repeated pcm b)))

  amplified : (y z : List ℕ) (left right : Gain) (k : ℕ) → y ≡ repeated pcm b → k ≡ pcm → z ≡ amplified_of left right (take k (drop (4 + pcm) y)) →
      take (4 + pcm) y ++ (z ++ drop k (drop (4 + pcm) y)) ≡ take (4 + pcm) b ++ amplified_of left right (take pcm (drop 4 b))
  amplified y z left right k e f g =
      let all : length (take pcm (drop 4 b)) ≤ pcm = omega (arith, samples-length) in
      rw (g, e, f, repeated-front, repeated-back, take_all pcm (take pcm (drop 4 b)) all, drop_of_length-le (take pcm (drop 4 b)) all, append-nil)

  pub gain-answer : (y z : List ℕ) (left right : Gain) → 4 ≤ length b → pcm ≡ pcm_of b → left ≡ gain_of (get_or b 0 0) → right ≡ gain_of (get_or b 1 0) →
      y ≡ repeated pcm b → z ≡ amplified_of left right (take (length y - (4 + pcm)) (drop (4 + pcm) y)) →
      answered true (take (4 + pcm) y ++ (z ++ drop (length y - (4 + pcm)) (drop (4 + pcm) y))) ≡ gain_answer b
  unfolding gain_answer
  gain-answer y z left right h p l r e g =
      let count : length y - (4 + pcm) ≡ pcm = omega (arith, ap length e, repeated-length) in
      rw (le-ltb (length b) 4 h, ← p, ← l, ← r) (right-size (4 + 2 * pcm) b _ _ whole (amplified y z left right _ e count g))
