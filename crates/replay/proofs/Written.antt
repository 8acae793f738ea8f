-- Laws of the known bytes of a writer: what is written twice, and what is not written at all; and of what is printed of the lines. Assumes nothing.
use Rattle.std.proofs.Common.{◌≡◌, ℕ, ◌+◌, ◌-◌, ◌%◌, ◌^◌, ◌<◌, ◌≤◌, Bool, true, false, cond, eqb, leb, List, [], ◌∷◌, ◌++◌, length, get_or, take, drop, None, Some, Ok, Err, OnOk, sym, refl, ap, ◌∙◌, append_assoc, append-nil, arith, length-append, length-drop, take_all, take_at, le-leb, leb-true, lt-ltb, le-ltb}
use mathlib.Core.Bool.{and-eq-true_iff}
use Rattle.std.specs.declared.option.Option.{Option}
use Rattle.std.specs.declared.result.Result.{Result}
use Rattle.std.specs.Io.KnownBytes.{Appends}
use Rattle.replay.specs.declared.verdict.Verdict.{Verdict}
use Rattle.replay.specs.declared.verdict.Verdict.TheVariants.{Same, Differs, Unreadable}
use Rattle.replay.specs.declared.verdict.Tally.{Tally}
use Rattle.replay.specs.Verdict.{readable, own_of, line_verdict_of, own_in}
use Rattle.replay.specs.Printed.{line_text, own_text, report_of, line_reported}

pub appends-none : (a : Option (List ℕ)) → Appends a a []
appends-none None = tt
appends-none (Some xs) = sym (append-nil xs)

pub appends-more : (a b c : Option (List ℕ)) (x y : List ℕ) → Appends a b x → Appends b c y → Appends a c (x ++ y)
appends-more None b c x y h k = tt
appends-more (Some xs) None c x y h k = absurd h
appends-more (Some xs) (Some ys) None x y h k = absurd k
appends-more (Some xs) (Some ys) (Some zs) x y h k = rw (k, h) (append_assoc xs x y)

-- where the second write may fail
pub appends-then : {X E : Type 0} (r : Result X E) (a b c : Option (List ℕ)) (x y : List ℕ) → Appends a b x → OnOk r (Appends b c y) → OnOk r (Appends a c (x ++ y))
appends-then (Ok v) a b c x y h k = appends-more a b c x y h k
appends-then (Err e) a b c x y h k = tt

own-enough : (line own : List ℕ) → length line - 1 ≤ length own →
    own_text line own ≡ cond (eqb (length line) 0) [] (take 1 line ++ (take (length line - 1) own ++ (10 ∷ [])))
unfolding own_text
own-enough line own h = rw (le-leb (length line - 1) (length own) h)

-- of the room in which a line's own digits stand, its first bytes alone are printed
module _ (line room : List ℕ) (wide : 4096 ≤ length room) where
  abbrev digits : List ℕ
  digits = own_of (get_or line 0 0) (drop 1 line)

  unread : readable line ≡ false → line_verdict_of line ≡ Unreadable
  unfolding line_verdict_of
  unread e = rw e

  laid : readable line ≡ true → own_in line room ≡ digits ++ drop (length line - 1) room
  unfolding own_in
  laid e = rw e

  own-text : (t : Bool) → readable line ≡ t → length (own_in line room) ≡ length room → line_verdict_of line ≡ Differs → own_text line (own_in line room) ≡ own_text line digits
  own-text true e h d =
      let k : ℕ = length line - 1 in
      let short : length line ≤ 4096 = leb-true (length line) 4096 ((and-eq-true_iff (eqb (length line % 2) 1) (leb (length line) 4096)).0 e).1 in
      let size : length digits ≡ k = omega (arith, sym (ap length (laid e)) ∙ h, length-append digits (drop k room), length-drop k room) in
      let front : take k (own_in line room) ≡ take k digits =
      ap (take k) (laid e) ∙ take_at digits (drop k room) k size ∙ sym (take_all k digits (omega arith)) in
      own-enough line (own_in line room) (omega arith)
      ∙ ap (λ (l : List ℕ). cond (eqb (length line) 0) [] (take 1 line ++ (l ++ (10 ∷ [])))) front
      ∙ sym (own-enough line digits (omega arith))
  own-text false e h d =
      let bad : Unreadable ≡ Differs = sym (unread e) ∙ d in
      cc

  pub report-own : (n : ℕ) (v : Verdict) → v ≡ line_verdict_of line → length (own_in line room) ≡ length room → report_of v n line (own_in line room) ≡ report_of v n line digits
  unfolding report_of
  report-own n Same e h = refl
  report-own n Differs e h = ap (λ (text : List ℕ). line_text n line ++ text) (own-text (readable line) refl h (sym e))
  report-own n Unreadable e h = refl

  pub reported-more : (t : Tally) → t.differ < 10 → (n : ℕ) → n ≡ (t.lines + 1) % 2 ^ 64 → (v : Verdict) → v ≡ line_verdict_of line →
      (own : List ℕ) → own ≡ own_in line room → length own ≡ length room → report_of v n line own ≡ line_reported t line
  reported-more t h n en v ev own eo k =
      ap (report_of v n line) eo ∙ report-own n v ev (sym (ap length eo) ∙ k) ∙ rw (lt-ltb t.differ 10 h, en, ev)

pub reported-none : (t : Tally) (line : List ℕ) → 10 ≤ t.differ → line_reported t line ≡ []
reported-none t line h = rw (le-ltb t.differ 10 h)
