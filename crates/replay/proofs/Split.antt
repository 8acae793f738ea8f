-- Laws of a file's lines: the first line, up to its end, and those behind it; and a loop that goes from line to line. Assumes nothing.
use Rattle.std.proofs.Common.{◌≡◌, ℕ, suc, ◌+◌, ◌-◌, ◌<◌, ◌≤◌, Bool, true, false, eqb, List, [], ◌∷◌, ◌++◌, length, get_or, take, drop, refl, ap, ◌∙◌, arith, length-drop, drop_of_length-le, take_all, drop-cons, drop-drop}
use Rattle.std.specs.List.{position_or_len}
use Rattle.replay.specs.declared.verdict.Tally.{Tally}
use Rattle.replay.specs.Verdict.{line_counted}
use Rattle.replay.specs.Lines.{longer, lines_of, count_all}
use Rattle.replay.specs.Printed.{line_reported, all_reported}

-- how many bytes stand before the first line end, or all
line_size : List ℕ → ℕ
line_size l = position_or_len (λ b. eqb b 10) l

-- the first line of bytes that are not empty ends at the first line end, or with the bytes
Parted : List ℕ → Type 0
Parted l = lines_of l ≡ take (line_size l) l ∷ lines_of (drop (suc (line_size l)) l)

size-end : (b : ℕ) (l : List ℕ) → eqb b 10 ≡ true → line_size (b ∷ l) ≡ 0
unfolding line_size
size-end b l e = rw e

size-more : (b : ℕ) (l : List ℕ) → eqb b 10 ≡ false → line_size (b ∷ l) ≡ suc (line_size l)
unfolding line_size
size-more b l e = rw e (omega arith)

parted-by : (t : Bool) (b : ℕ) (l : List ℕ) → eqb b 10 ≡ t →
    longer b (lines_of l) ≡ (b ∷ take (line_size l) l) ∷ lines_of (drop (suc (line_size l)) l) → Parted (b ∷ l)
unfolding Parted lines_of
parted-by true b l e h = rw (size-end b l e, e)
parted-by false b l e h = rw (size-more b l e, e) h

parted : (l : List ℕ) (b : ℕ) → Parted (b ∷ l)
unfolding Parted lines_of line_size
parted [] b = parted-by (eqb b 10) b [] refl refl
parted (x ∷ l) b = parted-by (eqb b 10) b (x ∷ l) refl (ap (longer b) (parted l x))

-- a loop that goes from line to line: one line more, and the end
module _ (all : List ℕ) (start : ℕ) where
  line-next : start < length all → (stop : ℕ) → stop ≡ start + position_or_len (λ b. eqb b 10) (take (length all - start) (drop start all)) →
      lines_of (drop start all) ≡ take (stop - start) (drop start all) ∷ lines_of (drop (stop + 1) all)
  unfolding Parted line_size
  line-next h stop e =
      let n : ℕ = line_size (drop start all) in
      let rest : take (length all - start) (drop start all) ≡ drop start all = take_all (length all - start) (drop start all) (omega (arith, length-drop start all)) in
      let found : stop ≡ start + n = e ∙ ap (λ (l : List ℕ). start + line_size l) rest in
      let here : stop - start ≡ n = omega arith in
      let next : stop + 1 ≡ start + suc n = omega arith in
      let first : Parted (drop start all) = rw (drop-cons all start 0 h) (parted (drop (suc start) all) (get_or all start 0)) in
      rw (here, next, ← drop-drop (suc n) start all, first)

  module _ (t : Tally) where
    module _ (h : start < length all) (stop : ℕ) (e : stop ≡ start + position_or_len (λ b. eqb b 10) (take (length all - start) (drop start all)))
        (t' : Tally) (f : t' ≡ line_counted t (take (stop - start) (drop start all))) where
      pub count-line : count_all t (lines_of (drop start all)) ≡ count_all t' (lines_of (drop (stop + 1) all))
      unfolding count_all
      count-line = rw (f, line-next h stop e)

      pub report-line : all_reported t (lines_of (drop start all))
          ≡ line_reported t (take (stop - start) (drop start all)) ++ all_reported t' (lines_of (drop (stop + 1) all))
      unfolding all_reported
      report-line = rw (f, line-next h stop e)

    pub count-end : length all ≤ start → count_all t (lines_of (drop start all)) ≡ t
    unfolding lines_of count_all
    count-end h = rw (drop_of_length-le all h)

    pub report-end : length all ≤ start → all_reported t (lines_of (drop start all)) ≡ []
    unfolding lines_of all_reported
    report-end h = rw (drop_of_length-le all h)
