-- What the program prints, in ASCII: the first lines that differ, each with the proved code's own answer, and the counts at the end.
use Rattle.std.specs.Prelude.{ℕ, ◌+◌, ◌-◌, ◌%◌, ◌^◌, cond, List, [], ◌∷◌, ◌++◌, length, take, drop, nat_lt, nat_le, ◌==◌, slice_index, codes, decimal}
use Rattle.replay.specs.declared.verdict.Verdict.{Verdict}
use Rattle.replay.specs.declared.verdict.Verdict.TheVariants.{Same, Differs, Unreadable}
use Rattle.replay.specs.declared.verdict.Tally.{Tally}
use Rattle.replay.specs.Verdict.{own_of, line_verdict_of, line_counted}
use Rattle.replay.specs.Lines.{lines_of, begun, tally_of}

-- a line's number, and the line
unfoldable pub line_text : ℕ → List ℕ → List ℕ
line_text number line = codes "line " ++ (decimal number ++ (10 ∷ (line ++ (10 ∷ []))))

-- a line's letter with the first bytes of `own` behind it, as many as the line has digits; nothing of an empty line, and nothing where `own` has too few
unfoldable pub own_text : List ℕ → List ℕ → List ℕ
own_text line own =
    cond (length line == 0) [] (cond (nat_le (length line - 1) (length own)) (take 1 line ++ (take (length line - 1) own ++ (10 ∷ []))) [])

-- what is printed of a line with its verdict
unfoldable pub report_of : Verdict → ℕ → List ℕ → List ℕ → List ℕ
report_of Same number line own = []
report_of Differs number line own = line_text number line ++ own_text line own
report_of Unreadable number line own = line_text number line ++ codes "cannot be read\n"

-- the counts
unfoldable pub summary_of : Tally → List ℕ
summary_of t = decimal t.lines ++ (codes " answers, " ++ (decimal t.amended ++ (codes " of them by the amended Rust, " ++ (decimal t.differ ++ codes " differ\n"))))

-- what is printed of one line more: of the first ten that differ, a line's number and what differs
abbrev pub line_reported : Tally → List ℕ → List ℕ
line_reported t line =
    cond (nat_lt t.differ 10) (report_of (line_verdict_of line) ((t.lines + 1) % 2 ^ 64) line (own_of (slice_index line 0) (drop 1 line))) []

unfoldable pub all_reported : Tally → List (List ℕ) → List ℕ
all_reported t [] = []
all_reported t (line ∷ lines) = line_reported t line ++ all_reported (line_counted t line) lines

-- what is printed of a file's lines, in their order
abbrev pub reported_of : List ℕ → List ℕ
reported_of bytes = all_reported begun (lines_of bytes)

-- all that is printed of a file's bytes; a file that is too long is not read to its end
unfoldable pub output_of : List ℕ → List ℕ
output_of bytes =
    cond (nat_lt (length bytes) 1048576) (reported_of bytes ++ summary_of (tally_of bytes)) (codes "answers is too long: there is room for 1048575 bytes\n")
