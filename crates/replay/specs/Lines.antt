-- The lines of a file, how many of them the amended Rust answered, and how many the proved code answers in another way.
use Rattle.std.specs.Prelude.{ℕ, cond, List, [], ◌∷◌, ◌==◌}
use Rattle.replay.specs.declared.verdict.Tally.{Tally}
use Rattle.replay.specs.Verdict.{line_counted}

-- one byte more in front of the first line
abbrev pub longer : ℕ → List (List ℕ) → List (List ℕ)
longer b [] = (b ∷ []) ∷ []
longer b (line ∷ lines) = (b ∷ line) ∷ lines

-- the lines of a text file as POSIX has them (Base Definitions, "Line" and "Incomplete Line"): each ends before a byte 10, and what follows the last of
-- these is a line too, unless it is empty
unfoldable pub lines_of : List ℕ → List (List ℕ)
lines_of [] = []
lines_of (b ∷ bytes) = cond (b == 10) ([] ∷ lines_of bytes) (longer b (lines_of bytes))

-- each line is judged and counted, in their order; one that cannot be read counts as one that differs
unfoldable pub count_all : Tally → List (List ℕ) → Tally
count_all t [] = t
count_all t (line ∷ lines) = count_all (line_counted t line) lines

abbrev pub begun : Tally
begun = record { lines = 0; amended = 0; differ = 0 }

abbrev pub tally_of : List ℕ → Tally
tally_of bytes = count_all begun (lines_of bytes)
