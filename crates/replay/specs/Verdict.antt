-- What is made of a line of the recorded answers.
use Rattle.std.specs.Prelude.{ℕ, ◌+◌, ◌-◌, ◌%◌, ◌^◌, Bool, true, false, cond, ◌&&◌, List, [], ◌∷◌, ◌++◌, length, drop, ◌==◌, nat_le, slice_index}
use Rattle.replay.specs.declared.verdict.Verdict.{Verdict}
use Rattle.replay.specs.declared.verdict.Verdict.TheVariants.{Same, Differs, Unreadable}
use Rattle.replay.specs.declared.verdict.Tally.{Tally}
use Rattle.replay.specs.Hex.{from_hex, to_hex}
use Rattle.replay.specs.Answers.{is_amended, answer_of}

-- whether two texts are the same
abbrev pub equal : List ℕ → List ℕ → Bool
equal [] [] = true
equal [] (y ∷ ys) = false
equal (x ∷ xs) [] = false
equal (x ∷ xs) (y ∷ ys) = x == y && equal xs ys

-- a record's digits, with the proved code's answer in the place of the recorded one
unfoldable pub own_of : ℕ → List ℕ → List ℕ
own_of letter text = to_hex (answer_of letter (from_hex text)).bytes

-- the record is right where those are the digits that stand there
unfoldable pub verdict_of : ℕ → List ℕ → Verdict
verdict_of letter text = cond (answer_of letter (from_hex text)).known (cond (equal text (own_of letter text)) Same Differs) Unreadable

-- a line is a letter and then digits in pairs, 4096 bytes at most; an empty one, one with half a pair and a longer one cannot be read
abbrev pub readable : List ℕ → Bool
readable line = length line % 2 == 1 && nat_le (length line) 4096

unfoldable pub line_verdict_of : List ℕ → Verdict
line_verdict_of line = cond (readable line) (verdict_of (slice_index line 0) (drop 1 line)) Unreadable

-- what is left in the room that is lent with a line: at its start the digits as the proved code has them
unfoldable pub own_in : List ℕ → List ℕ → List ℕ
own_in line room = cond (readable line) (own_of (slice_index line 0) (drop 1 line) ++ drop (length line - 1) room) room

-- one line more, with its verdict; each count has 64 bits
abbrev pub counted_of : Tally → Verdict → Tally
counted_of t Same = record { lines = (t.lines + 1) % 2 ^ 64; amended = t.amended; differ = t.differ }
counted_of t Differs = record { lines = (t.lines + 1) % 2 ^ 64; amended = t.amended; differ = (t.differ + 1) % 2 ^ 64 }
counted_of t Unreadable = record { lines = (t.lines + 1) % 2 ^ 64; amended = t.amended; differ = (t.differ + 1) % 2 ^ 64 }

-- whether a line says that the amended Rust answered: by its first byte alone, also where the line cannot be read; an empty line has none
abbrev pub amended_line : List ℕ → Bool
amended_line [] = false
amended_line (letter ∷ digits) = is_amended letter

-- the line that was counted last is one that the amended Rust answered, or not
abbrev pub attributed_of : Tally → Bool → Tally
attributed_of t amended = record { lines = t.lines; amended = cond amended ((t.amended + 1) % 2 ^ 64) t.amended; differ = t.differ }

-- one line more, with its verdict and with who answered
abbrev pub line_counted : Tally → List ℕ → Tally
line_counted t line = attributed_of (counted_of t (line_verdict_of line)) (amended_line line)
