-- The program's output (document 01, Format word): for each word that the device takes, rising, a line with the word as four hexadecimal digits, a space, and
-- its rate in decimal. In ASCII.
use Rattle.std.specs.Prelude.{ℕ, zero, suc, ◌+◌, ◌/◌, ◌%◌, cond, List, [], ◌∷◌, ◌++◌, ltb, Option, None, Some}
use Rattle.format.specs.Format.{format_of}

-- the digit that stands for a number below 16, in lower case
unfoldable pub digit_of : ℕ → ℕ
digit_of n = cond (ltb n 10) (48 + n) (87 + n)

-- the last four hexadecimal digits of `word`, and the last five decimal ones of `rate`: all there are of a 16-bit word and of a rate below 100,000
unfoldable pub line_of : ℕ → ℕ → List ℕ
line_of word rate =
    digit_of (word / 4096 % 16)
    ∷ digit_of (word / 256 % 16)
    ∷ digit_of (word / 16 % 16)
    ∷ digit_of (word % 16)
    ∷ 32
    ∷ digit_of (rate / 10000 % 10)
    ∷ digit_of (rate / 1000 % 10)
    ∷ digit_of (rate / 100 % 10)
    ∷ digit_of (rate / 10 % 10)
    ∷ digit_of (rate % 10)
    ∷ 10
    ∷ []

-- a word's line, where the device takes the word
abbrev pub shown_as : ℕ → Option ℕ → List ℕ
shown_as word None = []
shown_as word (Some rate) = line_of word rate

unfoldable pub shown_of : ℕ → List ℕ
shown_of word = shown_as word (format_of word)

-- the lines of the words below a number, rising
unfoldable pub shown_below : ℕ → List ℕ
shown_below zero = []
shown_below (suc word) = shown_below word ++ shown_of word
