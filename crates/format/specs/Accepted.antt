-- Document 01's table of the accepted words with the two of T-01, each with its rate: the whole output of the program `formats`.
use Rattle.std.specs.Prelude.{ℕ, ◌<◌, ◌≡◌, cond, List, [], ◌∷◌, eqb, Option, None, Some}
use Rattle.format.specs.Format.{format_of}

abbrev pub accepted_words : List (ℕ × ℕ)
accepted_words =
    (0x0011, 48_000)
    ∷ (0x0811, 96_000)
    ∷ (0x0911, 48_000)
    ∷ (0x1211, 48_000)
    ∷ (0x1911, 96_000)
    ∷ (0x1b11, 48_000)
    ∷ (0x4011, 44_100)
    ∷ (0x4811, 88_200)
    ∷ (0x4911, 44_100)
    ∷ (0x5211, 44_100)
    ∷ (0x5911, 88_200)
    ∷ (0x5b11, 44_100)
    ∷ []

-- the rate beside a word in such a table; a word that is not there is unsupported
abbrev pub listed : ℕ → List (ℕ × ℕ) → Option ℕ
listed w [] = None
listed w (e ∷ es) = cond (eqb w e.0) (Some e.1) (listed w es)

-- a rate that some word of 16 bits has for this device
abbrev pub Accepted : ℕ → Type 0
Accepted r = (w : ℕ) × (w < 65536) × (format_of w ≡ Some r)
