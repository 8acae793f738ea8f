-- The formats that this device takes (document 01, Format word; the Rust's `Hda::format`): of those that HDA describes, 16-bit stereo at a rate of its list.
use Rattle.std.specs.Prelude.{ℕ, ◌/◌, ◌%◌, Bool, false, cond, ◌&&◌, ◌||◌, List, [], ◌∷◌, eqb, Option, None, Some}
use Rattle.format.specs.Hda.{Pcm, pcm_of}

-- the rates of the box, in frames a second: the one list of them
abbrev pub rates : List ℕ
rates = 44_100 ∷ 48_000 ∷ 88_200 ∷ 96_000 ∷ []

-- whether a number is on a list
abbrev pub among : ℕ → List ℕ → Bool
among x [] = false
among x (y ∷ ys) = eqb x y || among x ys

-- 16 bits, stereo
abbrev pub stereo16 : Pcm → Bool
stereo16 p = eqb p.bits 16 && eqb p.channels 2

-- a rate that is a whole number and on the list
abbrev pub rated_of : ℕ → ℕ → Option ℕ
rated_of numerator divisor =
    cond (eqb (numerator % divisor) 0 && among (numerator / divisor) rates) (Some (numerator / divisor)) None

-- what this device makes of a format that HDA describes
abbrev pub restricted : Option Pcm → Option ℕ
restricted None = None
restricted (Some p) = cond (stereo16 p) (rated_of p.numerator p.divisor) None

-- what a format word is to this device
unfoldable pub format_of : ℕ → Option ℕ
format_of w = restricted (pcm_of w)

-- document 01's number for each case: 5 where the format is unsupported
abbrev pub number_of : Option ℕ → ℕ
number_of None = 5
number_of (Some r) = 0

-- and its value: frames a second; an unsupported format has none, which reads 0
abbrev pub rate_of : Option ℕ → ℕ
rate_of None = 0
rate_of (Some r) = r
