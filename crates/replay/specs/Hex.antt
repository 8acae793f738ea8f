-- Bytes as hexadecimal digits, two to a byte, the high one first: the text of the recorded answers.
use Rattle.std.specs.Prelude.{ℕ, ◌+◌, ◌-◌, ◌*◌, ◌/◌, ◌%◌, cond, ◌&&◌, List, [], ◌∷◌, nat_le, nat_lt}

-- what a character stands for: `0` to `9`, `a` to `f`; any other counts as 0
abbrev pub value_of : ℕ → ℕ
value_of c = cond (nat_le 48 c && nat_le c 57) (c - 48) (cond (nat_le 97 c && nat_le c 102) (c - 97 + 10) 0)

abbrev pub pair_of : ℕ → ℕ → ℕ
pair_of high low = 16 * value_of high + value_of low

-- the bytes that a text gives; an odd last character gives none
unfoldable pub from_hex : List ℕ → List ℕ
from_hex [] = []
from_hex (h ∷ []) = []
from_hex (h ∷ l ∷ rest) = pair_of h l ∷ from_hex rest

-- the digit that stands for a number below 16, in lower case
abbrev pub hex_digit_ascii : ℕ → ℕ
hex_digit_ascii d = cond (nat_lt d 10) (48 + d) (87 + d)

-- the text of bytes
unfoldable pub to_hex : List ℕ → List ℕ
to_hex [] = []
to_hex (b ∷ bs) = hex_digit_ascii (b / 16) ∷ hex_digit_ascii (b % 16) ∷ to_hex bs
