-- std's little-endian bytes of 2, 4 and 8 are the definitions' here. Assumes nothing.
use Rattle.std.proofs.Common.{◌≡◌, ℕ, zero, suc, ◌+◌, ◌*◌, ◌≤◌, List, [], ◌∷◌, length, take, drop, get_or, refl, ap, arith}
use lib.ListN.{drop_of_length-le}
use Rattle.std.specs.Int.{w16, w32, w64, to_le_bytes, from_le_bytes}
use Rattle.word.specs.Value.{value_of, bytes_of}
use Rattle.word.specs.Place.{word_at}
use Rattle.word.proofs.Lists.{length_part}

-- a number is its lowest byte and 256 times the rest
digit : (k : ℕ) (bs : List ℕ) → value_of (drop k bs) ≡ get_or bs k 0 + 256 * value_of (drop (suc k) bs)
digit zero [] = refl
digit zero (b ∷ bs) = refl
digit (suc k) [] = refl
digit (suc k) (b ∷ bs) = digit k bs

end : (k : ℕ) (bs : List ℕ) → length bs ≤ k → value_of (drop k bs) ≡ 0
end k bs h = ap value_of (drop_of_length-le bs h)

value2 : (bs : List ℕ) → length bs ≡ 2 → from_le_bytes w16 bs ≡ value_of bs
value2 bs h = omega (arith, digit 0 bs, digit 1 bs, end 2 bs (omega arith))

value4 : (bs : List ℕ) → length bs ≡ 4 → from_le_bytes w32 bs ≡ value_of bs
value4 bs h = omega (arith, digit 0 bs, digit 1 bs, digit 2 bs, digit 3 bs, end 4 bs (omega arith))

value8 : (bs : List ℕ) → length bs ≡ 8 → from_le_bytes w64 bs ≡ value_of bs
value8 bs h = omega (arith, digit 0 bs, digit 1 bs, digit 2 bs, digit 3 bs, digit 4 bs, digit 5 bs, digit 6 bs, digit 7 bs, end 8 bs (omega arith))

pub bytes2 : (v : ℕ) → to_le_bytes w16 v ≡ bytes_of 2 v
bytes2 v = grind arith

pub bytes4 : (v : ℕ) → to_le_bytes w32 v ≡ bytes_of 4 v
bytes4 v = grind arith

pub bytes8 : (v : ℕ) → to_le_bytes w64 v ≡ bytes_of 8 v
bytes8 v = grind arith

-- a word read from its bytes
module _ (at : ℕ) (s : List ℕ) where
  pub read2 : at + 2 ≤ length s → from_le_bytes w16 (take 2 (drop at s)) ≡ word_at 2 at s
  unfolding word_at
  read2 h = value2 _ (length_part 2 at s h)

  pub read4 : at + 4 ≤ length s → from_le_bytes w32 (take 4 (drop at s)) ≡ word_at 4 at s
  unfolding word_at
  read4 h = value4 _ (length_part 4 at s h)

  pub read8 : at + 8 ≤ length s → from_le_bytes w64 (take 8 (drop at s)) ≡ word_at 8 at s
  unfolding word_at
  read8 h = value8 _ (length_part 8 at s h)
