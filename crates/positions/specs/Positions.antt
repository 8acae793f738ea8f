-- A stream's completion list: little-endian 64-bit positions in lent bytes, eight bytes each from the start. The Rust's
-- `completions: VecDeque<u64>`; the pending positions of document 01, The book of demand 3.
use Rattle.std.specs.Prelude.{ℕ, zero, suc, ◌+◌, ◌-◌, ◌*◌, List, [], ◌∷◌, Bool, true, cond, ◌&&◌, take, drop, ltb, leb}
use Rattle.word.specs.Value.{value_of}
use Rattle.word.specs.Place.{store_at}
use Rattle.word.specs.Shift.{shift_of}

-- the first `n` positions
unfoldable pub positions_of : ℕ → List ℕ → List ℕ
positions_of zero l = []
positions_of (suc n) l = value_of (take 8 l) ∷ positions_of n (drop 8 l)

-- each above the one before it, the first above `lo`, none above `hi`: the order of document 01, Numbers returned, 7, with
-- consumed as `lo` and submitted as `hi`
unfoldable pub rises_of : ℕ → List ℕ → ℕ → Bool
rises_of lo [] hi = true
rises_of lo (x ∷ xs) hi = ltb lo x && (leb x hi && rises_of x xs hi)

-- neighbours 4 apart or more, and the last, with `offset` behind it, not above `hi`: what number 20 asks for (request T-09), with the stream's descriptor offset,
-- and submitted as `hi`. With no positions there is nothing to ask; `p` stands before the others.
unfoldable pub spaced_from : ℕ → ℕ → ℕ → List ℕ → Bool
spaced_from p offset hi [] = leb (p + offset) hi
spaced_from p offset hi (x ∷ xs) = leb (p + 4) x && spaced_from x offset hi xs

abbrev pub spaced_of : ℕ → ℕ → List ℕ → Bool
spaced_of offset hi [] = true
spaced_of offset hi (x ∷ xs) = spaced_from x offset hi xs

-- the last position, or `lo` where there is none
abbrev pub last_of : ℕ → List ℕ → ℕ
last_of lo [] = lo
last_of lo (x ∷ xs) = last_of x xs

-- how many from the front are at most `c`: those that retire when consumed is `c` (document 01, Stream transfer)
unfoldable pub up_to_of : ℕ → List ℕ → ℕ
up_to_of c [] = 0
up_to_of c (x ∷ xs) = cond (leb x c) (1 + up_to_of c xs) 0

-- the lent bytes with `v` behind the first `n` positions (the Rust's `push_back`)
unfoldable pub push_of : ℕ → ℕ → List ℕ → List ℕ
push_of n v l = store_at 8 (8 * n) v l

-- the lent bytes without the first `k` of `n` positions: the bytes of the others go to the front, and what stands from byte
-- 8 * (n - k) on stays (the Rust's `pop_front`, `k` times)
unfoldable pub retire_of : ℕ → ℕ → List ℕ → List ℕ
retire_of k n l = shift_of (8 * k) (8 * (n - k)) l
