-- Bytes moved down to the front of a list.
use Rattle.std.specs.Prelude.{ℕ, List, ◌++◌, take, drop}

-- the `count` bytes from `from` on go to the front, and what stands from byte `count` on stays
unfoldable pub shift_of : ℕ → ℕ → List ℕ → List ℕ
shift_of from count l = take count (drop from l) ++ drop count l
