-- Bytes and little-endian words at a place of a list of bytes.
use Rattle.std.specs.Prelude.{ℕ, ◌+◌, List, ◌++◌, length, take, drop}
use Rattle.word.specs.Value.{value_of, bytes_of}

-- the list with `bs` in the place of as many bytes at `at`: those before `at` and those past them stay
unfoldable pub put_at : ℕ → List ℕ → List ℕ → List ℕ
put_at at bs l = take at l ++ (bs ++ drop (at + length bs) l)

-- the word of `n` bytes at `at`: the Rust's `from_le_bytes` of `l[at..at + n]`
unfoldable pub word_at : ℕ → ℕ → List ℕ → ℕ
word_at n at l = value_of (take n (drop at l))

-- the list with the lowest `n` bytes of `v` at `at`, the Rust's `to_le_bytes` into `l[at..at + n]`: those before `at` and those from `at + n` on stay
unfoldable pub store_at : ℕ → ℕ → ℕ → List ℕ → List ℕ
store_at n at v l = take at l ++ (bytes_of n v ++ drop (at + n) l)
