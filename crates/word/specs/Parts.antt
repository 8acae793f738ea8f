-- A space lent in equal parts, one for each stream in the streams' order.
use Rattle.std.specs.Prelude.{ℕ, ◌*◌, List, ◌++◌, take, drop}

-- part `i`, where each has `size` bytes
abbrev pub part_of : ℕ → ℕ → List ℕ → List ℕ
part_of size i space = take size (drop (size * i) space)

-- the space with another part in its place
abbrev pub with_part : ℕ → ℕ → List ℕ → List ℕ → List ℕ
with_part size i space part = take (size * i) space ++ (part ++ drop size (drop (size * i) space))
