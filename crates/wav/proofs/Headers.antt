-- The header as the code makes it, and what is known of it. Assumes nothing.
use Prim.Native.Nat.{ℕ, ◌+◌, ◌*◌}
use mathlib.Core.Path.{◌≡◌, refl}
use mathlib.Core.List.{List, [], ◌∷◌}
use lib.ListN.{length}
use Rattle.word.specs.Place.{store_at}
use Rattle.wav.specs.Header.{header_size, header_of}

-- the header without rate and sizes
abbrev pub blank : List ℕ
blank =
    0x52 ∷ 0x49 ∷ 0x46 ∷ 0x46 ∷ 0 ∷ 0 ∷ 0 ∷ 0 ∷ 0x57 ∷ 0x41 ∷ 0x56 ∷ 0x45
    ∷ 0x66 ∷ 0x6d ∷ 0x74 ∷ 0x20 ∷ 16 ∷ 0 ∷ 0 ∷ 0 ∷ 1 ∷ 0 ∷ 2 ∷ 0 ∷ 0 ∷ 0 ∷ 0 ∷ 0 ∷ 0 ∷ 0 ∷ 0 ∷ 0 ∷ 4 ∷ 0 ∷ 16 ∷ 0
    ∷ 0x64 ∷ 0x61 ∷ 0x74 ∷ 0x61 ∷ 0 ∷ 0 ∷ 0 ∷ 0 ∷ []

pub header-stored : (rate size : ℕ) → store_at 4 40 size (store_at 4 28 (rate * 4) (store_at 4 24 rate (store_at 4 4 (36 + size) blank))) ≡ header_of rate size
unfolding header_of store_at
header-stored rate size = refl

pub length-header : (rate size : ℕ) → length (header_of rate size) ≡ header_size
unfolding header_of store_at
length-header rate size = refl
