-- A codec as bytes: its six records of twenty-four bytes (document 01, "Codec"), one after the other, which are the 144 of the Rust's `Codec::bytes`.
-- A saved state and the C functions have it so.
use Rattle.std.specs.Prelude.{ℕ, ◌+◌, List, [], ◌∷◌, ◌++◌, take, drop}
use Rattle.word.specs.Place.{put_at}
use Rattle.node.specs.declared.Node.{Node}
use Rattle.codec.specs.declared.Codec.{Codec}

-- the record in the 24 bytes at `at`
abbrev pub record_at : ℕ → List ℕ → Node
record_at at l = record { bytes = take 24 (drop at l) }

-- the codec in the 144 bytes at `at`: node `i`'s record is at `at + 24 * i`
unfoldable pub codec_at : ℕ → List ℕ → Codec
codec_at at l =
    record {
      nodes =
          record_at at l
          ∷ record_at (at + 24) l
          ∷ record_at (at + 48) l
          ∷ record_at (at + 72) l
          ∷ record_at (at + 96) l
          ∷ record_at (at + 120) l
          ∷ [];
    }

-- the records' bytes, one record after the other
abbrev pub joined : List Node → List ℕ
joined [] = []
joined (n ∷ ns) = n.bytes ++ joined ns

abbrev pub records_of : Codec → List ℕ
records_of c = joined c.nodes

-- the list with a codec at `at`: what stands before `at` and past the codec stays
unfoldable pub store_codec_at : ℕ → Codec → List ℕ → List ℕ
store_codec_at at c l = put_at at (records_of c) l
