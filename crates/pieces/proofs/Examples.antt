-- Small runs, computed. Assumes nothing.
use Prim.Native.Nat.{ℕ}
use mathlib.Core.Path.{◌≡◌, refl}
use mathlib.Core.Bool.{true, false}
use mathlib.Core.List.{List, [], ◌∷◌, ◌++◌}
use Rattle.word.specs.Place.{put_at, word_at, store_at}
use Rattle.word.specs.Shift.{shift_of}
use Rattle.memory.specs.Memory.{entry_at, descriptor_of}
use Rattle.positions.specs.Positions.{positions_of, up_to_of, push_of, retire_of}
use Rattle.stream.specs.Streams.{stream}
use Rattle.plan.specs.Plans.{end_of, placed_of, entry_of, plan_of}
use Rattle.pieces.specs.Pieces.{state_of, out_of, done_of, piece_of, pieces_of}
use Rattle.stream.specs.Update.{update_out, update_of}

-- the definitions that a run computes through
everything : Unit {0}
unfolding put_at word_at store_at shift_of entry_at descriptor_of positions_of up_to_of push_of retire_of end_of placed_of entry_of plan_of done_of piece_of pieces_of update_of
everything = tt

abbrev zeros : List ℕ
zeros = 0 ∷ 0 ∷ 0 ∷ 0 ∷ 0 ∷ 0 ∷ 0 ∷ 0 ∷ []

-- a descriptor of a 4-byte buffer, by the low bytes of its address and of its flags
abbrev descriptor : ℕ → ℕ → List ℕ
descriptor address flags = address ∷ 0 ∷ 0 ∷ 0 ∷ 0 ∷ 0 ∷ 0 ∷ 0 ∷ 4 ∷ 0 ∷ 0 ∷ 0 ∷ flags ∷ 0 ∷ 0 ∷ 0 ∷ []

-- two descriptors, at 0 and 16, and eight bytes behind them at 32
abbrev memory : List ℕ
memory = descriptor 36 0 ++ (descriptor 32 1 ++ (1 ∷ 2 ∷ 3 ∷ 4 ∷ 5 ∷ 6 ∷ 7 ∷ 8 ∷ []))

-- a playback of eight bytes: two pieces, the second half of memory first; the end of the second is flagged, at position 8, and the
-- stream is at the first descriptor again
pub two-pieces : pieces_of 8 (record { capture = false; bdl = 0; lvi = 1; cbl = 8 }) 8 (state_of (stream 0 0 0 0 0 0) zeros memory zeros 0)
    ≡ out_of true false (state_of (stream 0 0 8 0 0 1) (8 ∷ 0 ∷ 0 ∷ 0 ∷ 0 ∷ 0 ∷ 0 ∷ 0 ∷ []) memory (5 ∷ 6 ∷ 7 ∷ 8 ∷ 1 ∷ 2 ∷ 3 ∷ 4 ∷ []) 8)
unfolding everything
two-pieces = refl

-- a capture whose first buffer is the second descriptor's length: the zeros written there stop the second piece, and the first stays
-- moved and counted
pub own-list : pieces_of 8 (record { capture = true; bdl = 0; lvi = 1; cbl = 8 }) 8 (state_of (stream 0 0 0 0 0 0) zeros (descriptor 24 0 ++ descriptor 32 1) zeros 0)
    ≡ out_of false false (state_of (stream 1 0 4 0 0 0) zeros (descriptor 24 0 ++ (32 ∷ 0 ∷ 0 ∷ 0 ∷ 0 ∷ 0 ∷ 0 ∷ 0 ∷ 0 ∷ 0 ∷ 0 ∷ 0 ∷ 1 ∷ 0 ∷ 0 ∷ 0 ∷ [])) zeros 4)
unfolding everything
own-list = refl

-- of the positions 4 and 8, the first retires while four bytes are unheard
pub half-heard : update_of (stream 0 0 8 0 0 2) (4 ∷ 0 ∷ 0 ∷ 0 ∷ 0 ∷ 0 ∷ 0 ∷ 0 ∷ 8 ∷ 0 ∷ 0 ∷ 0 ∷ 0 ∷ 0 ∷ 0 ∷ 0 ∷ []) 4
    ≡ update_out (stream 0 0 8 4 0 1) true (8 ∷ 0 ∷ 0 ∷ 0 ∷ 0 ∷ 0 ∷ 0 ∷ 0 ∷ 8 ∷ 0 ∷ 0 ∷ 0 ∷ 0 ∷ 0 ∷ 0 ∷ 0 ∷ [])
unfolding everything
half-heard = refl
