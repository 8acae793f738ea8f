-- The loops over streams: a turn, and the end. Assumes nothing.
use Prim.Native.Nat.{ℕ, suc, ◌+◌, ◌-◌, ◌*◌, ◌≤◌, ◌<◌}
use mathlib.Core.Path.{◌≡◌, refl, sym, ap, ◌∙◌}
use mathlib.Core.List.{List, ◌++◌}
use native.Mathlib.Omega.{arith}
use lib.ListN.{length, take, drop}
use Rattle.word.specs.Place.{put_at}
use Rattle.word.specs.Parts.{part_of}
use Rattle.stream.specs.Box.{streams}
use Rattle.stream.specs.Streams.{list_size}
use Rattle.device.specs.declared.Hda.{Hda}
use Rattle.device.specs.Devices.{stream_at}
use Rattle.record.proofs.Puts.{put_then, put-none}
use Rattle.snapshot.specs.States.{stream_of, streams_of, sizes_of, Kept}
use Rattle.snapshot.proofs.Sizes.{length-stream, streams-cons, part_room}

-- of `n` streams, stream `i` and those after it
module _ (d : Hda) (n i : ℕ) where
  pub sizes-next : i < n → sizes_of (n - i) i d ≡ 34 + 8 * (stream_at d i).pending + sizes_of (n - (i + 1)) (i + 1) d
  unfolding sizes_of
  sizes-next h = let more : n - i ≡ suc (n - (i + 1)) = omega arith in rw more

  pub sizes-end : n ≤ i → sizes_of (n - i) i d ≡ 0
  unfolding sizes_of
  sizes-end h = let none : n - i ≡ 0 = omega arith in rw none

  module _ (lists : List ℕ) where
    streams-next : i < n → streams_of (n - i) i d lists ≡ stream_of (stream_at d i) (part_of list_size i lists) ++ streams_of (n - (i + 1)) (i + 1) d lists
    streams-next h = let more : n - i ≡ suc (n - (i + 1)) = omega arith in rw more (streams-cons (n - (i + 1)) i d lists)

    pub streams-end : (at : ℕ) (l : List ℕ) → n ≤ i → put_at at (streams_of (n - i) i d lists) l ≡ l
    unfolding streams_of
    streams-end at l h = let none : n - i ≡ 0 = omega arith in rw none (put-none at l)

    -- stream `i` put, whose part of the lists the code has as end less start, then those after it
    pub streams-turn : (at next j : ℕ) (l r : List ℕ) → Kept d lists → i < n → n ≤ streams → at + sizes_of (n - i) i d ≤ length l
        → next ≡ at + (34 + 8 * (stream_at d i).pending)
        → j ≡ list_size
        → r ≡ put_at at (stream_of (stream_at d i) (take j (drop (list_size * i) lists))) l
        → put_at next (streams_of (n - (i + 1)) (i + 1) d lists) r ≡ put_at at (streams_of (n - i) i d lists) l
    streams-turn at next j l r k h all fits e size p =
        let own : List ℕ = part_of list_size i lists in
        put_then at next (streams_of (n - (i + 1)) (i + 1) d lists) l (omega (arith, sizes-next h)) (stream_of (stream_at d i) own)
        (omega (arith, length-stream (stream_at d i) own (part_room d lists k i (omega arith))))
        (p ∙ ap (λ (x : ℕ). put_at at (stream_of (stream_at d i) (take x (drop (list_size * i) lists))) l) size) refl
        ∙ ap (λ (x : List ℕ). put_at at x l) (sym (streams-next h))
