-- How long a state is: its parts, the whole, and what that comes to for two streams. Assumes nothing.
use Prim.Native.Nat.{ℕ, zero, suc, ◌+◌, ◌*◌, ◌≤◌, ◌<◌}
use mathlib.Core.Path.{◌≡◌, refl, ap, ◌∙◌}
use mathlib.Core.Bool.{Bool}
use mathlib.Core.List.{List, ◌++◌}
use native.Mathlib.Omega.{arith}
use lib.ListN.{length, length-append}
use lib.Seq.{length-take-le}
use Rattle.word.specs.Parts.{part_of}
use Rattle.word.proofs.Lists.{length_part}
use Rattle.stream.specs.declared.Stream.{Stream}
use Rattle.stream.specs.Streams as stream
use Rattle.stream.specs.Box.{streams}
use Rattle.stream.specs.Streams.{list_size}
use Rattle.device.specs.declared.Hda.{Hda}
use Rattle.device.specs.Devices.{stream_at, fresh_of}
use Rattle.record.specs.Devices.{head_of, numbers_of}
use Rattle.record.specs.Typed.{Sized}
use Rattle.record.proofs.Sizes.{length-head, length-numbers}
use Rattle.snapshot.specs.States.{stream_of, streams_of, state_of, sizes_of, size_of, Few, Kept}

pub length-stream : (s : Stream) (list : List ℕ) → 8 * s.pending ≤ length list → length (stream_of s list) ≡ 34 + 8 * s.pending
unfolding stream_of
length-stream s list h = length-append (numbers_of s) _ ∙ omega (arith, length-numbers s, length-take-le (8 * s.pending) list h)

-- stream `i`, then those after it
pub streams-cons : (n i : ℕ) (d : Hda) (lists : List ℕ)
    → streams_of (suc n) i d lists ≡ stream_of (stream_at d i) (part_of list_size i lists) ++ streams_of n (i + 1) d lists
unfolding streams_of
streams-cons n i d lists = refl

-- a device whose lists are within their places
module _ (d : Hda) (few : Few d) where
  sizes-bound : (n i : ℕ) → i + n ≤ streams → sizes_of n i d ≤ (34 + list_size) * n
  unfolding sizes_of
  sizes-bound zero i h = omega arith
  sizes-bound (suc n) i h = omega (arith, few i (omega arith), sizes-bound n (i + 1) (omega arith))

  pub size-bound : size_of d ≤ 680 + (34 + list_size) * streams
  unfolding size_of
  size-bound = omega (arith, sizes-bound streams 0 (omega arith))

-- with list space for every stream
module _ (d : Hda) (lists : List ℕ) (k : Kept d lists) where
  part-size : (i : ℕ) → i < streams → length (part_of list_size i lists) ≡ list_size
  part-size i h = length_part list_size (list_size * i) lists (omega (arith, k.long))

  pub part_room : (i : ℕ) → i < streams → 8 * (stream_at d i).pending ≤ length (part_of list_size i lists)
  part_room i h = omega (arith, k.few i h, part-size i h)

  length-streams : (n i : ℕ) → i + n ≤ streams → length (streams_of n i d lists) ≡ sizes_of n i d
  unfolding streams_of sizes_of
  length-streams zero i h = refl
  length-streams (suc n) i h =
      ap length (streams-cons n i d lists)
      ∙ omega (
        arith,
        length-append (stream_of (stream_at d i) (part_of list_size i lists)) (streams_of n (i + 1) d lists),
        length-stream (stream_at d i) (part_of list_size i lists) (part_room i (omega arith)),
        length-streams n (i + 1) (omega arith),
      )

  -- a save writes as many bytes as it says
  pub length-state : Sized d → length (state_of d lists) ≡ size_of d
  unfolding state_of size_of
  length-state z = length-append (head_of d) (streams_of streams 0 d lists) ∙ omega (arith, length-head d z, length-streams streams 0 (omega arith))

-- document 01's count: 748 + 8 × pending
pub size-of-two : (d : Hda) → size_of d ≡ 748 + 8 * ((stream_at d 0).pending + (stream_at d 1).pending)
unfolding size_of sizes_of
size-of-two d = omega arith

-- and of a new device
pub size-of-fresh : (microphone : Bool) → size_of (fresh_of microphone) ≡ 748
unfolding size_of sizes_of fresh_of stream.fresh_of
size-of-fresh microphone = refl
