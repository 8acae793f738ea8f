-- The places of a state's streams, one behind the other. Assumes nothing.
use Prim.Native.Nat.{ℕ, zero, suc, ◌+◌, ◌*◌, ◌≤◌, ◌<◌}
use mathlib.Core.Path.{◌≡◌, ap, ◌∙◌}
use mathlib.Core.List.{List}
use mathlib.Core.Logic.{⊎_elim}
use native.Mathlib.Omega.{arith}
use native.Mathlib.Numerals.{add-one}
use native.Mathlib.Nat.{eq-or-lt_of_le}
use lib.ListN.{length}
use Rattle.stream.specs.declared.Stream.{Stream}
use Rattle.stream.specs.Box.{streams}
use Rattle.stream.specs.Streams.{places}
use Rattle.record.specs.Loads.{stream_at}
use Rattle.parse.specs.States.{place_of}
use Rattle.restore.specs.Restores.{stream_of, Fits}

module _ (s : List ℕ) where
  pub place-next : (i : ℕ) → place_of s (i + 1) ≡ place_of s i + (34 + 8 * (stream_of s i).pending)
  unfolding place_of
  place-next i = ap (place_of s) (add-one i)

  place-within : (n i : ℕ) → i < n → place_of s (i + 1) ≤ place_of s n
  unfolding place_of
  place-within zero i h = absurd (omega arith)
  place-within (suc n) i h =
      let at_most : i ≤ n = omega arith in
      ⊎_elim
      (λ (same : i ≡ n). let last : i + 1 ≡ suc n = omega arith in omega (arith, ap (place_of s) last))
      (λ (before : i < n). omega (arith, place-within n i before))
      (eq-or-lt_of_le at_most)

  -- the head is all there
  pub fits-long : Fits s → 680 ≤ length s
  unfolding place_of
  fits-long f = omega (arith, f.whole)

  -- stream i as the code has it: read at its place
  module _ (i at : ℕ) (t : Stream) (place : at ≡ place_of s i) (own : t ≡ stream_at at s) where
    pub read_same : t ≡ stream_of s i
    read_same = own ∙ ap (λ (k : ℕ). stream_at k s) place

    -- the next one's place
    pub read_next : place_of s (i + 1) ≡ at + (34 + 8 * t.pending)
    read_next = place-next i ∙ rw (read_same, place)

    pub read-room : Fits s → i < streams → at + (34 + 8 * t.pending) ≤ length s
    read-room f few = omega (arith, read_next, place-within streams i few, f.whole)

    pub read-few : Fits s → i < streams → t.pending ≤ places
    read-few f few = rw read_same (f.few i few)
