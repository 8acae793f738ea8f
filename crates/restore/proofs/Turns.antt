-- The loops over streams: the scan of the openings, a list that is filled, and a stream's positions put into its part of the lists. Assumes nothing.
use Prim.Native.Nat.{ℕ, zero, suc, ◌+◌, ◌-◌, ◌*◌, ◌≤◌, ◌<◌}
use mathlib.Core.Path.{◌≡◌, refl, ap, ◌∙◌}
use mathlib.Core.Bool.{Bool, ◌&&◌}
use mathlib.Core.List.{List, ◌++◌, append_assoc, append-nil}
use native.Mathlib.Omega.{arith}
use native.Mathlib.Numerals.{add-one}
use lib.ListN.{length, take, drop, set, length-drop}
use lib.Seq.{take_all, take-suc-set}
use Rattle.std.specs.List.{list_any, range_with_len}
use Rattle.record.specs.Rows.{row_of}
use Rattle.word.specs.Place.{put_at}
use Rattle.word.proofs.Lists.{length_part}
use Rattle.stream.specs.declared.Stream.{Stream}
use Rattle.stream.specs.Box.{streams}
use Rattle.stream.specs.Streams.{list_size}
use Rattle.host.specs.declared.Host.{Host}
use Rattle.host.specs.Hosts.{fails_of}
use Rattle.record.specs.Loads.{stream_at}
use Rattle.parse.specs.States.{place_of}
use Rattle.restore.specs.Restores.{opens_of, refused_from, kept_of, restored_stream, put_positions, Fits}
use Rattle.restore.proofs.Places.{read_same, read-room}
use Rattle.restore.proofs.Streams.{kept-few}

-- what the scan of the openings over the numbers gives
pub refused_list : (s : List ℕ) (microphone : Bool) (h : Host) (n i : ℕ)
    → list_any (λ (k : ℕ). opens_of s microphone k && fails_of h k) (range_with_len i n) ≡ refused_from n i s microphone h
unfolding refused_from
refused_list s microphone h zero i = refl
refused_list s microphone h (suc n) i = rw (refused_list s microphone h n (i + 1)) refl

-- a list of which the first `i` are filled, and the others are those of the row
module _ {A : Type 0} (f : ℕ → A) (n i : ℕ) (l : List A) (count : length l ≡ n) where
  pub fill-turn : (v : A) → v ≡ f i → i < n → take (i + 1) (set l i v) ++ row_of f (n - (i + 1)) (i + 1) ≡ take i l ++ row_of f (n - i) i
  unfolding row_of
  fill-turn v e h =
      let more : n - i ≡ suc (n - (i + 1)) = omega arith in
      rw (more, add-one i, take-suc-set l i v (omega arith), append_assoc, e)

  pub fill_end : n ≤ i → l ≡ take i l ++ row_of f (n - i) i
  unfolding row_of
  fill_end h = let none : n - i ≡ 0 = omega arith in rw (none, take_all i l (omega arith), append-nil)

-- stream i as the code has it: read at its place, and put in force with the state from its list on at hand
module _ (strict : Bool) (s : List ℕ) (i at : ℕ) (t u : Stream) (place : at ≡ place_of s i) (own : t ≡ stream_at at s)
    (kept : u ≡ kept_of strict t (take (length s - (at + 34)) (drop (at + 34) s))) where
  pub read_kept : u ≡ restored_stream strict s i
  read_kept =
      kept
      ∙ ap (kept_of strict t) (take_all (length s - (at + 34)) (drop (at + 34) s) (omega (arith, length-drop (at + 34) s)))
      ∙ rw (read_same s i at t place own, place)

  pub read-fewer : u.pending ≤ t.pending
  read-fewer = rw kept (kept-few strict t (take (length s - (at + 34)) (drop (at + 34) s)))

  -- its positions, `j` being their end less their start
  module _ (j : ℕ) (size : j ≡ 8 * u.pending) where
    pub length-positions : Fits s → i < streams → length (take j (drop (at + 34) s)) ≡ j
    length-positions f few =
        length_part j (at + 34) s (omega (arith, read-room s i at t place own f few, read-fewer))

    pub positions-put : (l r : List ℕ) → r ≡ put_at (list_size * i) (take j (drop (at + 34) s)) l → r ≡ put_positions strict s i l
    positions-put l r e = e ∙ rw (size, read_kept, place)
