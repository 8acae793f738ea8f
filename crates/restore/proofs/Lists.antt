-- The lists that a restore leaves: as long as they were, each part with its stream's positions at its start. Assumes nothing.
use Prim.Native.Nat.{ℕ, zero, suc, ◌+◌, ◌*◌, ◌≤◌, ◌<◌}
use mathlib.Core.Path.{◌≡◌, refl, sym, ap, ◌∙◌}
use mathlib.Core.Bool.{Bool, true}
use mathlib.Core.List.{List}
use mathlib.Core.Logic.{◌⊎◌, ⊎_elim, inl, inr}
use native.Mathlib.Omega.{arith}
use native.Mathlib.Nat.{eq-or-lt_of_le}
use lib.ListN.{length, take, drop}
use lib.Seq.{take-take}
use Rattle.word.specs.Each.{each_of, always}
use Rattle.word.specs.Parts.{part_of}
use Rattle.word.proofs.Lists.{length_part}
use Rattle.word.proofs.Puts.{length-put, put-there, put-part-elsewhere}
use Rattle.word.proofs.Each.{each_keeps}
use Rattle.positions.specs.Positions.{positions_of}
use Rattle.positions.proofs.View.{positions-take}
use Rattle.stream.specs.Streams.{places, list_size, valid_of, uncrowded_of}
use Rattle.stream.specs.Box.{streams}
use Rattle.parse.specs.States.{place_of}
use Rattle.restore.specs.Restores.{stream_of, list_of, Fits, restored_stream, positions_at, put_positions, restored_lists}
use Rattle.restore.proofs.Places.{read-room}
use Rattle.restore.proofs.Streams.{kept-few, kept-valid, kept-uncrowded, valid_same, uncrowded-same}

module _ (strict : Bool) (s : List ℕ) (f : Fits s) where
  few-kept : (i : ℕ) → i < streams → (restored_stream strict s i).pending ≤ places
  few-kept i few = omega (arith, kept-few strict (stream_of s i) (list_of s i), f.few i few)

  length-own : (i : ℕ) → i < streams → length (positions_at strict s i) ≡ 8 * (restored_stream strict s i).pending
  length-own i few =
      length_part (8 * (restored_stream strict s i).pending) (place_of s i + 34) s
      (omega (arith, kept-few strict (stream_of s i) (list_of s i), read-room s i (place_of s i) (stream_of s i) refl refl f few))

  -- as many bytes at the start of part j as stream j's positions have
  abbrev held : List ℕ → ℕ → List ℕ
  held l j = take (8 * (restored_stream strict s j).pending) (drop (list_size * j) l)

  -- one stream's positions put
  module _ (i : ℕ) (few : i < streams) (l : List ℕ) (space : list_size * streams ≤ length l) where
    room : list_size * i + length (positions_at strict s i) ≤ length l
    room = omega (arith, length-own i few, few-kept i few)

    put-length : length (put_positions strict s i l) ≡ length l
    put-length = length-put (list_size * i) (positions_at strict s i) l room

    put-own : held (put_positions strict s i l) i ≡ positions_at strict s i
    put-own = ap (λ (n : ℕ). take n (drop (list_size * i) (put_positions strict s i l))) (sym (length-own i few)) ∙ put-there (list_size * i) (positions_at strict s i) l room

    put_other : (j : ℕ) → j < streams → (j < i) ⊎ (i < j) → held (put_positions strict s i l) j ≡ held l j
    put_other j less h =
        put-part-elsewhere (list_size * i) (positions_at strict s i) l room (8 * (restored_stream strict s j).pending) (list_size * j)
        (⊎_elim (λ (b : j < i). inl (omega (arith, few-kept j less))) (λ (b : i < j). inr (omega (arith, length-own i few, few-kept i few))) h)

  -- those of stream i and of those after it: the parts before stay, the others have their positions
  module _ (j : ℕ) (less : j < streams) where
    puts-before : (n i : ℕ) (l : List ℕ) → i + n ≡ streams → list_size * streams ≤ length l → j < i → held (each_of always (put_positions strict s) n i l) j ≡ held l j
    unfolding each_of
    puts-before zero i l e space h = refl
    puts-before (suc n) i l e space h =
        puts-before n (i + 1) (put_positions strict s i l) (omega arith) (omega (arith, put-length i (omega arith) l space)) (omega arith)
        ∙ put_other i (omega arith) l space j less (inl h)

    puts-own : (n i : ℕ) (l : List ℕ) → i + n ≡ streams → list_size * streams ≤ length l → i ≤ j → held (each_of always (put_positions strict s) n i l) j ≡ positions_at strict s j
    unfolding each_of
    puts-own zero i l e space h = absurd (omega arith)
    puts-own (suc n) i l e space h =
        let kept : list_size * streams ≤ length (put_positions strict s i l) = omega (arith, put-length i (omega arith) l space) in
        ⊎_elim
        (λ (same : i ≡ j).
        puts-before n (i + 1) (put_positions strict s i l) (omega arith) kept (omega arith)
        ∙ rw same (put-own j less l space))
        (λ (after : i < j). puts-own n (i + 1) (put_positions strict s i l) (omega arith) kept (omega arith))
        (eq-or-lt_of_le h)

  module _ (l : List ℕ) (space : list_size * streams ≤ length l) where
    pub length-restored : length (restored_lists strict s l) ≡ length l
    unfolding restored_lists
    length-restored =
        each_keeps (λ (x : List ℕ). length x ≡ length l) (put_positions strict s) streams (λ i x few e. put-length i few x (omega (arith, e)) ∙ e) streams 0 l (omega arith) refl

    restored-positions : (j : ℕ) → j < streams → held (restored_lists strict s l) j ≡ positions_at strict s j
    unfolding restored_lists
    restored-positions j less = puts-own j less streams 0 l (omega arith) space (omega arith)

    -- the part's first bytes, as many as stream j's positions have
    pub restored-part : (j : ℕ) → j < streams → take (8 * (restored_stream strict s j).pending) (part_of list_size j (restored_lists strict s l)) ≡ positions_at strict s j
    restored-part j less =
        take-take (8 * (restored_stream strict s j).pending) list_size (drop (list_size * j) (restored_lists strict s l)) (omega (arith, few-kept j less)) ∙ restored-positions j less

    -- a stream that is put in force is as valid with its part of them as it was in the state, and no more crowded
    pub restored-stream : (j : ℕ) → j < streams → valid_of (stream_of s j) (list_of s j) ≡ true
        → valid_of (restored_stream strict s j) (part_of list_size j (restored_lists strict s l)) ≡ true
    restored-stream j less v =
        valid_same (restored_stream strict s j) (part_of list_size j (restored_lists strict s l)) (list_of s j) (restored-part j less) ∙ kept-valid strict (stream_of s j) (list_of s j) v

    pub restored-uncrowded : (j : ℕ) → j < streams → (strict ≡ true → uncrowded_of (stream_of s j) (list_of s j) ≡ true)
        → uncrowded_of (restored_stream strict s j) (part_of list_size j (restored_lists strict s l)) ≡ true
    restored-uncrowded j less refused =
        uncrowded-same (restored_stream strict s j) (part_of list_size j (restored_lists strict s l)) (list_of s j) (restored-part j less)
        ∙ kept-uncrowded strict (stream_of s j) (list_of s j) refused

    pub restored-list : (j : ℕ) → j < streams
        → let n = (restored_stream strict s j).pending in positions_of n (part_of list_size j (restored_lists strict s l)) ≡ positions_of n (list_of s j)
    restored-list j less =
        positions-take (restored_stream strict s j).pending (part_of list_size j (restored_lists strict s l)) (list_of s j) (restored-part j less)
