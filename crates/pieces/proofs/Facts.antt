-- What the pieces of a period do to counts, lists, memory and samples, whatever guest memory holds. Assumes nothing.
use Prim.Native.Nat.{ℕ, ◌+◌, ◌-◌, ◌≤◌, ◌<◌}
use mathlib.Core.Path.{◌≡◌, refl, sym, ◌∙◌, subst}
use mathlib.Core.Bool.{Bool, true, false, true≢false}
use mathlib.Core.List.{List}
use native.Mathlib.Omega.{arith}
use lib.ListN.{length, take, drop}
use Rattle.word.specs.Place.{put_at}
use Rattle.word.proofs.Lists.{length_part}
use Rattle.word.proofs.Puts.{length-put}
use Rattle.positions.proofs.Change.{length_push}
use Rattle.stream.specs.declared.Stream.{Stream}
use Rattle.stream.specs.declared.Cyclic.{Cyclic}
use Rattle.stream.specs.Streams.{list_size}
use Rattle.plan.specs.declared.End.{End}
use Rattle.plan.specs.declared.End.TheVariants.{Inside, Plain, Flagged}
use Rattle.pieces.specs.Pieces.{EndOk, next_of, list_of, memory_of, pcm_of, State, piece_of, pieces_of}
use Rattle.pieces.proofs.Turns.{Further, piece-further, pieces-by, pieces-keep}

-- a part put over as many bytes
length-put-part : (at : ℕ) (l : List ℕ) (from n : ℕ) (k : List ℕ) → at + n ≤ length l → from + n ≤ length k → length (put_at at (take n (drop from k)) l) ≡ length l
length-put-part at l from n k fits there =
    length-put at (take n (drop from k)) l (omega (arith, length_part n from k (omega arith)))

-- lengths stay

pub length-list : (l : List ℕ) (s : Stream) (n : ℕ) (end : End) → EndOk s end → list_size ≤ length l → length (list_of l s n end) ≡ length l
length-list l s n Inside room long = refl
length-list l s n Plain room long = refl
length-list l s n Flagged room long = length_push s.pending (s.submitted + n) l (omega arith)

length-memory : (capture : Bool) (m : List ℕ) (at : ℕ) (pcm : List ℕ) (done n : ℕ) → at + n ≤ length m → done + n ≤ length pcm
    → length (memory_of capture m at pcm done n) ≡ length m
length-memory true m at pcm done n fits room = length-put-part at m done n pcm fits room
length-memory false m at pcm done n fits room = refl

length-pcm : (capture : Bool) (m : List ℕ) (at : ℕ) (pcm : List ℕ) (done n : ℕ) → at + n ≤ length m → done + n ≤ length pcm
    → length (pcm_of capture m at pcm done n) ≡ length pcm
length-pcm true m at pcm done n fits room = refl
length-pcm false m at pcm done n fits room = length-put-part done pcm at n m room fits

module _ (g : Cyclic) (count fuel : ℕ) (x : State) where
  pub pieces-list-length : list_size ≤ length x.list → length (pieces_of fuel g count x).state.list ≡ length x.list
  pieces-list-length long =
      pieces-keep g count (λ y. length y.list ≡ length x.list)
      (λ y at n end more k h. length-list y.list y.stream n end k.room (omega arith) ∙ h) fuel x refl

  -- both lengths: a capture's memory needs the samples' length, and a playback's samples memory's
  lengths : count ≤ length x.pcm → let y = (pieces_of fuel g count x).state in (length y.memory ≡ length x.memory) × (length y.pcm ≡ length x.pcm)
  lengths room =
      pieces-keep g count (λ y. (length y.memory ≡ length x.memory) × (length y.pcm ≡ length x.pcm))
      (λ y at n end more k h. (
        length-memory g.capture y.memory at y.pcm y.done n k.within (omega (arith, k.few)) ∙ h.0,
        length-pcm g.capture y.memory at y.pcm y.done n k.within (omega (arith, k.few)) ∙ h.1,
      )) fuel x (refl, refl)

  pub pieces-memory-length : count ≤ length x.pcm → length (pieces_of fuel g count x).state.memory ≡ length x.memory
  pieces-memory-length room = (lengths room).0

  pub pieces-pcm-length : count ≤ length x.pcm → length (pieces_of fuel g count x).state.pcm ≡ length x.pcm
  pieces-pcm-length room = (lengths room).1

  -- a playback leaves memory, and a capture the samples
  pub playback-memory : g.capture ≡ false → (pieces_of fuel g count x).state.memory ≡ x.memory
  playback-memory e =
      pieces-keep g count (λ y. y.memory ≡ x.memory)
      (λ y at n end more k h. subst (λ b. memory_of b y.memory at y.pcm y.done n ≡ x.memory) (sym e) h) fuel x refl

  pub capture-pcm : g.capture ≡ true → (pieces_of fuel g count x).state.pcm ≡ x.pcm
  capture-pcm e =
      pieces-keep g count (λ y. y.pcm ≡ x.pcm)
      (λ y at n end more k h. subst (λ b. pcm_of b y.memory at y.pcm y.done n ≡ x.pcm) (sym e) h) fuel x refl

-- counts

pub next-submitted : (s : Stream) (lvi n : ℕ) (end : End) → (next_of s lvi n end).submitted ≡ s.submitted + n
next-submitted s lvi n Inside = refl
next-submitted s lvi n Plain = refl
next-submitted s lvi n Flagged = refl

pub next-consumed : (s : Stream) (lvi n : ℕ) (end : End) → (next_of s lvi n end).consumed ≡ s.consumed
next-consumed s lvi n Inside = refl
next-consumed s lvi n Plain = refl
next-consumed s lvi n Flagged = refl

module _ (g : Cyclic) (count fuel : ℕ) (x : State) where
  counts : let y = (pieces_of fuel g count x).state in
      (x.done ≤ y.done) × (y.stream.submitted ≡ x.stream.submitted + (y.done - x.done)) × (y.stream.consumed ≡ x.stream.consumed)
  counts =
      pieces-keep g count
      (λ y. (x.done ≤ y.done) × (y.stream.submitted ≡ x.stream.submitted + (y.done - x.done)) × (y.stream.consumed ≡ x.stream.consumed))
      (λ y at n end more k h. (
        omega (arith, h.0),
        next-submitted y.stream g.lvi n end ∙ omega (arith, h.0, h.1),
        next-consumed y.stream g.lvi n end ∙ h.2,
      )) fuel x (omega arith, omega arith, refl)

  -- each byte done is submitted
  pub pieces-submitted : let y = (pieces_of fuel g count x).state in y.stream.submitted ≡ x.stream.submitted + (y.done - x.done)
  pieces-submitted = counts.1

  pub pieces-consumed : (pieces_of fuel g count x).state.stream.consumed ≡ x.stream.consumed
  pieces-consumed = counts.2

  -- consumed stays at most submitted
  pub pieces-heard : x.stream.consumed ≤ x.stream.submitted → let y = (pieces_of fuel g count x).state in y.stream.consumed ≤ y.stream.submitted
  pieces-heard h = omega (arith, counts.1, counts.2)

-- pieces that all went well moved the whole period
pub pieces-done : (g : Cyclic) (count : ℕ) → 0 < g.cbl → (fuel : ℕ) (x : State) → x.done ≤ count → count - x.done ≤ fuel
    → (pieces_of fuel g count x).ok ≡ true → (pieces_of fuel g count x).state.done ≡ count
pieces-done g count cyclic =
    pieces-by g count (λ fuel x o. x.done ≤ count → count - x.done ≤ fuel → o.ok ≡ true → o.state.done ≡ count)
    (λ x few enough ok. omega arith)
    (λ fuel x late few enough ok. omega arith)
    (λ fuel x more stopped few enough ok. absurd (true≢false (sym ok ∙ stopped)))
    (λ fuel x o more moved rest few enough.
    let f = subst (λ b. Further b count x.done (piece_of g count x).state.done) moved (piece-further g count x cyclic more) in
    rest f.1 (omega arith))
