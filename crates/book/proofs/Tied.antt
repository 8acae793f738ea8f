-- A stream tied to the book: its counts and pending positions are the book's, nothing is lost or retired early, it is valid, and its list is not crowded; and, where `F` holds, it
-- is at most 16,384 bytes ahead of what is heard, and 4,352 were never pending; no transfer has failed without its reason or at the limit. What each event keeps of it. Assumes nothing.
use Prim.Native.Nat.{ℕ, ◌+◌, ◌-◌, ◌≤◌, ◌<◌, max}
use mathlib.Core.Path.{◌≡◌, refl, sym, ap, subst, ◌∙◌}
use mathlib.Core.Bool.{Bool, true, false, cond, not, ◌&&◌, ◌||◌}
use mathlib.Core.List.{List, [], ◌++◌, append_assoc}
use native.Mathlib.Omega.{arith}
use lib.Dec.{eqb}
use lib.ListN.{length}
use Rattle.positions.specs.Positions.{positions_of}
use Rattle.positions.proofs.Change.{retire-drops}
use Rattle.stream.specs.declared.Stream.{Stream}
use Rattle.stream.specs.declared.Cyclic.{Cyclic}
use Rattle.stream.specs.Streams.{list_size, fresh_of, valid_of, uncrowded_of}
use Rattle.stream.specs.Update.{consumed_of, retired_of, update_of}
use Rattle.stream.proofs.Validity.{valid-parts, parts-valid, fresh-valid, retired-few, update-list-length, update-valid}
use Rattle.plan.specs.declared.End.{End}
use Rattle.plan.specs.declared.End.TheVariants.{Inside, Plain, Flagged}
use Rattle.plan.specs.Plans.{move}
use Rattle.pieces.specs.Pieces.{State, next_of, moved_of}
use Rattle.pieces.specs.Ends.{ended_of}
use Rattle.pieces.proofs.Turns.{Moves}
use Rattle.pieces.proofs.Facts.{length-list, next-submitted, next-consumed}
use Rattle.pieces.proofs.Validity.{moved-kept}
use Rattle.pieces.proofs.Positions.{moved-positions}
use Rattle.pieces.proofs.Spacing.{fresh-spaced, update-spaced, moved-spaced}
use Rattle.turn.specs.Engines.{with_fraction}
use Rattle.turn.proofs.Rounds.{time}
use Rattle.book.specs.Buffers.{Attempt, entry_flagged, piece_bytes, ends_entry, entry_behind}
use Rattle.book.specs.Book.{Book, limit, reset, moved, updated, failed, refused, up_to, above, restored_with, position_if, moved_to, moved_by, note}
use Rattle.book.specs.Reasons.{is_founded, is_unlimited}
use Rattle.book.specs.Events.{Given, attempt_of}
use Rattle.book.specs.Claim.{Rises}
use Rattle.book.proofs.Ghosts.{Ghost, ghost, is_full, see, none-full}
use Rattle.book.proofs.Reasons.{buffer_of, ends_of, flagged_of, Says}
use Rattle.book.proofs.Orders.{rises-all, rises-same, rises-append, up-rises, above-drop, halves, few-pending}

pub record Tied (F : Type 0) (s : Stream) (l : List ℕ) (a : Ghost) : Type 0 where
  pub sized : length l ≡ list_size
  pub valid : valid_of s l ≡ true
  pub submitted : s.submitted ≡ a.book.submitted
  pub consumed : s.consumed ≡ a.book.consumed
  pub pending : positions_of s.pending l ≡ a.book.pending
  pub exact : a.book.ends ≡ a.book.retired ++ a.book.pending
  pub past : Rises 0 a.book.retired a.book.consumed
  pub spaced : uncrowded_of s l ≡ true
  pub ahead : F → s.submitted ≤ s.consumed + 16384
  pub never : F → a.full ≡ false
  pub founded : a.groundless ≡ false
  pub index : s.descriptor ≡ a.book.index
  pub offset : s.offset ≡ a.book.offset

-- few are pending where positions are 4 apart and the stream is at most 16,384 bytes ahead
pub few-now : (s : Stream) (l ps : List ℕ) → valid_of s l ≡ true → positions_of s.pending l ≡ ps → uncrowded_of s l ≡ true → s.submitted ≤ s.consumed + 16384 → length ps < limit
few-now s l ps valid e spaced ahead =
    let v = valid-parts s l valid in
    let view = positions_of s.pending l in
    subst (λ (qs : List ℕ). length qs < limit) e
    (few-pending s.consumed s.offset s.submitted view spaced (rises-all s.consumed view s.submitted v.heard v.rises) ahead)

-- what a moved piece does to the book, by how it ends
moved-pending : (n : ℕ) (end : End) (b : Book) → position_if (flagged_of end) (b.submitted + n) ≡ ended_of (b.submitted + n) end
moved-pending n Inside b = refl
moved-pending n Plain b = refl
moved-pending n Flagged b = refl

next-index : (s : Stream) (lvi n : ℕ) (end : End) → (next_of s lvi n end).descriptor ≡ cond (ends_of end) (cond (eqb s.descriptor lvi) 0 (s.descriptor + 1)) s.descriptor
next-index s lvi n Inside = refl
next-index s lvi n Plain = refl
next-index s lvi n Flagged = refl

next-offset : (s : Stream) (lvi n : ℕ) (end : End) → (next_of s lvi n end).offset ≡ cond (ends_of end) 0 (s.offset + n)
next-offset s lvi n Inside = refl
next-offset s lvi n Plain = refl
next-offset s lvi n Flagged = refl

module _ (F : Type 0) where
  -- another frame time within the limit
  pub tied-times : (s : Stream) (l : List ℕ) (a : Ghost) (fraction : ℕ) → (s.fraction < time → fraction < time) → Tied F s l a → Tied F (with_fraction s fraction) l a
  tied-times s l a fraction within t =
      let p = valid-parts s l t.valid in
      record {
        sized = t.sized;
        valid = parts-valid (with_fraction s fraction) l (record { few = p.few; rises = p.rises; listed = p.listed; heard = p.heard; time = within p.time });
        submitted = t.submitted;
        consumed = t.consumed;
        pending = t.pending;
        exact = t.exact;
        past = t.past;
        spaced = t.spaced;
        ahead = t.ahead;
        never = t.never;
        founded = t.founded;
        index = t.index;
        offset = t.offset;
      }

  -- an event that lets the book stand, where it is no failure without its reason
  tied-kept : (s : Stream) (l : List ℕ) (a : Ghost) (groundless : Bool) → groundless ≡ false → Tied F s l a
      → Tied F s l (ghost a.book (is_full a.book.pending a.full) (groundless || a.groundless))
  tied-kept s l a groundless e t =
      record {
        sized = t.sized;
        valid = t.valid;
        submitted = t.submitted;
        consumed = t.consumed;
        pending = t.pending;
        exact = t.exact;
        past = t.past;
        spaced = t.spaced;
        ahead = t.ahead;
        never = λ f. none-full a.book.pending a.full (few-now s l a.book.pending t.valid t.pending t.spaced (t.ahead f)) (t.never f);
        founded = rw e t.founded;
        index = t.index;
        offset = t.offset;
      }

  -- an opening that was refused, and a transfer that failed for a reason
  pub tied-refused : (s : Stream) (l : List ℕ) (a : Ghost) → Tied F s l a → Tied F s l (see refused a)
  unfolding note
  tied-refused s l a t = tied-kept s l a false refl t

  pub tied-failed : (s : Stream) (l : List ℕ) (a : Ghost) (attempt : Attempt) → is_founded attempt a.book ≡ true → is_unlimited attempt a.book ≡ true → Tied F s l a
      → Tied F s l (see (failed attempt) a)
  unfolding note
  tied-failed s l a attempt reason below t = tied-kept s l a (not (is_founded attempt a.book && is_unlimited attempt a.book)) (rw (reason, below)) t

  -- made or reset
  pub tied-reset : (l : List ℕ) (a : Ghost) → length l ≡ list_size → (F → a.full ≡ false) → a.groundless ≡ false → Tied F fresh_of l (see reset a)
  unfolding fresh_of note positions_of
  tied-reset l a sized never founded =
      record {
        sized = sized;
        valid = fresh-valid l;
        submitted = refl;
        consumed = refl;
        pending = refl;
        exact = refl;
        past = omega arith;
        spaced = fresh-spaced l;
        ahead = λ _. omega arith;
        never = λ f. none-full [] a.full (omega arith) (never f);
        founded = founded;
        index = refl;
        offset = refl;
      }

  -- the first device, or one restored: counts and positions as they are
  pub tied-opening : (s : Stream) (l ps : List ℕ) (full : Bool) → length l ≡ list_size → valid_of s l ≡ true → positions_of s.pending l ≡ ps → uncrowded_of s l ≡ true
      → (F → s.submitted ≤ s.consumed + 16384) → (F → full ≡ false) → (groundless : Bool) → groundless ≡ false → Tied F s l (ghost (restored_with s.submitted s.consumed ps s.descriptor s.offset) full groundless)
  tied-opening s l ps full sized valid e spaced ahead never groundless founded =
      record {
        sized = sized;
        valid = valid;
        submitted = refl;
        consumed = refl;
        pending = e;
        exact = refl;
        past = omega arith;
        spaced = spaced;
        ahead = ahead;
        never = never;
        founded = founded;
        index = refl;
        offset = refl;
      }

  -- the position update
  pub tied-updated : (s : Stream) (l : List ℕ) (a : Ghost) (latency : ℕ) → Tied F s l a
      → let u = update_of s l latency in Tied F u.updated.stream u.list (see (updated latency) a)
  unfolding update_of note
  tied-updated s l a latency t =
      let v = valid-parts s l t.valid in
      let b = a.book in
      let view = positions_of s.pending l in
      let room : list_size ≤ length l = omega (arith, t.sized) in
      let k = retired_of s l latency in
      let c = consumed_of s latency in
      let c' = max b.consumed (b.submitted - latency) in
      let same : c ≡ c' = rw (t.consumed, t.submitted) in
      let r : Rises s.consumed view s.submitted = rises-all s.consumed view s.submitted v.heard v.rises in
      let u = update_of s l latency in
      let valid : valid_of u.updated.stream u.list ≡ true = update-valid s l latency room t.valid in
      let pending : positions_of u.updated.stream.pending u.list ≡ above c' b.pending =
      retire-drops k s.pending l (retired-few s l latency) (omega (arith, v.few))
      ∙ sym (above-drop c s.consumed view s.submitted r) ∙ ap (λ (n : ℕ). above n view) same ∙ ap (above c') t.pending in
      let spaced : uncrowded_of u.updated.stream u.list ≡ true = update-spaced s l latency v.few room t.spaced in
      let ahead : F → u.updated.stream.submitted ≤ u.updated.stream.consumed + 16384 = λ f. omega (arith, t.ahead f) in
      record {
        sized = update-list-length s l latency v.few room ∙ t.sized;
        valid = valid;
        submitted = t.submitted;
        consumed = same;
        pending = pending;
        exact = t.exact
            ∙ ap (λ (ps : List ℕ). b.retired ++ ps) (sym (subst (λ (ps : List ℕ). up_to c' ps ++ above c' ps ≡ ps) t.pending (halves c' s.consumed view s.submitted r)))
            ∙ sym (append_assoc b.retired (up_to c' b.pending) (above c' b.pending));
        past = rises-append 0 b.retired b.consumed (up_to c' b.pending) c' t.past
            (up-rises c' b.consumed b.pending s.submitted (omega arith) (rises-same t.consumed t.pending refl r));
        spaced = spaced;
        ahead = ahead;
        never = λ f. none-full (above c' b.pending) a.full (few-now u.updated.stream u.list (above c' b.pending) valid pending spaced (ahead f)) (t.never f);
        founded = t.founded;
        index = t.index;
        offset = t.offset;
      }

  -- a piece
  module _ (v : Given) (g : Cyclic) (buffered : g ≡ buffer_of v) (count : ℕ) (byte : g.lvi ≤ 255) where
    -- the book moves by the piece that the device moves
    moved_same : (x : State) (b : Book) (at n : ℕ) (end : End) → x.stream.submitted ≡ b.submitted → x.stream.descriptor ≡ b.index → x.stream.offset ≡ b.offset
        → Says v x.stream x.memory (count - x.done) (move at n end)
        → moved_by (attempt_of v count x) b ≡ moved_to n (ends_of end) (flagged_of end) (entry_behind (attempt_of v count x) b.index) b
    moved_same x b at n end submitted index offset says =
        let a = attempt_of v count x in
        let behind = entry_behind a b.index in
        let ended = ends_entry a b.index b.offset b.submitted in
        let flagged = ended && entry_flagged a b.index in
        let bytes : piece_bytes a b.index b.offset b.submitted ≡ n = rw (← index, ← offset, ← submitted) (sym says.0) in
        let ends : ended ≡ ends_of end = rw (← index, ← offset, ← submitted) says.1 in
        let flags : flagged ≡ flagged_of end = rw (← index, ← offset, ← submitted) says.2 in
        ap (λ (k : ℕ). moved_to k ended flagged behind b) bytes
        ∙ ap (λ (t : Bool). moved_to n t flagged behind b) ends
        ∙ ap (λ (t : Bool). moved_to n (ends_of end) t behind b) flags

    pub tied_moved : (x : State) (a : Ghost) (at n : ℕ) (end : End) → x.done < count → Moves g count x at n end → Says v x.stream x.memory (count - x.done) (move at n end)
        → x.stream.submitted + n ≤ x.stream.consumed + 16384 → Tied F x.stream x.list a
        → let y = moved_of g x at n end in Tied F y.stream y.list (see (moved (attempt_of v count x)) a)
    unfolding note
    tied_moved x a at n end more k says room t =
        let s = x.stream in
        let b = a.book in
        let long : list_size ≤ length x.list = omega (arith, t.sized) in
        let y = moved_of g x at n end in
        let c = moved_to n (ends_of end) (flagged_of end) (entry_behind (attempt_of v count x) b.index) b in
        let ps = c.pending in
        let valid : valid_of y.stream y.list ≡ true =
        parts-valid _ _ (moved-kept g count byte x at n end more k (long, valid-parts s x.list t.valid)).1 in
        let pending : positions_of y.stream.pending y.list ≡ ps =
        moved-positions s x.list g.lvi n end k.room k.submitted long
        ∙ ap (λ (ps : List ℕ). ps ++ ended_of (s.submitted + n) end) t.pending
        ∙ ap (λ (m : ℕ). b.pending ++ ended_of (m + n) end) t.submitted
        ∙ ap (λ (ps : List ℕ). b.pending ++ ps) (sym (moved-pending n end b)) in
        let spaced : uncrowded_of y.stream y.list ≡ true = moved-spaced g count x at n end k long t.spaced in
        let ahead : F → y.stream.submitted ≤ y.stream.consumed + 16384 = λ _. omega (arith, room, next-submitted s g.lvi n end, next-consumed s g.lvi n end) in
        let last = position_if (flagged_of end) (b.submitted + n) in
        let lvi : g.lvi ≡ v.last = ap (λ (h : Cyclic). h.lvi) buffered in
        subst (λ (d : Book). Tied F y.stream y.list (ghost d (is_full d.pending a.full) a.groundless))
        (sym (moved_same x b at n end t.submitted t.index t.offset says))
        (record {
          sized = length-list x.list s n end k.room long ∙ t.sized;
          valid = valid;
          submitted = next-submitted s g.lvi n end ∙ ap (λ (m : ℕ). m + n) t.submitted;
          consumed = next-consumed s g.lvi n end ∙ t.consumed;
          pending = pending;
          exact = ap (λ (l : List ℕ). l ++ last) t.exact ∙ append_assoc b.retired b.pending last;
          past = t.past;
          spaced = spaced;
          ahead = ahead;
          never = λ f. none-full ps a.full (few-now y.stream y.list ps valid pending spaced (ahead f)) (t.never f);
          founded = t.founded;
          index = next-index s g.lvi n end ∙ rw (lvi, t.index);
          offset = next-offset s g.lvi n end ∙ rw t.offset;
        })
