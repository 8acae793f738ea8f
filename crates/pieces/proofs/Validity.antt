-- A valid stream stays valid through the pieces of a period, whatever memory and samples hold. Assumes nothing.
use Prim.Native.Nat.{ℕ, ◌+◌, ◌*◌, ◌≤◌, ◌<◌}
use mathlib.Core.Path.{◌≡◌}
use mathlib.Core.Bool.{true}
use native.Mathlib.Omega.{arith}
use native.Mathlib.Numerals.{add-one}
use borrow.Author.Tests.{eqb-false}
use lib.Dec.{eqb}
use lib.ListN.{length}
use Rattle.word.proofs.Choices.{by_cond}
use Rattle.positions.specs.Positions.{positions_of}
use Rattle.positions.proofs.Order.{rises-within, rises-last, rises-append}
use Rattle.positions.proofs.Change.{length_push, push-appends}
use Rattle.stream.specs.declared.Cyclic.{Cyclic}
use Rattle.plan.specs.declared.End.{End}
use Rattle.plan.specs.declared.End.TheVariants.{Inside, Plain, Flagged}
use Rattle.stream.specs.Streams.{list_size, valid_of}
use Rattle.pieces.specs.Pieces.{State, following_of, moved_of, pieces_of}
use Rattle.stream.proofs.Validity.{Valid, valid-parts, parts-valid}
use Rattle.pieces.proofs.Turns.{Moves, pieces-keep}

-- the next descriptor's index is a byte, as the last one's is
following-listed : (descriptor lvi : ℕ) → descriptor ≤ lvi → lvi ≤ 255 → following_of descriptor lvi ≤ 255
following-listed descriptor lvi h byte =
    by_cond (λ (k : ℕ). k ≤ 255) (eqb descriptor lvi) 0 (descriptor + 1) (λ _. omega arith) (λ e. let other = eqb-false descriptor lvi e in omega arith)

-- a list with all its places, and a valid stream
abbrev pub Kept : State → Type 0
Kept x = (list_size ≤ length x.list) × Valid x.stream x.list

module _ (g : Cyclic) (count : ℕ) (byte : g.lvi ≤ 255) where
  pub moved-kept : (x : State) (at n : ℕ) (end : End) → x.done < count → Moves g count x at n end → Kept x → Kept (moved_of g x at n end)
  moved-kept x at n Inside more k (long, v) =
      let s = x.stream in (
        long,
        record {
          few = v.few;
          rises = rises-within s.consumed s.consumed (positions_of s.pending x.list) s.submitted (s.submitted + n) (omega arith) (omega arith) v.rises;
          listed = v.listed;
          heard = omega (arith, v.heard);
          time = v.time;
        },
      )
  moved-kept x at n Plain more k (long, v) =
      let s = x.stream in (
        long,
        record {
          few = v.few;
          rises = rises-within s.consumed s.consumed (positions_of s.pending x.list) s.submitted (s.submitted + n) (omega arith) (omega arith) v.rises;
          listed = following-listed s.descriptor g.lvi k.listed byte;
          heard = omega (arith, v.heard);
          time = v.time;
        },
      )
  moved-kept x at n Flagged more k (long, v) =
      let s = x.stream in
      let fits : 8 * s.pending + 8 ≤ length x.list = omega (arith, k.room) in
      let last = rises-last s.consumed (positions_of s.pending x.list) s.submitted v.heard v.rises in (
        rw (length_push s.pending (s.submitted + n) x.list fits) long,
        record {
          few = omega (arith, k.room);
          rises = rw (add-one s.pending, push-appends s.pending (s.submitted + n) x.list fits (omega (arith, k.submitted)))
              (rises-append s.consumed (positions_of s.pending x.list) s.submitted (s.submitted + n) (s.submitted + n) v.rises
              (omega (arith, last, k.begun, k.ends)) (omega arith) (omega arith));
          listed = following-listed s.descriptor g.lvi k.listed byte;
          heard = omega (arith, v.heard);
          time = v.time;
        },
      )

  -- alone, the descriptor's index stays a byte
  moved_listed : (x : State) (at n : ℕ) (end : End) → x.done < count → Moves g count x at n end → x.stream.descriptor ≤ 255 → (moved_of g x at n end).stream.descriptor ≤ 255
  moved_listed x at n Inside more k h = h
  moved_listed x at n Plain more k h = following-listed x.stream.descriptor g.lvi k.listed byte
  moved_listed x at n Flagged more k h = following-listed x.stream.descriptor g.lvi k.listed byte

  pub pieces-listed : (fuel : ℕ) (x : State) → x.stream.descriptor ≤ 255 → (pieces_of fuel g count x).state.stream.descriptor ≤ 255
  pieces-listed = pieces-keep g count (λ (x : State). x.stream.descriptor ≤ 255) moved_listed

  pub pieces-valid : (fuel : ℕ) (x : State) → list_size ≤ length x.list → valid_of x.stream x.list ≡ true
      → let y = (pieces_of fuel g count x).state in valid_of y.stream y.list ≡ true
  pieces-valid fuel x long valid =
      parts-valid _ _ (pieces-keep g count Kept moved-kept fuel x (long, valid-parts x.stream x.list valid)).1
