-- The pending positions as a list: a piece, and the pieces of a period, append the flagged ends. Assumes nothing.
use Prim.Native.Nat.{ℕ, ◌+◌, ◌-◌, ◌≤◌}
use mathlib.Core.Path.{◌≡◌, sym, ap, ◌∙◌}
use Rattle.std.specs.Prelude.{Ok, Err}
use mathlib.Core.List.{List, ◌++◌, append-nil, append_assoc}
use native.Mathlib.Omega.{arith}
use native.Mathlib.Numerals.{add-one}
use borrow.Author.Tests.{lt-ltb, le-ltb}
use lib.ListN.{length}
use Rattle.positions.specs.Positions.{positions_of}
use Rattle.positions.proofs.Change.{push-appends}
use Rattle.stream.specs.declared.Stream.{Stream}
use Rattle.stream.specs.declared.Cyclic.{Cyclic}
use Rattle.plan.specs.declared.End.{End}
use Rattle.plan.specs.declared.End.TheVariants.{Inside, Plain, Flagged}
use Rattle.stream.specs.Streams.{list_size, max_count}
use Rattle.plan.specs.Plans.{Plan, plan_of}
use Rattle.pieces.specs.Pieces.{EndOk, next_of, list_of, State, done_of, piece_of, pieces_of}
use Rattle.pieces.specs.Ends.{ended_of, plan_ends, piece_ends, pieces_ends}
use Rattle.pieces.proofs.Plans.{plan-ok}
use Rattle.pieces.proofs.Turns.{NextOk, pieces-by, piece-keeps}
use Rattle.pieces.proofs.Facts.{length-list}

abbrev pub view_of : State → List ℕ
view_of x = positions_of x.stream.pending x.list

-- one piece: submitted after it goes behind the others where its end is flagged
pub moved-positions : (s : Stream) (l : List ℕ) (lvi n : ℕ) (end : End) → EndOk s end → s.submitted + n ≤ max_count → list_size ≤ length l
    → positions_of (next_of s lvi n end).pending (list_of l s n end) ≡ positions_of s.pending l ++ ended_of (s.submitted + n) end
moved-positions s l lvi n Inside room fits long = sym (append-nil (positions_of s.pending l))
moved-positions s l lvi n Plain room fits long = sym (append-nil (positions_of s.pending l))
moved-positions s l lvi n Flagged room fits long =
    ap (λ (k : ℕ). positions_of k (list_of l s n Flagged)) (add-one s.pending) ∙ push-appends s.pending (s.submitted + n) l (omega arith) (omega arith)

module _ (g : Cyclic) (count : ℕ) where
  pub piece-positions : (x : State) → list_size ≤ length x.list → view_of (piece_of g count x).state ≡ view_of x ++ piece_ends g count x
  unfolding piece_of done_of piece_ends
  piece-positions x long = go (plan_of g x.stream x.memory (count - x.done)) (plan-ok g x.stream x.memory (count - x.done))
    where
      go : (p : Plan) → NextOk g count x p → view_of (done_of g x p).state ≡ view_of x ++ plan_ends x.stream p
      go (Err stop) k = sym (append-nil (view_of x))
      go (Ok m) k = moved-positions x.stream x.list g.lvi m.n m.end k.room k.submitted long

  -- the whole period: each flagged end, in order
  pub pieces-positions : (fuel : ℕ) (x : State) → list_size ≤ length x.list → view_of (pieces_of fuel g count x).state ≡ view_of x ++ pieces_ends fuel g count x
  unfolding pieces_ends
  pieces-positions =
      pieces-by g count (λ fuel x o. list_size ≤ length x.list → view_of o.state ≡ view_of x ++ pieces_ends fuel g count x)
      (λ x long. sym (append-nil (view_of x)))
      (λ fuel x late long. rw (le-ltb x.done count late) (sym (append-nil (view_of x))))
      (λ fuel x more stopped long. rw (lt-ltb x.done count more, stopped, append-nil (piece_ends g count x)) (piece-positions x long))
      (λ fuel x o more moved rest long.
      let kept = piece-keeps g count (λ y. list_size ≤ length y.list) (λ y at n end _ k h. rw (length-list y.list y.stream n end k.room h) h) x more long in
      let y : State = (piece_of g count x).state in
      rw (lt-ltb x.done count more, moved)
      (rest kept ∙ ap (λ (l : List ℕ). l ++ pieces_ends fuel g count y) (piece-positions x long)
      ∙ append_assoc (view_of x) (piece_ends g count x) (pieces_ends fuel g count y)))
