-- The pieces of a transfer keep a stream tied to the book, and where they stop the transfer stands still. Assumes nothing.
use Prim.Native.Nat.{ℕ, ◌+◌, ◌-◌, ◌≤◌, ◌<◌}
use mathlib.Core.Path.{◌≡◌, refl, sym, subst}
use mathlib.Core.Bool.{false, true≢false}
use mathlib.Core.List.{[], ◌∷◌}
use native.Mathlib.Omega.{arith}
use borrow.Author.Tests.{lt-ltb, le-ltb}
use Rattle.stream.specs.declared.Cyclic.{Cyclic}
use Rattle.std.specs.Prelude.{Ok, Err}
use Rattle.plan.specs.Plans.{Plan}
use Rattle.plan.specs.Plans.{plan_of}
use Rattle.pieces.specs.Pieces.{State, done_of, piece_of, pieces_of}
use Rattle.pieces.proofs.Plans.{plan-ok}
use Rattle.pieces.proofs.Turns.{NextOk, pieces-by}
use Rattle.pieces.proofs.Facts.{next-submitted, next-consumed}
use Rattle.book.specs.Book.{moved}
use Rattle.book.specs.Events.{only_if, Given, attempt_of, pieces_events, standing_of}
use Rattle.book.proofs.Ghosts.{Ghost, see, sees}
use Rattle.book.proofs.Reasons.{buffer_of, moves, Says, plan-says}
use Rattle.book.proofs.Tied.{Tied, tied_moved}

-- a stream in a period that ends at most 16,384 bytes ahead of what is heard
pub record Going (F : Type 0) (count : ℕ) (x : State) (a : Ghost) : Type 0 where
  pub tied : Tied F x.stream x.list a
  pub room : x.stream.submitted + (count - x.done) ≤ x.stream.consumed + 16384

module _ (F : Type 0) (v : Given) (g : Cyclic) (buffered : g ≡ buffer_of v) (count : ℕ) (byte : g.lvi ≤ 255) where
  plan-tied : (x : State) (a : Ghost) → x.done < count → Going F count x a → (p : Plan) → NextOk g count x p → Says v x.stream x.memory (count - x.done) p
      → let o = done_of g x p in Going F count o.state (sees (only_if o.ok (moved (attempt_of v count x) ∷ [])) a)
  unfolding done_of
  plan-tied x a more t (Err stop) k says = t
  plan-tied x a more t (Ok move) k says =
      record {
        tied = tied_moved F v g buffered count byte x a move.at move.n move.end more k says (omega (arith, t.room, k.few)) t.tied;
        room = omega (arith, t.room, k.few, next-submitted x.stream g.lvi move.n move.end, next-consumed x.stream g.lvi move.n move.end);
      }

  piece-tied : (x : State) (a : Ghost) → x.done < count → Going F count x a
      → let o = piece_of g count x in Going F count o.state (sees (only_if o.ok (moved (attempt_of v count x) ∷ [])) a)
  unfolding piece_of
  piece-tied x a more t =
      let left = count - x.done in
      plan-tied x a more t (plan_of g x.stream x.memory left) (plan-ok g x.stream x.memory left)
      (subst (λ (h : Cyclic). Says v x.stream x.memory left (plan_of h x.stream x.memory left)) (sym buffered) (plan-says v x.stream x.memory left))

  pub pieces-tied : (fuel : ℕ) (x : State) (a : Ghost) → Going F count x a → Going F count (pieces_of fuel g count x).state (sees (pieces_events v fuel g count x) a)
  unfolding pieces_events
  pieces-tied =
      pieces-by g count (λ fuel x o. (a : Ghost) → Going F count x a → Going F count o.state (sees (pieces_events v fuel g count x) a))
      (λ x a t. t)
      (λ fuel x late a t. rw (le-ltb x.done count late) t)
      (λ fuel x more stopped a t. rw (lt-ltb x.done count more, stopped) (rw stopped at (piece-tied x a more t)))
      (λ fuel x o more went rest a t.
      rw (lt-ltb x.done count more, went) (rest (see (moved (attempt_of v count x)) a) (rw went at (piece-tied x a more t))))

-- where the pieces stop, the transfer stands still, and the next piece does not move
module _ (g : Cyclic) (count : ℕ) where
  abbrev Stuck : State → Type 0
  Stuck x = moves (plan_of g x.stream x.memory (count - x.done)) ≡ false

  -- a piece that does not move leaves all as it was
  stuck-by : (x : State) (p : Plan) → plan_of g x.stream x.memory (count - x.done) ≡ p → (done_of g x p).ok ≡ false → Stuck x × ((done_of g x p).state ≡ x)
  unfolding done_of
  stuck-by x (Err stop) e stopped = (rw e, refl)
  stuck-by x (Ok move) e stopped = absurd (true≢false stopped)

  pub pieces-stuck : (fuel : ℕ) (x : State) → let o = pieces_of fuel g count x in o.ok ≡ false → Stuck o.state × (standing_of fuel g count x ≡ o.state)
  unfolding standing_of piece_of
  pieces-stuck =
      pieces-by g count (λ fuel x o. o.ok ≡ false → Stuck o.state × (standing_of fuel g count x ≡ o.state))
      (λ x stopped. absurd (true≢false stopped))
      (λ fuel x late stopped. absurd (true≢false stopped))
      (λ fuel x more e stopped.
      let k = stuck-by x (plan_of g x.stream x.memory (count - x.done)) refl e in
      (subst Stuck (sym k.1) k.0, rw (lt-ltb x.done count more, e) (sym k.1)))
      (λ fuel x o more went rest stopped. let r = rest stopped in (r.0, rw (lt-ltb x.done count more, went) r.1))
