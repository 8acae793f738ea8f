-- The turns of the loop over pieces: a piece that moves takes the period further, the pieces go on where it did, and what every piece
-- keeps the pieces keep. Assumes nothing.
use Prim.Native.Nat.{ℕ, zero, suc, ◌-◌, ◌≤◌, ◌<◌}
use mathlib.Core.Path.{◌≡◌, refl, sym, subst}
use mathlib.Core.Bool.{Bool, true, false}
use Rattle.std.specs.Prelude.{Ok, Err}
use native.Mathlib.Omega.{arith}
use borrow.Author.Tests.{ltb-true, ltb-false, lt-ltb, le-ltb}
use lib.Dec.{ltb}
use lib.ListN.{length}
use Rattle.memory.specs.Memory.{entry_at}
use Rattle.stream.specs.declared.Cyclic.{Cyclic}
use Rattle.plan.specs.declared.End.{End}
use Rattle.plan.specs.Plans.{Plan, descriptor_at, plan_of}
use Rattle.pieces.specs.Pieces.{State, Out, out_of, moved_of, done_of, piece_of, onward, again, pieces_of}
use Rattle.pieces.proofs.Plans.{MoveOk, PlanOk, plan-ok}

-- a plan for the next piece of x, and a piece of it that moves
abbrev pub NextOk : Cyclic → ℕ → State → Plan → Type 0
NextOk g count x p = PlanOk g x.stream (length x.memory) (count - x.done) (entry_at x.memory (descriptor_at g x.stream)) p

abbrev pub Moves : Cyclic → ℕ → State → ℕ → ℕ → End → Type 0
Moves g count x at n end = MoveOk g x.stream (length x.memory) (count - x.done) (entry_at x.memory (descriptor_at g x.stream)) at n end

-- where a piece of a period of `count` bytes leaves the count of what is done
abbrev pub Further : Bool → ℕ → ℕ → ℕ → Type 0
Further true count before after = (before < after) × (after ≤ count)
Further false count before after = after ≡ before

module _ (g : Cyclic) (count : ℕ) (x : State) where
  pub piece-further : 0 < g.cbl → x.done < count → Further (piece_of g count x).ok count x.done (piece_of g count x).state.done
  unfolding piece_of done_of
  piece-further cyclic more = go (plan_of g x.stream x.memory (count - x.done)) (plan-ok g x.stream x.memory (count - x.done))
    where
      go : (p : Plan) → NextOk g count x p → Further (done_of g x p).ok count x.done (done_of g x p).state.done
      go (Err stop) k = refl
      go (Ok m) k = let some = k.some cyclic (omega arith) in (omega arith, omega arith)

  -- .. so one that moves takes it further
  pub further : (o : Out) → 0 < g.cbl → x.done < count → o ≡ piece_of g count x → o.ok ≡ true → (x.done < o.state.done) × (o.state.done ≤ count)
  further o cyclic more e moved =
      subst (λ (b : Bool). Further b count x.done o.state.done) moved
      (subst (λ (p : Out). Further p.ok count x.done p.state.done) (sym e) (piece-further cyclic more))

  pub pieces_more : (fuel : ℕ) (o : Out) → x.done < count → count - x.done ≤ fuel → o ≡ piece_of g count x → o.ok ≡ true
      → (k : ℕ) × (suc k ≡ fuel) × (pieces_of fuel g count x ≡ pieces_of k g count o.state)
  unfolding pieces_of
  pieces_more zero o h enough e moved = absurd (omega arith)
  pieces_more (suc k) o h enough e moved = (k, refl, rw (lt-ltb x.done count h, ← e, moved))

  pub pieces-stop : (fuel : ℕ) (o : Out) → x.done < count → count - x.done ≤ fuel → o ≡ piece_of g count x → o.ok ≡ false → pieces_of fuel g count x ≡ o
  unfolding pieces_of
  pieces-stop zero o h enough e stopped = absurd (omega arith)
  pieces-stop (suc k) o h enough e stopped = rw (lt-ltb x.done count h, ← e, stopped)

  pub pieces_end : (fuel : ℕ) → count ≤ x.done → pieces_of fuel g count x ≡ out_of true false x
  unfolding pieces_of
  pieces_end zero h = refl
  pieces_end (suc k) h = rw (le-ltb x.done count h)

-- by fuel: what holds where no fuel is left or the period is over, where a piece stops, and from a piece that moved to the rest
module _ (g : Cyclic) (count : ℕ) (Q : ℕ → State → Out → Type 0)
    (empty : (x : State) → Q zero x (out_of true false x))
    (over : (fuel : ℕ) (x : State) → count ≤ x.done → Q (suc fuel) x (out_of true false x))
    (stops : (fuel : ℕ) (x : State) → x.done < count → (piece_of g count x).ok ≡ false → Q (suc fuel) x (piece_of g count x))
    (moves : (fuel : ℕ) (x : State) (o : Out) → x.done < count → (piece_of g count x).ok ≡ true → Q fuel (piece_of g count x).state o → Q (suc fuel) x o) where
  onward-by : (fuel : ℕ) (rest : State → Out) → ((y : State) → Q fuel y (rest y)) → (x : State) → x.done < count → (b : Bool) → (piece_of g count x).ok ≡ b
      → Q (suc fuel) x (onward b (piece_of g count x) rest)
  onward-by fuel rest holds x more true e = moves fuel x (rest (piece_of g count x).state) more e (holds (piece_of g count x).state)
  onward-by fuel rest holds x more false e = stops fuel x more e

  again_by : (fuel : ℕ) (rest : State → Out) → ((y : State) → Q fuel y (rest y)) → (x : State) (b : Bool) → ltb x.done count ≡ b
      → Q (suc fuel) x (again b (piece_of g count x) rest x)
  again_by fuel rest holds x true e = onward-by fuel rest holds x (ltb-true x.done count e) (piece_of g count x).ok refl
  again_by fuel rest holds x false e = over fuel x (ltb-false x.done count e)

  pub pieces-by : (fuel : ℕ) (x : State) → Q fuel x (pieces_of fuel g count x)
  unfolding pieces_of
  pieces-by zero x = empty x
  pieces-by (suc fuel) x = again_by fuel (pieces_of fuel g count) (pieces-by fuel) x (ltb x.done count) refl

-- what each piece that moves keeps
module _ (g : Cyclic) (count : ℕ) (P : State → Type 0)
    (keeps : (x : State) (at n : ℕ) (end : End) → x.done < count → Moves g count x at n end → P x → P (moved_of g x at n end)) where
  pub piece-keeps : (x : State) → x.done < count → P x → P (piece_of g count x).state
  unfolding piece_of done_of
  piece-keeps x more h = go (plan_of g x.stream x.memory (count - x.done)) (plan-ok g x.stream x.memory (count - x.done))
    where
      go : (p : Plan) → NextOk g count x p → P (done_of g x p).state
      go (Err stop) k = h
      go (Ok m) k = keeps x m.at m.n m.end more k h

  pub pieces-keep : (fuel : ℕ) (x : State) → P x → P (pieces_of fuel g count x).state
  pieces-keep =
      pieces-by g count (λ fuel x o. P x → P o.state) (λ x h. h) (λ fuel x more h. h) (λ fuel x more e h. piece-keeps x more h)
      (λ fuel x o more e rest h. rest (piece-keeps x more h))
