-- What holds of every piece that a plan moves, from the definitions alone. Assumes nothing.
use Prim.Native.Nat.{ℕ, ◌+◌, ◌%◌, ◌^◌, ◌≤◌, ◌<◌}
use mathlib.Core.Path.{◌≡◌, sym, ◌∙◌, subst}
use mathlib.Core.List.{List}
use Rattle.std.specs.Prelude.{Some, None, Ok, Err}
use native.Mathlib.Omega.{arith}
use native.Mathlib.Nat.{mod-lt}
use borrow.Author.Tests.{ltb-true, ltb-false, leb-true, eqb-true}
use lib.Dec.{ltb, leb, eqb}
use lib.ListN.{length}
use Rattle.word.specs.Value.{Bytes}
use Rattle.word.proofs.Choices.{by_cond}
use Rattle.word.proofs.Place.{word_bound}
use Rattle.memory.specs.declared.Descriptor.{Descriptor}
use Rattle.memory.specs.Memory.{entry_at, descriptor_of}
use Rattle.stream.specs.declared.Stream.{Stream}
use Rattle.stream.specs.declared.Cyclic.{Cyclic}
use Rattle.plan.specs.declared.End.{End}
use Rattle.plan.specs.declared.End.TheVariants.{Inside, Plain, Flagged}
use Rattle.plan.specs.declared.Move.{Move}
use Rattle.stream.specs.Streams.{places, max_count}
use Rattle.plan.specs.Plans.{Plan, descriptor_at, size_of, end_of, placed_of, entry_of, fetched_of, plan_of}
use Rattle.pieces.specs.Pieces.{EndOk}

-- an end of the descriptor is reached by its last byte
abbrev pub Ends : Stream → Descriptor → ℕ → End → Type 0
Ends s d n Inside = Unit {0}
Ends s d n Plain = s.offset + n ≡ d.length
Ends s d n Flagged = s.offset + n ≡ d.length

-- a piece of n bytes at `at` of memory of `size` bytes, by the descriptor d, with `left` bytes of the period to move
pub record MoveOk (g : Cyclic) (s : Stream) (size left : ℕ) (d : Descriptor) (at n : ℕ) (end : End) : Type 0 where
  pub some : 0 < g.cbl → 0 < left → 0 < n
  pub few : n ≤ left
  pub within : at + n ≤ size
  pub listed : s.descriptor ≤ g.lvi
  pub there : descriptor_at g s + 16 ≤ size
  pub frame : 4 ≤ d.length
  pub begun : s.offset < d.length
  pub offset : s.offset + n ≤ d.length
  pub ends : Ends s d n end
  pub submitted : s.submitted + n ≤ max_count
  pub room : EndOk s end

abbrev pub PlanOk : Cyclic → Stream → ℕ → ℕ → Descriptor → Plan → Type 0
PlanOk g s size left d (Err stop) = Unit {0}
PlanOk g s size left d (Ok m) = MoveOk g s size left d m.at m.n m.end

-- the tests of the definition, from the last to the first: each gives what the ones before it leave open
module _ (g : Cyclic) (s : Stream) (size left : ℕ) (d : Descriptor) where
  -- what an end is shown by
  abbrev EndsOk : ℕ → Type 0
  EndsOk n = (end : End) → Ends s d n end → EndOk s end → MoveOk g s size left d (d.address + s.offset) n end

  end-ok : (n : ℕ) → EndsOk n → PlanOk g s size left d (end_of s d n)
  unfolding end_of
  end-ok n move =
      by_cond (PlanOk g s size left d) (eqb (s.offset + n) d.length) _ _
      (λ e. by_cond (PlanOk g s size left d) (eqb (d.flags % 2) 1) _ _
      (λ _. by_cond (PlanOk g s size left d) (ltb s.pending places) _ _
      (λ room. move Flagged (eqb-true _ _ e) (ltb-true _ _ room)) (λ _. tt))
      (λ _. move Plain (eqb-true _ _ e) tt))
      (λ _. move Inside tt tt)

  placed-ok : (n : ℕ) → (d.address + (s.offset + n) ≤ size → s.submitted + n ≤ max_count → EndsOk n) → PlanOk g s size left d (placed_of s size d n)
  unfolding placed_of
  placed-ok n move =
      by_cond (PlanOk g s size left d) (leb (d.address + (s.offset + n)) size) _ _
      (λ e₁. by_cond (PlanOk g s size left d) (leb (s.submitted + n) max_count) _ _ (λ e₂. end-ok n (move (leb-true _ _ e₁) (leb-true _ _ e₂))) (λ _. tt))
      (λ _. tt)

  entry-ok : s.descriptor ≤ g.lvi → descriptor_at g s + 16 ≤ size → PlanOk g s size left d (entry_of g s size left d)
  unfolding entry_of
  entry-ok listed there =
      by_cond (PlanOk g s size left d) (eqb d.length 0) _ _ (λ _. tt)
      (λ e₁. by_cond (PlanOk g s size left d) (eqb (d.length % 4) 0) _ _
      (λ e₂. by_cond (PlanOk g s size left d) (ltb s.offset d.length) _ _
      (λ e₃. let begun : s.offset < d.length = ltb-true _ _ e₃ in
      let frame : 4 ≤ d.length = omega (arith, eqb-true (d.length % 4) 0 e₂) in
      placed-ok (size_of g s left d.length)
      (λ within submitted end ends room. record {
        some = λ cyclic more. omega (arith, mod-lt s.submitted cyclic);
        few = omega arith;
        within = omega arith;
        listed = listed;
        there = there;
        frame = frame;
        begun = begun;
        offset = omega arith;
        ends = ends;
        submitted = submitted;
        room = room;
      }))
      (λ _. tt))
      (λ _. tt))

-- each piece lies inside memory and its descriptor, moves a byte or more, and a flagged end finds a place
pub plan-ok : (g : Cyclic) (s : Stream) (m : List ℕ) (left : ℕ) → PlanOk g s (length m) left (entry_at m (descriptor_at g s)) (plan_of g s m left)
unfolding plan_of descriptor_of
plan-ok g s m left =
    let d : Descriptor = entry_at m (descriptor_at g s) in
    by_cond (PlanOk g s (length m) left d) (ltb g.lvi s.descriptor) _ _ (λ _. tt)
    (λ e₁. by_cond (λ f. PlanOk g s (length m) left d (fetched_of g s (length m) left f)) (leb (descriptor_at g s + 16) (length m)) (Some d) None
    (λ e₂. entry-ok g s (length m) left d (ltb-false _ _ e₁) (leb-true _ _ e₂))
    (λ _. tt))

-- the same of the move that a plan answers
pub move_ok : {g : Cyclic} {s : Stream} (m : List ℕ) {left : ℕ} {p : Plan} {moved : Move} → p ≡ plan_of g s m left → p ≡ Ok moved
    → MoveOk g s (length m) left (entry_at m (descriptor_at g s)) moved.at moved.n moved.end
move_ok {g} {s} m {left} planned is =
    subst (PlanOk g s (length m) left (entry_at m (descriptor_at g s))) (sym planned ∙ is) (plan-ok g s m left)

-- a descriptor's length is a 32-bit number, since memory is of bytes
pub length-bound : (m : List ℕ) (address : ℕ) → Bytes m → address + 16 ≤ length m → (entry_at m address).length < 2 ^ 32
unfolding entry_at
length-bound m address bytes there = word_bound 4 (address + 8) m (omega arith) bytes
