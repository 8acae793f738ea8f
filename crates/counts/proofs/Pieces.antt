-- The pieces of a period see guest memory through the stream's own descriptor list alone, and its list of positions not at all: over two memories that agree there, and from two streams that differ in their
-- frame time alone, they do the same. Assumes nothing.
use Prim.Native.Nat.{ℕ, zero, suc, ◌+◌, ◌-◌, ◌*◌, ◌/◌, ◌≤◌, ◌<◌}
use mathlib.Core.Path.{◌≡◌, refl, sym}
use mathlib.Core.Bool.{Bool, true, false, true≢false}
use mathlib.Core.List.{List}
use native.Mathlib.Omega.{arith}
use borrow.Author.Tests.{ltb-false}
use lib.Dec.{ltb}
use lib.ListN.{length, take, drop, length-take}
use Rattle.word.proofs.Choices.{by-test}
use Rattle.std.specs.Prelude.{Option, None, Some, Ok, Err}
use Rattle.memory.specs.declared.Descriptor.{Descriptor}
use Rattle.memory.specs.Memory.{entry_at, descriptor_of}
use Rattle.stream.specs.declared.Stream.{Stream}
use Rattle.stream.specs.declared.Cyclic.{Cyclic}
use Rattle.plan.specs.declared.End.{End}
use Rattle.plan.specs.declared.End.TheVariants.{Inside, Plain, Flagged}
use Rattle.plan.specs.Plans.{Plan, by_limit}
use Rattle.plan.specs.Plans.{descriptor_at, end_of, placed_of, entry_of, fetched_of, plan_of}
use Rattle.pieces.specs.Pieces.{EndOk, next_of, list_of, memory_of, pcm_of, State, state_of, Out, out_of, done_of, piece_of, onward, pieces_of}
use Rattle.pieces.proofs.Plans.{PlanOk, plan-ok}
use Rattle.turn.specs.Engines.{with_fraction}
use Rattle.counts.specs.Counts.{Agree, Pending}
use Rattle.counts.proofs.Lists.{pending-push}
use Rattle.counts.proofs.Agree.{agree-put, agree-descriptor}

-- the descriptor list of a cyclic buffer lies in the set
pub record Listed (P : ℕ → Type 0) (g : Cyclic) : Type 0 where
  pub entry : (d : ℕ) → d ≤ g.lvi → (p : ℕ) → g.bdl / 128 * 128 + 16 * d ≤ p → p < g.bdl / 128 * 128 + 16 * d + 16 → P p

-- outcomes that differ in the frame time, in memory outside of the set, and in the samples that a playback read
pub record OutAlike (P : ℕ → Type 0) (g : Cyclic) (f : ℕ) (o o' : Out) : Type 0 where
  pub ok : o.ok ≡ o'.ok
  pub full : o.full ≡ o'.full
  pub stream : with_fraction o.state.stream f ≡ o'.state.stream
  pub list : Pending o.state.stream.pending o.state.list o'.state.list
  pub done : o.state.done ≡ o'.state.done
  pub memory : Agree P o.state.memory o'.state.memory
  pub pcm : g.capture ≡ true → o.state.pcm ≡ o'.state.pcm

next-fraction : (s : Stream) (lvi n f : ℕ) (end : End) → next_of (with_fraction s f) lvi n end ≡ with_fraction (next_of s lvi n end) f
next-fraction s lvi n f Inside = refl
next-fraction s lvi n f Plain = refl
next-fraction s lvi n f Flagged = refl

list-alike : (l l' : List ℕ) (s : Stream) (lvi n f : ℕ) (end : End) → EndOk s end → Pending s.pending l l' → Pending (next_of s lvi n end).pending (list_of l s n end) (list_of l' (with_fraction s f) n end)
list-alike l l' s lvi n f Inside room p = p
list-alike l l' s lvi n f Plain room p = p
list-alike l l' s lvi n f Flagged room p = pending-push s.pending l l' p (s.submitted + n) room

fetched-fraction : (g : Cyclic) (s : Stream) (f size left : ℕ) (x : Option Descriptor) → fetched_of g (with_fraction s f) size left x ≡ fetched_of g s size left x
unfolding entry_of placed_of end_of
fetched-fraction g s f size left None = refl
fetched-fraction g s f size left (Some d) = refl

module _ (P : ℕ → Type 0) (g : Cyclic) (listed : Listed P g) where
  pub plan-alike : (s : Stream) (f : ℕ) (m m' : List ℕ) (left : ℕ) → Agree P m m' → plan_of g s m left ≡ plan_of g (with_fraction s f) m' left
  unfolding plan_of
  plan-alike s f m m' left a =
      by-test (ltb g.lvi s.descriptor) (λ t. rw t) (λ t.
      let d : s.descriptor ≤ g.lvi = ltb-false g.lvi s.descriptor t in
      rw (t, a.long, agree-descriptor P m m' a (descriptor_at g s) (listed.entry s.descriptor d)) (sym (fetched-fraction g s f (length m') left (descriptor_of m' (descriptor_at g s)))))

  memory-alike : (c : Bool) (m m' pcm pcm' : List ℕ) (at done n : ℕ) → Agree P m m' → (c ≡ true → pcm ≡ pcm') → at + n ≤ length m
      → Agree P (memory_of c m at pcm done n) (memory_of c m' at pcm' done n)
  memory-alike true m m' pcm pcm' at done n a same fits =
      rw (← same refl) (agree-put P m m' a at (take n (drop done pcm)) (omega (arith, length-take n (drop done pcm))))
  memory-alike false m m' pcm pcm' at done n a same fits = a

  pcm-alike : (c : Bool) (m m' pcm pcm' : List ℕ) (at done n : ℕ) → (c ≡ true → pcm ≡ pcm') → c ≡ true → pcm_of c m at pcm done n ≡ pcm_of c m' at pcm' done n
  pcm-alike true m m' pcm pcm' at done n same e = same refl
  pcm-alike false m m' pcm pcm' at done n same e = absurd (true≢false (sym e))

  -- all the pieces
  module _ (count f : ℕ) where
    abbrev Alike : Out → Out → Type 0
    Alike = OutAlike P g f

    stays : (ok full : Bool) (s : Stream) (l l' m m' pcm pcm' : List ℕ) (done : ℕ) → Pending s.pending l l' → Agree P m m' → (g.capture ≡ true → pcm ≡ pcm')
        → Alike (out_of ok full (state_of s l m pcm done)) (out_of ok full (state_of (with_fraction s f) l' m' pcm' done))
    stays ok full s l l' m m' pcm pcm' done p a same = record { ok = refl; full = refl; stream = refl; list = p; done = refl; memory = a; pcm = same }

    -- one piece by its plan, and what follows it
    planned : (rest : State → Out) (p : Plan) (s : Stream) (l l' m m' pcm pcm' : List ℕ) (done : ℕ) → Pending s.pending l l' → Agree P m m' → (g.capture ≡ true → pcm ≡ pcm')
        → PlanOk g s (length m) (count - done) (entry_at m (descriptor_at g s)) p
        → ((s₁ : Stream) (l₁ l₁' m₁ m₁' pcm₁ pcm₁' : List ℕ) (done₁ : ℕ) → Pending s₁.pending l₁ l₁' → Agree P m₁ m₁' → (g.capture ≡ true → pcm₁ ≡ pcm₁')
        → Alike (rest (state_of s₁ l₁ m₁ pcm₁ done₁)) (rest (state_of (with_fraction s₁ f) l₁' m₁' pcm₁' done₁)))
        → let x = state_of s l m pcm done in let y = state_of (with_fraction s f) l' m' pcm' done in
        Alike (onward (done_of g x p).ok (done_of g x p) rest) (onward (done_of g y p).ok (done_of g y p) rest)
    unfolding done_of
    planned rest (Err stop) s l l' m m' pcm pcm' done p a same k go = stays false (by_limit stop) s l l' m m' pcm pcm' done p a same
    planned rest (Ok move) s l l' m m' pcm pcm' done p a same k go =
        let n = move.n in
        let end = move.end in
        rw (next-fraction s g.lvi n f end)
        (go (next_of s g.lvi n end) (list_of l s n end) (list_of l' (with_fraction s f) n end) _ _ _ _ (done + n) (list-alike l l' s g.lvi n f end k.room p)
        (memory-alike g.capture m m' pcm pcm' move.at done n a same k.within) (pcm-alike g.capture m m' pcm pcm' move.at done n same))

    pub pieces-alike : (fuel : ℕ) (s : Stream) (l l' m m' pcm pcm' : List ℕ) (done : ℕ) → Pending s.pending l l' → Agree P m m' → (g.capture ≡ true → pcm ≡ pcm')
        → Alike (pieces_of fuel g count (state_of s l m pcm done)) (pieces_of fuel g count (state_of (with_fraction s f) l' m' pcm' done))
    unfolding pieces_of piece_of
    pieces-alike zero s l l' m m' pcm pcm' done p a same = stays true false s l l' m m' pcm pcm' done p a same
    pieces-alike (suc fuel) s l l' m m' pcm pcm' done p a same =
        by-test (ltb done count)
        (λ t. rw (t, ← plan-alike s f m m' (count - done) a)
        (planned (pieces_of fuel g count) (plan_of g s m (count - done)) s l l' m m' pcm pcm' done p a same (plan-ok g s m (count - done)) (pieces-alike fuel)))
        (λ t. rw t (stays true false s l l' m m' pcm pcm' done p a same))
