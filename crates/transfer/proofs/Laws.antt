-- Silence, a ready cyclic buffer, and what is queued from what its calls leave. Assumes nothing.
use Prim.Native.Nat.{ℕ, zero, suc, ◌+◌, ◌%◌, ◌≤◌, ◌<◌}
use mathlib.Core.Path.{◌≡◌, refl, sym, ap, ◌∙◌}
use mathlib.Core.Bool.{Bool, true, false, cond, true≢false}
use mathlib.Core.List.{List, ◌∷◌, ◌++◌}
use native.Mathlib.Omega.{arith}
use borrow.Author.Tests.{eqb-false}
use lib.Dec.{leb, eqb}
use lib.ListN.{length, take, drop, length-replicate, length-drop}
use lib.Seq.{length-take-le}
use Rattle.word.specs.Place.{put_at}
use Rattle.word.proofs.Puts.{put-lent}
use Rattle.word.proofs.Choices.{by_cond, if-true}
use Rattle.gain.specs.Gain.{gain_of, amplified_of}
use Rattle.gain.proofs.Laws.{amplified-length}
use Rattle.stream.specs.declared.Cyclic.{Cyclic}
use Rattle.plan.specs.Plans.{ready_of}
use Rattle.queue.specs.declared.Queue.{Queue}
use Rattle.queue.specs.Queues.{queue, fitting_of, put_of, take_of}
use Rattle.transfer.specs.Transfers.{silence, taken_of, heard_of, queued_in, queued_by}

pub take-silence : (n k : ℕ) → n ≤ k → take n (silence k) ≡ silence n
take-silence zero k h = refl
take-silence (suc n) zero h = absurd (omega arith)
take-silence (suc n) (suc k) h = ap (λ (l : List ℕ). 0 ∷ l) (take-silence n k (omega arith))

pub length-silence : (n : ℕ) → length (silence n) ≡ n
length-silence n = length-replicate n 0

pub silent-length : (l : List ℕ) (n : ℕ) → l ≡ silence n → length l ≡ n
silent-length l n e = ap length e ∙ length-silence n

pub silent-own : (l : List ℕ) (n : ℕ) → l ≡ silence n → l ≡ silence (length l)
silent-own l n e = e ∙ ap silence (sym (silent-length l n e))

-- a ready cyclic buffer has bytes
nonzero : (b y : Bool) (n : ℕ) → eqb n 0 ≡ b → cond b false y ≡ true → 0 < n
nonzero true y n e h = absurd (true≢false (sym h))
nonzero false y n e h = omega (arith, eqb-false n 0 e)

pub ready-cyclic : (g : Cyclic) → ready_of g ≡ true → 0 < g.cbl
unfolding ready_of
ready-cyclic g h = nonzero (eqb g.cbl 0) (cond (eqb (g.cbl % 4) 0) (leb g.lvi 255) false) g.cbl refl h

-- what is left in the queue is no more than there was
pub taken-few : (connected : Bool) (q : Queue) (part : List ℕ) (count n : ℕ) → q.length ≤ n → (taken_of connected q part count).queue.length ≤ n
unfolding take_of
taken-few true q part count n h = omega (arith, h)
taken-few false q part count n h = h

-- what is heard is as long as the samples
heard-length : (connected : Bool) (left right : ℕ) (pcm : List ℕ) → length (heard_of connected left right pcm (length pcm)) ≡ length pcm
heard-length connected left right pcm =
    by_cond (λ (b : List ℕ). length b ≡ length pcm) connected (amplified_of (gain_of left) (gain_of right) pcm) (silence (length pcm)) (λ _. amplified-length (gain_of left) (gain_of right) pcm)
    (λ _. length-silence (length pcm))

-- what `queued` leaves where it plays: as much of what is heard as fits; `count`, `j` and `into` are its count, the length of its place and the place, as the code computes them
module _ (plays : Bool) (q : Queue) (connected : Bool) (left right : ℕ) (part pcm : List ℕ) where
  pub queued-put : (q' : Queue) (count j : ℕ) (into : List ℕ) → plays ≡ true → count ≡ fitting_of q (length pcm) → q' ≡ queue q.live (q.length + count) → j ≡ count
      → q.length + count ≤ length part → count ≤ length pcm → into ≡ take (length (take j (drop q.length part))) (heard_of connected left right pcm (length pcm))
      → queued_in q' (take q.length part ++ (into ++ drop j (drop q.length part))) pcm ≡ queued_by plays q connected left right part pcm
  unfolding put_of
  queued-put q' count j into e ec eq ej room fits is =
      let heard = heard_of connected left right pcm (length pcm) in
      let rest : List ℕ = drop q.length part in
      let own : length (take j rest) ≡ count = ap (λ (k : ℕ). length (take k rest)) ej ∙ length-take-le count rest (omega (arith, length-drop q.length part)) in
      let front : into ≡ take count heard = is ∙ ap (λ (k : ℕ). take k heard) own in
      let long : length into ≡ j = ap length front ∙ length-take-le count heard (omega (arith, heard-length connected left right pcm)) ∙ sym ej in
      let there = put-lent q.length j into part long ∙ ap (λ (l : List ℕ). put_at q.length l part) front in
      ap (λ (l : List ℕ). queued_in q' l pcm) there
      ∙ ap (λ (x : Queue). queued_in x (put_at q.length (take count heard) part) pcm) eq
      ∙ ap (λ (n : ℕ). queued_in (queue q.live (q.length + n)) (put_at q.length (take n heard) part) pcm) ec
      ∙ if-true _ (queued_in q part pcm) e refl
