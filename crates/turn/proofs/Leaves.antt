-- What a turn leaves for those after it: its own stream and queue within their limits, a descriptor's index that is a byte, the other streams' queues as they were.
-- Assumes nothing.
use Prim.Native.Nat.{ℕ, ◌*◌, ◌≤◌}
use mathlib.Core.Path.{◌≡◌, refl, ◌∙◌}
use mathlib.Core.Bool.{Bool, true, false, not, ◌&&◌}
use mathlib.Core.List.{List}
use mathlib.Core.Logic.{◌≢◌}
use native.Mathlib.Omega.{arith}
use lib.Seq.{get_or-set_other}
use Rattle.word.proofs.Choices.{by_cond}
use Rattle.word.proofs.Lists.{at_set}
use Rattle.codec.specs.declared.Codec.{Codec}
use Rattle.stream.specs.declared.Stream.{Stream}
use Rattle.stream.specs.Streams.{places}
use Rattle.stream.specs.Box.{captures}
use Rattle.stream.specs.Update.{update_of}
use Rattle.plan.proofs.Laws.{ready-byte}
use Rattle.pieces.specs.Pieces.{state_of}
use Rattle.pieces.proofs.Validity.{pieces-listed}
use Rattle.queue.specs.declared.Queue.{Queue}
use Rattle.queue.specs.Queues.{capacity, queue, closed}
use Rattle.host.specs.declared.Host.{Host}
use Rattle.host.specs.Hosts.{Opening, opening_of, open_of, fails_of, queue_at, with_queue}
use Rattle.turn.specs.Engines.{Work}
use Rattle.turn.specs.Turns.{open_stream_of, Turn, turn_of, TurnNeeds}
use Rattle.turn.proofs.Facts.{transfer-stream}
use Rattle.turn.proofs.Rounds.{Kept, Within, within}
use Rattle.turn.proofs.Turns.{turn_by}

pub record TurnLeaves (h : Host) (i : ℕ) (t : Turn) : Type 0 where
  pub pending : t.turned.stream.pending ≤ places
  pub queued : (queue_at t.turned.host i).length ≤ capacity
  pub others : (j : ℕ) → j ≢ i → queue_at t.turned.host j ≡ queue_at h j

-- the other queues are those of a host end
abbrev Others : Host → ℕ → Host → Type 0
Others h i h' = (j : ℕ) → j ≢ i → queue_at h' j ≡ queue_at h j

others_put : (h : Host) (i : ℕ) (h' : Host) (q : Queue) → Others h i h' → Others h i (with_queue h' i q)
others_put h i h' q o j n = get_or-set_other h'.queues i j q closed n ∙ o j n

others-open : (h : Host) (microphone : Bool) (i : ℕ) → Others h i (open_stream_of h microphone i).host
unfolding open_stream_of open_of
others-open h microphone i =
    let Q : Opening → Type 0 = λ o. Others h i o.host in
    let same : Others h i h = λ j n. refl in
    by_cond Q (captures i && not microphone) (opening_of true h) (open_of h i) (λ _. same)
    (λ _. by_cond Q (queue_at h i).live (opening_of true h) _ (λ _. same)
    (λ _. by_cond Q (fails_of h i) (opening_of false h) (opening_of true (with_queue h i (queue true 0))) (λ _. same) (λ _. others_put h i h (queue true 0) same)))

pub turn-leaves : (regs : List ℕ) (codec : Codec) (h : Host) (microphone : Bool) (i nanos limit : ℕ) (s : Stream) (l part m : List ℕ) → TurnNeeds h i limit s l part
    → TurnLeaves h i (turn_of regs codec h microphone i nanos limit s l part m)
turn-leaves regs codec h microphone i nanos limit s l part m needs =
    turn_by Within within (Others h i) (TurnLeaves h i) regs i
    (λ (refused : Bool) (h' : Host) (x : Work) (o : Others h i h') (w : Within x.engine.stream x.engine.queue x.list).
    record {
      pending = w.0;
      queued = at_set (λ q. q.length ≤ capacity) h'.queues i x.engine.queue closed w.1 (omega arith);
      others = others_put h i h' x.engine.queue o;
    })
    codec h microphone nanos limit s l part m (λ j n. refl) (others-open h microphone i) (needs.pending, needs.queued)

abbrev Listed : Stream → Queue → List ℕ → Type 0
Listed s q l = s.descriptor ≤ 255

listed : Kept Listed
unfolding update_of
listed =
    record {
      times = λ s q l fraction _ h. h;
      empties = λ s q l live h. h;
      updates = λ s q l latency h. h;
      moves = λ g s q connected left right l part m n h.
          transfer-stream g s q connected left right l part m (4 * n) (λ s' l'. s'.descriptor ≤ 255) h
          (λ pcm ready. pieces-listed g (4 * n) (ready-byte g ready) (4 * n) (state_of s l m pcm 0) h);
    }

pub turn-listed : (regs : List ℕ) (codec : Codec) (h : Host) (microphone : Bool) (i nanos limit : ℕ) (s : Stream) (l part m : List ℕ) → s.descriptor ≤ 255
    → (turn_of regs codec h microphone i nanos limit s l part m).turned.stream.descriptor ≤ 255
turn-listed regs codec h microphone i nanos limit s l part m few =
    turn_by Listed listed (λ _. Unit {0}) (λ t. t.turned.stream.descriptor ≤ 255) regs i (λ refused h' x _ v. v) codec h microphone nanos limit s l part m tt tt few
