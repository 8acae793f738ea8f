-- Openings, that each part of a turn has what it requires, and that what every step keeps a turn keeps. Assumes nothing.
use Prim.Native.Nat.{ℕ, ◌≤◌}
use mathlib.Core.Path.{◌≡◌}
use mathlib.Core.Bool.{Bool, true, false, not, ◌&&◌}
use mathlib.Core.List.{List}
use native.Mathlib.Omega.{arith}
use Rattle.word.specs.Place.{word_at}
use Rattle.word.proofs.Choices.{by_cond}
use Rattle.word.proofs.Lists.{at_set}
use Rattle.std.specs.Prelude.{Option, Some, None}
use Rattle.format.specs.Format.{format_of}
use Rattle.codec.specs.declared.Codec.{Codec}
use Rattle.stream.specs.declared.Stream.{Stream}
use Rattle.stream.specs.Box.{captures}
use Rattle.queue.specs.declared.Queue.{Queue}
use Rattle.host.specs.declared.Host.{Host}
use Rattle.queue.specs.Queues.{capacity, queue, closed}
use Rattle.host.specs.Hosts.{Opening, opening_of, open_of, fails_of, queue_at, with_queue}
use Rattle.registers.specs.Places.{fmt}
use Rattle.turn.specs.declared.Setup.{Setup}
use Rattle.turn.specs.declared.Engine.{Engine}
use Rattle.turn.specs.Setups.{setup_of}
use Rattle.turn.specs.Engines.{Work, work_of, stopped_of, served_of}
use Rattle.turn.specs.Turns.{open_stream_of, engine_of, Turn, finished, formatted_of, turn_of, WorkNeeds, TurnNeeds}
use Rattle.turn.proofs.Rounds.{Kept, stopped-keeps, served-keeps}

-- an opened stream's queue is as it was, or empty
pub open-queue : (h : Host) (microphone : Bool) (i : ℕ) (P : Queue → Type 0) → P (queue_at h i) → ((live : Bool) → P (queue live 0))
    → P (queue_at (open_stream_of h microphone i).host i)
unfolding open_stream_of open_of
open-queue h microphone i P old empty =
    let Q : Opening → Type 0 = λ o. P (queue_at o.host i) in
    by_cond Q (captures i && not microphone) (opening_of true h) (open_of h i) (λ _. old)
    (λ _. by_cond Q (queue_at h i).live (opening_of true h) _ (λ _. old)
    (λ _. by_cond Q (fails_of h i) (opening_of false h) (opening_of true (with_queue h i (queue true 0))) (λ _. old) (λ _. at_set P h.queues i (queue true 0) closed (empty true) (empty false))))

pub open-needs : (h : Host) (microphone : Bool) (i limit : ℕ) (s : Stream) (l part : List ℕ) (o : Opening) → o ≡ open_stream_of h microphone i → TurnNeeds h i limit s l part
    → TurnNeeds o.host i limit s l part
open-needs h microphone i limit s l part o e n =
    record {
      stream = n.stream;
      pending = n.pending;
      queued = rw e (open-queue h microphone i (λ q. q.length ≤ capacity) n.queued (λ live. omega arith));
      limited = n.limited;
      long = n.long;
      space = n.space;
    }

pub work-needs : (regs : List ℕ) (codec : Codec) (h : Host) (i downstream limit : ℕ) (s : Stream) (l part : List ℕ) (g : Setup) (e : Engine)
    → g ≡ setup_of regs codec i downstream limit → e ≡ engine_of regs h i s → TurnNeeds h i limit s l part → WorkNeeds g e l part
unfolding setup_of
work-needs regs codec h i downstream limit s l part g e eg ee n =
    rw (eg, ee) record { stream = n.stream; pending = n.pending; queued = n.queued; limited = n.limited; long = n.long; space = n.space }

-- what every end of a turn has, from what every step keeps of the stream and from what holds of the host end, unopened and opened
module _ (P : Stream → Queue → List ℕ → Type 0) (kept : Kept P) (H : Host → Type 0) (Q : Turn → Type 0) (regs : List ℕ) (i : ℕ)
    (ends : (refused : Bool) (h : Host) (x : Work) → H h → P x.engine.stream x.engine.queue x.list → Q (finished refused regs h i x)) where
  pub turn_by : (codec : Codec) (h : Host) (microphone : Bool) (nanos limit : ℕ) (s : Stream) (l part m : List ℕ) → H h → H (open_stream_of h microphone i).host
      → P s (queue_at h i) l → Q (turn_of regs codec h microphone i nanos limit s l part m)
  unfolding turn_of
  turn_by codec h microphone nanos limit s l part m unopened opened holds = go (format_of (word_at 2 (fmt i) regs))
    where
      o : Opening
      o = open_stream_of h microphone i

      e : Engine
      e = engine_of regs o.host i s

      held : P s (queue_at o.host i) l
      held = open-queue h microphone i (λ q. P s q l) holds (λ live. kept.empties s (queue_at h i) l live holds)

      go : (f : Option ℕ) → Q (formatted_of regs codec h microphone i nanos limit s l part m f)
      go None = ends false h (work_of (stopped_of (engine_of regs h i s)) l part m) unopened (stopped-keeps P kept (engine_of regs h i s) l holds)
      go (Some rate) =
          let g = setup_of regs codec i o.host.downstream limit in
          by_cond Q o.ok _ _ (λ _. ends false o.host (served_of g rate nanos (work_of e l part m)) opened (served-keeps P kept g rate nanos (work_of e l part m) held))
          (λ _. ends true o.host (work_of (stopped_of e) l part m) opened (stopped-keeps P kept e l held))
