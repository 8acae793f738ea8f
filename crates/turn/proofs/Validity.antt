-- A valid stream and a valid queue stay valid through a turn, whatever registers, codec, host switches, time and memory are: what document 01's numbers 6 to 9
-- ask of them. Assumes nothing.
use Prim.Native.Nat.{ℕ, ◌*◌, ◌≤◌}
use mathlib.Core.Path.{◌≡◌, refl, ◌∙◌}
use mathlib.Core.Bool.{Bool, true, false, not, ◌&&◌}
use mathlib.Core.List.{List}
use native.Mathlib.Omega.{arith}
use lib.ListN.{length}
use Rattle.word.proofs.Choices.{by_cond}
use Rattle.word.proofs.Lists.{at_set}
use Rattle.codec.specs.declared.Codec.{Codec}
use Rattle.stream.specs.declared.Stream.{Stream}
use Rattle.stream.specs.Box.{captures}
use Rattle.stream.specs.Streams.{list_size, valid_of}
use Rattle.plan.proofs.Laws.{ready-byte}
use Rattle.pieces.specs.Pieces.{state_of}
use Rattle.pieces.proofs.Facts.{pieces-list-length}
use Rattle.pieces.proofs.Validity.{pieces-valid}
use Rattle.stream.proofs.Validity.{valid-parts, parts-valid, update-list-length, update-valid}
use Rattle.queue.specs.declared.Queue.{Queue}
use Rattle.host.specs.declared.Host.{Host}
use Rattle.queue.specs.Queues.{queue, closed, valid_queue}
use Rattle.host.specs.Hosts as hosts
use Rattle.host.specs.Hosts.{Opening, queue_at, opening_of, open_of}
use Rattle.host.proofs.Checks.{valid-queue}
use Rattle.queue.proofs.Validity.{put-valid, take-valid}
use Rattle.host.proofs.Validity.{with-queue-valid, open-valid}
use Rattle.turn.specs.Engines.{with_fraction}
use Rattle.turn.specs.Turns.{open_stream_of, Turn, turn_of}
use Rattle.turn.proofs.Facts.{transfer-stream, transfer-queue}
use Rattle.turn.proofs.Rounds.{Kept}
use Rattle.turn.proofs.Turns.{turn_by}

-- a list of a size, the stream valid with it, and the queue valid
pub record Sound (size : ℕ) (s : Stream) (q : Queue) (l : List ℕ) : Type 0 where
  pub sized : length l ≡ size
  pub stream : valid_of s l ≡ true
  pub queue : valid_queue q ≡ true

-- every step of a turn keeps that
module _ (size : ℕ) (long : list_size ≤ size) where
  pub sound-kept : Kept (Sound size)
  sound-kept =
      record {
        times = λ s q l fraction within v.
            let p = valid-parts s l v.stream in
            record {
              sized = v.sized;
              stream = parts-valid (with_fraction s fraction) l
                  (record { few = p.few; rises = p.rises; listed = p.listed; heard = p.heard; time = within p.time });
              queue = v.queue;
            };
        empties = λ s q l live v. record { sized = v.sized; stream = v.stream; queue = empty live };
        updates = λ s q l latency v.
            let few = (valid-parts s l v.stream).few in
            record {
              sized = update-list-length s l latency few (omega (arith, v.sized)) ∙ v.sized;
              stream = update-valid s l latency (omega (arith, v.sized)) v.stream;
              queue = v.queue;
            };
        moves = λ g s q connected left right l part m n v.
            let room : list_size ≤ length l = omega (arith, v.sized) in
            let moved = transfer-stream g s q connected left right l part m (4 * n) (λ s' l'. (length l' ≡ size) × (valid_of s' l' ≡ true)) (v.sized, v.stream)
            (λ pcm ready. (pieces-list-length g (4 * n) (4 * n) (state_of s l m pcm 0) room ∙ v.sized, pieces-valid g (4 * n) (ready-byte g ready) (4 * n) (state_of s l m pcm 0) room v.stream)) in
            record {
              sized = moved.0;
              stream = moved.1;
              queue = transfer-queue g s q connected left right l part m (4 * n) (λ q'. valid_queue q' ≡ true) v.queue (take-valid q part (4 * n) v.queue (omega arith))
                  (λ pcm. put-valid q part (4 * n) v.queue (omega arith) pcm);
            };
      }
    where
      empty : (live : Bool) → valid_queue (queue live 0) ≡ true
      empty true = refl
      empty false = refl

-- an opening keeps a valid host end
pub open-stream-valid : (h : Host) (microphone : Bool) (i : ℕ) → hosts.valid_of h ≡ true → hosts.valid_of (open_stream_of h microphone i).host ≡ true
unfolding open_stream_of
open-stream-valid h microphone i v =
    by_cond (λ (o : Opening). hosts.valid_of o.host ≡ true) (captures i && not microphone) (opening_of true h) (open_of h i) (λ _. v) (λ _. open-valid h v i)

module _ (regs : List ℕ) (codec : Codec) (h : Host) (microphone : Bool) (i nanos limit : ℕ) (s : Stream) (l part m : List ℕ) (long : list_size ≤ length l) (stream : valid_of s l ≡ true) where
  abbrev after : Turn
  after = turn_of regs codec h microphone i nanos limit s l part m

  -- a turn keeps the stream and its list valid, the list's length, and the queue valid
  pub turn-valid : valid_queue (queue_at h i) ≡ true → Sound (length l) after.turned.stream (queue_at after.turned.host i) after.list
  turn-valid queue =
      turn_by (Sound (length l)) (sound-kept (length l) long) (λ _. Unit {0}) (λ t. Sound (length l) t.turned.stream (queue_at t.turned.host i) t.list) regs i
      (λ refused h' x _ v. record { sized = v.sized; stream = v.stream; queue = at_set (λ q. valid_queue q ≡ true) h'.queues i x.engine.queue closed v.queue refl })
      codec h microphone nanos limit s l part m tt tt (record { sized = refl; stream = stream; queue = queue })

  -- so consumed never passes submitted
  pub turn-heard : valid_queue (queue_at h i) ≡ true → after.turned.stream.consumed ≤ after.turned.stream.submitted
  turn-heard queue = (valid-parts _ _ (turn-valid queue).stream).heard

  -- and it keeps the host end valid
  pub turn-host-valid : hosts.valid_of h ≡ true → hosts.valid_of after.turned.host ≡ true
  turn-host-valid v =
      turn_by (Sound (length l)) (sound-kept (length l) long) (λ h'. hosts.valid_of h' ≡ true) (λ t. hosts.valid_of t.turned.host ≡ true) regs i
      (λ refused h' x hv sound. with-queue-valid h' i x.engine.queue hv sound.queue)
      codec h microphone nanos limit s l part m v (open-stream-valid h microphone i v) (record { sized = refl; stream = stream; queue = valid-queue h v i })
