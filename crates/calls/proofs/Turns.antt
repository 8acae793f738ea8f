-- A turn and a stream's failure keep the register file, and a turn keeps the length of its part of the queues: the status stays a byte, and a transfer has what it
-- requires. Assumes nothing.
use Prim.Native.Nat.{ℕ, zero, suc, ◌*◌, ◌≤◌, ◌<◌}
use mathlib.Core.Path.{◌≡◌, refl, ◌∙◌}
use mathlib.Core.Bool.{Bool, true, false}
use mathlib.Core.List.{List}
use native.Mathlib.Omega.{arith}
use lib.Bits.{bit_or, or_lt}
use lib.Dec.{eqb}
use lib.ListN.{length}
use Rattle.word.specs.Place.{word_at}
use Rattle.word.proofs.Choices.{by_cond}
use Rattle.clock.proofs.Theorems.{accrue-bound}
use Rattle.clock.specs.Frames.{remainder_of}
use Rattle.std.specs.Prelude.{Option, None, Some}
use Rattle.format.specs.Format.{format_of}
use Rattle.codec.specs.declared.Codec.{Codec}
use Rattle.stream.specs.declared.Stream.{Stream}
use Rattle.stream.specs.Box.{streams}
use Rattle.stream.specs.Streams.{list_size, valid_of}
use Rattle.stream.specs.Update.{update_of}
use Rattle.stream.proofs.Validity.{valid-parts, parts-valid}
use Rattle.queue.specs.Queues.{capacity, closed, valid_queue, latency_of}
use Rattle.queue.proofs.Validity.{queue-bound}
use Rattle.host.specs.declared.Host.{Host}
use Rattle.host.specs.Hosts as hosts
use Rattle.host.specs.Hosts.{Opening, queue_at}
use Rattle.host.proofs.Validity.{with-queue-valid}
use Rattle.transfer.proofs.Facts.{transfer-lengths}
use Rattle.registers.specs.Places.{ctl, sts, lpib, fmt}
use Rattle.registers.proofs.Files.{File, file-set, file-store, file-keep}
use Rattle.turn.specs.declared.Setup.{Setup}
use Rattle.turn.specs.declared.Engine.{Engine}
use Rattle.turn.specs.Setups.{setup_of}
use Rattle.turn.specs.Engines.{Work, work_of, engine, with_fraction, stopped_of, moved_on, updated_of, with_updated, frames_of, transferred_of, transfer_at, settled_of, round_of, again, rounds_of, accrued_of, due_of, timed_of, served_of}
use Rattle.turn.specs.Turns.{open_stream_of, engine_of, store_engine, Turn, formatted_of, turn_of}
use Rattle.turn.specs.Failures.{Channel, error_of}
use Rattle.turn.proofs.Facts.{frames-few, publish-by}
use Rattle.turn.proofs.Rounds.{updated-keeps, round_keeps}
use Rattle.turn.proofs.Turns.{open-queue}
use Rattle.turn.proofs.Validity.{Sound, sound-kept}

-- an engine put back into the registers, where its status is a byte
abbrev Byte : Engine → Type 0
Byte e = e.status < 256

engine-file : (i : ℕ) (e : Engine) (regs : List ℕ) → i < streams → Byte e → File regs → File (store_engine i e regs)
unfolding store_engine
engine-file i e regs few small f =
    let stored = file-store 4 (lpib i) e.position (omega arith) (file-set (sts i) e.status small f) in
    by_cond File e.running _ _ (λ _. stored) (λ _. file-keep (ctl i) 0xfd stored)

-- each step sets bits of the status alone
stopped-byte : (e : Engine) → Byte e → Byte (stopped_of e)
unfolding stopped_of
stopped-byte e h = or_lt 8 e.status 0x10 h (omega arith)

module _ (g : Setup) where
  updated-byte : (e : Engine) (l m : List ℕ) → Byte e → Byte (updated_of g e l m).engine
  unfolding updated_of
  updated-byte e l m h =
      let u = update_of e.stream l (latency_of e.queue g.cyclic.capture g.downstream) in
      let e' = moved_on g e u.updated.stream u.updated.completed in
      let moved : Byte e' = by_cond (λ (n : ℕ). n < 256) u.updated.completed (bit_or e.status 4) e.status (λ _. or_lt 8 e.status 4 h (omega arith)) (λ _. h) in
      publish-by g e' m Byte moved (stopped-byte e' moved)

  round-byte : (x : Work) → Byte x.engine → Byte (round_of g x).engine
  unfolding round_of settled_of
  round-byte x h =
      let e = x.engine in
      let n = frames_of g e in
      let t = transfer_at g x n in
      let e' = transferred_of e t.transferred.stream t.transferred.queue n in
      by_cond (λ u. Byte u.engine) t.transferred.ok (updated_of g e' t.list t.memory) _
      (λ _. updated-byte e' t.list t.memory (or_lt 8 e.status 0x20 h (omega arith)))
      (λ _. stopped-byte (engine e.running e.status e.position t.transferred.stream t.transferred.queue) h)

  -- a list and a part of their sizes, a valid stream and queue, and a status that is a byte: a turn's work keeps them all
  module _ (size space : ℕ) (long : list_size ≤ size) (room : capacity ≤ space) where
    record Working (x : Work) : Type 0 where
      sound : Sound size x.engine.stream x.engine.queue x.list
      part : length x.part ≡ space
      status : Byte x.engine

    round-part : (x : Work) → Working x → length (round_of g x).part ≡ space
    unfolding round_of
    round-part x w =
        let e = x.engine in
        let n = frames_of g e in
        (transfer-lengths g.cyclic e.stream e.queue g.connected g.left g.right x.list x.part x.memory (4 * n)
        (record {
          short = omega (arith, (frames-few g e).1);
          queued = queue-bound e.queue w.sound.queue;
          long = omega (arith, w.sound.sized);
          space = omega (arith, w.part);
        })
        ).1
        ∙ w.part

    round-working : (x : Work) → Working x → Working (round_of g x)
    round-working x w =
        record { sound = round_keeps (Sound size) (sound-kept size long) g x w.sound; part = round-part x w; status = round-byte x w.status }

    again-working : (b : Bool) (x : Work) (rest : Work → Work) → ((y : Work) → Working y → Working (rest y)) → Working x → Working (again b g x rest)
    again-working true x rest more w = w
    again-working false x rest more w = more (round_of g x) (round-working x w)

    rounds-working : (fuel : ℕ) (x : Work) → Working x → Working (rounds_of fuel g x)
    unfolding rounds_of
    rounds-working zero x w = w
    rounds-working (suc fuel) x w = again-working (eqb (frames_of g x.engine) 0) x (rounds_of fuel g) (rounds-working fuel) w

    served-working : (rate nanos : ℕ) (x : Work) → Working x → Working (served_of g rate nanos x)
    unfolding served_of
    served-working rate nanos x w =
        let y = with_updated (updated_of g x.engine x.list x.memory) x.part in
        let sound = updated-keeps (Sound size) (sound-kept size long) g x.engine x.list x.memory w.sound in
        let status = updated-byte x.engine x.list x.memory w.status in
        let s = y.engine.stream in
        let e = accrued_of rate nanos y.engine in
        by_cond Working y.engine.running (timed_of g rate nanos y) y
        (λ _. rounds-working (due_of e) (work_of e y.list y.part y.memory) (record {
          sound = (sound-kept size long).times s y.engine.queue y.list _ (λ _. accrue-bound rate nanos s.fraction) sound;
          part = w.part;
          status = status;
        }))
        (λ _. record { sound = sound; part = w.part; status = status })

-- what a turn leaves
module _ (regs : List ℕ) (codec : Codec) (h : Host) (microphone : Bool) (i nanos limit : ℕ) (s : Stream) (l part m : List ℕ) (few : i < streams) (file : File regs)
    (long : list_size ≤ length l) (room : capacity ≤ length part) (stream : valid_of s l ≡ true) (queue : valid_queue (queue_at h i) ≡ true) where
  abbrev Filed : Turn → Type 0
  Filed t = File t.regs × (length t.part ≡ length part)

  pub turn-file : Filed (turn_of regs codec h microphone i nanos limit s l part m)
  unfolding turn_of
  turn-file = go (format_of (word_at 2 (fmt i) regs))
    where
      o : Opening
      o = open_stream_of h microphone i

      opened : Sound (length l) s (queue_at o.host i) l
      opened =
          let before : Sound (length l) s (queue_at h i) l = record { sized = refl; stream = stream; queue = queue } in
          open-queue h microphone i (λ q. Sound (length l) s q l) before (λ live. (sound-kept (length l) long).empties s (queue_at h i) l live before)

      go : (f : Option ℕ) → Filed (formatted_of regs codec h microphone i nanos limit s l part m f)
      go None = (engine-file i (stopped_of (engine_of regs h i s)) regs few (stopped-byte (engine_of regs h i s) (file.bytes (sts i))) file, refl)
      go (Some rate) =
          let e = engine_of regs o.host i s in
          let g = setup_of regs codec i o.host.downstream limit in
          let w = served-working g (length l) (length part) long room rate nanos (work_of e l part m) (record {
            sound = opened;
            part = refl;
            status = file.bytes (sts i);
          }) in
          by_cond Filed o.ok _ _ (λ _. (engine-file i (served_of g rate nanos (work_of e l part m)).engine regs few w.status file, w.part))
          (λ _. (engine-file i (stopped_of e) regs few (stopped-byte e (file.bytes (sts i))) file, refl))

-- a stream that keeps only the remainder of its time stays valid
pub remainder-valid : (s : Stream) (l : List ℕ) → valid_of s l ≡ true → valid_of (with_fraction s (remainder_of s.fraction)) l ≡ true
remainder-valid s l valid =
    let v = valid-parts s l valid in
    parts-valid _ _ (record { few = v.few; rises = v.rises; listed = v.listed; heard = v.heard; time = omega arith })

-- a step on a stream outside a turn: the register file, the stream with its list, and the host end
pub record Whole (l : List ℕ) (x : Channel) : Type 0 where
  pub file : File x.regs
  pub stream : valid_of x.attached.stream l ≡ true
  pub host : hosts.valid_of x.attached.host ≡ true

-- a failure keeps them
pub error-whole : (i : ℕ) (l : List ℕ) (x : Channel) → i < streams → Whole l x → Whole l (error_of i x)
unfolding error_of stopped_of
error-whole i l x few w =
    let e = engine_of x.regs x.attached.host i x.attached.stream in
    record {
      file = engine-file i (stopped_of e) x.regs few (stopped-byte e (w.file.bytes (sts i))) w.file;
      stream = remainder-valid x.attached.stream l w.stream;
      host = with-queue-valid x.attached.host i closed w.host refl;
    }
