-- With both switches off no opening is refused, so that no case ends early: `advance` answers 0 at every time. Assumes nothing.
use Prim.Native.Nat.{ℕ}
use mathlib.Core.Path.{◌≡◌, refl, sym, ap, ◌∙◌}
use mathlib.Core.Bool.{Bool, true, false, not, ◌&&◌, true≢false}
use mathlib.Core.List.{List}
use Rattle.word.specs.Place.{word_at}
use Rattle.word.proofs.Choices.{by_cond}
use Rattle.word.proofs.Each.{each-keeps-until}
use Rattle.std.specs.Prelude.{Option, None, Some}
use Rattle.format.specs.Format.{format_of}
use Rattle.codec.specs.declared.Codec.{Codec}
use Rattle.stream.specs.declared.Stream.{Stream}
use Rattle.stream.specs.Box.{streams, captures}
use Rattle.host.specs.declared.Host.{Host}
use Rattle.host.specs.Hosts.{Opening, queue_at, with_queue, fails_of, opening_of, open_of}
use Rattle.queue.specs.Queues.{queue}
use Rattle.registers.specs.Places.{fmt, dma_of}
use Rattle.turn.specs.Turns.{open_stream_of, Turn, formatted_of, turn_of}
use Rattle.device.specs.Machines.{Machine, Done, check_machine, unchanged, finished, finish_of, answer_of, commanded_of, with_commanded}
use Rattle.serve.specs.Serve.{runs, Turns, turns_of, turn_at, goes_on, serve_of}
use Rattle.advance.specs.Advance.{number_of, served_of, ticked_of, still_of, after_commands, advance_step, advance_of}
use Rattle.jitter.specs.Bounds.{switched_off}

-- both switches off
pub record Off (h : Host) : Type 0 where
  pub playback : h.playback ≡ false
  pub capture : h.capture ≡ false

fails-none : (h : Host) (i : ℕ) → Off h → fails_of h i ≡ false
fails-none h i off = by_cond (λ (b : Bool). b ≡ false) (captures i) h.capture h.playback (λ _. off.capture) (λ _. off.playback)

-- an opening then succeeds, and leaves them off
opens : (h : Host) (microphone : Bool) (i : ℕ) → Off h → ((open_stream_of h microphone i).ok ≡ true) × Off (open_stream_of h microphone i).host
unfolding open_stream_of open_of
opens h microphone i off =
    let P : Opening → Type 0 = λ o. (o.ok ≡ true) × Off o.host in
    by_cond P (captures i && not microphone) (opening_of true h) (open_of h i) (λ _. (refl, off))
    (λ _. by_cond P (queue_at h i).live (opening_of true h) _ (λ _. (refl, off))
    (λ _. by_cond P (fails_of h i) (opening_of false h) (opening_of true (with_queue h i (queue true 0))) (λ bad. absurd (true≢false (sym bad ∙ fails-none h i off)))
    (λ _. (refl, record { playback = off.playback; capture = off.capture }))))

-- so does a turn
module _ (regs : List ℕ) (codec : Codec) (h : Host) (microphone : Bool) (i nanos limit : ℕ) (s : Stream) (l part m : List ℕ) (off : Off h) where
  turn-opens : let t = turn_of regs codec h microphone i nanos limit s l part m in (t.turned.refused ≡ false) × Off t.turned.host
  unfolding turn_of
  turn-opens = go (format_of (word_at 2 (fmt i) regs))
    where
      o : ((open_stream_of h microphone i).ok ≡ true) × Off (open_stream_of h microphone i).host
      o = opens h microphone i off

      P : Turn → Type 0
      P t = (t.turned.refused ≡ false) × Off t.turned.host

      go : (f : Option ℕ) → P (formatted_of regs codec h microphone i nanos limit s l part m f)
      go None = (refl, record { playback = off.playback; capture = off.capture })
      go (Some rate) =
          by_cond P (open_stream_of h microphone i).ok _ _ (λ _. (refl, record { playback = o.1.playback; capture = o.1.capture })) (λ no. absurd (true≢false (sym o.0 ∙ no)))

abbrev Opened : Turns → Type 0
Opened w = (w.refused ≡ false) × Off w.machine.host

turn_at_lem : (nanos i : ℕ) (w : Turns) → Opened w → Opened (turn_at nanos i w)
unfolding turn_at
turn_at_lem nanos i w k = by_cond Opened (runs w.machine.hda.regs i) _ w (λ _. turn-opens _ _ _ _ i nanos _ _ _ _ _ k.1) (λ _. k)

serves : (nanos : ℕ) (x : Machine) → Off x.host → (serve_of nanos x).refused ≡ false
unfolding serve_of
serves nanos x off = (each-keeps-until Opened goes_on (turn_at nanos) streams (λ i w _ k. turn_at_lem nanos i w k) streams 0 (turns_of false x) refl (refl, off)).0

pub never-refused : (nanos : ℕ) (x : Machine) → check_machine (switched_off x) ≡ 0 → (advance_of nanos (switched_off x)).answer.number ≡ 0
unfolding advance_of advance_step after_commands finish_of answer_of
never-refused nanos x passes =
    let y = switched_off x in
    let off : Off y.host = record { playback = refl; capture = refl } in
    let z = with_commanded y y.host (commanded_of (ticked_of nanos y.hda) y.memory) in
    let P : Done → Type 0 = λ d. d.answer.number ≡ 0 in
    rw passes
    (by_cond P (still_of y.hda) (unchanged 0 y) (after_commands nanos z) (λ _. refl)
    (λ _. by_cond P (dma_of z.hda.config z.hda.regs) (served_of (serve_of nanos z)) (finished 0 z) (λ _. ap number_of (serves nanos z off)) (λ _. refl)))
