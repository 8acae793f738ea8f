-- What a stream's control byte brings about keeps the register file, the stream valid with its list, and the host end valid: a reset stream is fresh, and a stopped
-- one keeps only the remainder of its time. Assumes nothing.
use Prim.Native.Nat.{ℕ, ◌<◌}
use mathlib.Core.Bool.{Bool, not, ◌&&◌}
use mathlib.Core.List.{List}
use native.Mathlib.Omega.{arith}
use Rattle.word.specs.Place.{word_at}
use Rattle.word.proofs.Choices.{by_cond}
use Rattle.std.specs.Prelude.{Option, None, Some}
use Rattle.format.specs.Format.{format_of}
use Rattle.stream.specs.Box.{streams}
use Rattle.stream.proofs.Validity.{fresh-valid}
use Rattle.host.proofs.Validity.{close-valid}
use Rattle.registers.specs.Places.{ctl, fmt, byte_at, has}
use Rattle.registers.proofs.Files.{file-set, file-reset-stream}
use Rattle.turn.specs.Turns.{open_stream_of}
use Rattle.turn.specs.Failures.{Channel, channel_of}
use Rattle.turn.proofs.Validity.{open-stream-valid}
use Rattle.control.specs.Channels.{reset_of, halted_of, started_by, started_of, settled_of}
use Rattle.calls.proofs.Turns.{Whole, remainder-valid, error-whole}

module _ (i : ℕ) (few : i < streams) (l : List ℕ) where
  pub reset-whole : (x : Channel) → Whole l x → Whole l (reset_of i x)
  unfolding reset_of
  reset-whole x w = record { file = file-reset-stream i few w.file; stream = fresh-valid l; host = close-valid x.attached.host w.host i }

  halted-whole : (x : Channel) → Whole l x → Whole l (channel_of x.regs (halted_of i x.attached))
  unfolding halted_of
  halted-whole x w =
      record { file = w.file; stream = remainder-valid x.attached.stream l w.stream; host = close-valid x.attached.host w.host i }

  module _ (microphone : Bool) where
    by-format : (x : Channel) → Whole l x → (f : Option ℕ) → Whole l (started_by microphone i x f)
    by-format x w None = error-whole i l x few w
    by-format x w (Some rate) =
        by_cond (Whole l) (open_stream_of x.attached.host microphone i).ok _ _
        (λ _. record { file = w.file; stream = w.stream; host = open-stream-valid x.attached.host microphone i w.host })
        (λ _. error-whole i l x few w)

    started-whole : (x : Channel) → Whole l x → Whole l (started_of microphone i x)
    unfolding started_of
    started-whole x w = by-format x w (format_of (word_at 2 (fmt i) x.regs))

    pub settled-whole : (before : ℕ) (x : Channel) → Whole l x → Whole l (settled_of before microphone i x)
    unfolding settled_of
    settled-whole before x w =
        let after = byte_at x.regs (ctl i) in
        let r = reset-whole x w in
        by_cond (Whole l) (has 1 after) _ _ (λ _. record { file = file-set (ctl i) 1 (omega arith) r.file; stream = r.stream; host = r.host })
        (λ _. by_cond (Whole l) (has 2 before && not (has 2 after)) _ _ (λ _. halted-whole x w)
        (λ _. by_cond (Whole l) (not (has 2 before) && has 2 after) _ _ (λ _. started-whole x w) (λ _. w)))
