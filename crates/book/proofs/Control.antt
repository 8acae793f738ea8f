-- A register write: the controller's reset and the stream's own empty its book, starts and stops leave it, and so do the other streams'. Assumes nothing.
use Prim.Native.Nat.{ℕ, suc, ◌+◌, ◌-◌, ◌<◌}
use mathlib.Core.Path.{◌≡◌}
use mathlib.Core.Bool.{Bool, cond, not, ◌&&◌}
use mathlib.Core.List.{List, [], ◌∷◌}
use mathlib.Core.Logic.{inl, inr}
use native.Mathlib.Omega.{arith}
use Rattle.word.specs.Place.{word_at}
use Rattle.word.specs.Parts.{part_of}
use Rattle.word.specs.Each.{each_of, always}
use Rattle.word.proofs.Choices.{by_cond, by_both}
use Rattle.std.specs.Prelude.{Option, None, Some}
use Rattle.format.specs.Format.{format_of}
use Rattle.stream.specs.Box.{streams}
use Rattle.stream.specs.Streams.{list_size}
use Rattle.registers.specs.Places.{gctl, ctl, fmt, byte_at, has}
use Rattle.turn.specs.Engines.{stopped_of}
use Rattle.turn.specs.Turns.{open_stream_of}
use Rattle.turn.specs.Failures.{Channel, error_of}
use Rattle.control.specs.Channels.{reset_of, halted_of, started_by, started_of, held_of, settled_of}
use Rattle.settle.specs.declared.Ports.{Ports}
use Rattle.settle.specs.Settle.{ports, channel_at, cleared_of, reset_at, reset_controller_of, settle_at, settle_of}
use Rattle.write.specs.Writes.{controlled_of, flushed_of, tail_of}
use Rattle.book.specs.Book.{Event, reset}
use Rattle.book.specs.Events.{controller_events, settle_events}
use Rattle.book.proofs.Ghosts.{Ghost, see, sees}
use Rattle.book.proofs.Loops.{each-around}
use Rattle.book.proofs.Tied.{Tied, tied-times, tied-reset}
use Rattle.book.proofs.Machines.{Held, held-own, held-other}

-- one stream's step after a write
module _ (F : Type 0) (l : List ℕ) (a : Ghost) (i : ℕ) where
  error-tied : (x : Channel) → Tied F x.attached.stream l a → Tied F (error_of i x).attached.stream l a
  unfolding error_of stopped_of
  error-tied x t = tied-times F x.attached.stream l a _ (λ _. omega arith) t

  halted-tied : (x : Channel) → Tied F x.attached.stream l a → Tied F (halted_of i x.attached).stream l a
  unfolding halted_of
  halted-tied x t = tied-times F x.attached.stream l a _ (λ _. omega arith) t

  started-by : (microphone : Bool) (x : Channel) (f : Option ℕ) → Tied F x.attached.stream l a → Tied F (started_by microphone i x f).attached.stream l a
  started-by microphone x None t = error-tied x t
  started-by microphone x (Some r) t =
      by_cond (λ (y : Channel). Tied F y.attached.stream l a) (open_stream_of x.attached.host microphone i).ok _ (error_of i x) (λ _. t) (λ _. error-tied x t)

  started-tied : (microphone : Bool) (x : Channel) → Tied F x.attached.stream l a → Tied F (started_of microphone i x).attached.stream l a
  unfolding started_of
  started-tied microphone x t = started-by microphone x (format_of (word_at 2 (fmt i) x.regs)) t

  held-tied : (x : Channel) → Tied F x.attached.stream l a → Tied F (held_of i x).attached.stream l (see reset a)
  unfolding reset_of
  held-tied x t = tied-reset F l a t.sized t.never t.founded

  settled-tied : (before : ℕ) (microphone : Bool) (x : Channel) → Tied F x.attached.stream l a
      → Tied F (settled_of before microphone i x).attached.stream l (sees (cond (has 1 (byte_at x.regs (ctl i))) (reset ∷ []) []) a)
  unfolding settled_of
  settled-tied before microphone x t =
      let after = byte_at x.regs (ctl i) in
      let P : Channel → Type 0 = λ y. Tied F y.attached.stream l a in
      by_both (λ (y : Channel) (es : List Event). Tied F y.attached.stream l (sees es a)) (has 1 after) (held_of i x) _ (reset ∷ []) [] (λ _. held-tied x t)
      (λ _. by_cond P (has 2 before && not (has 2 after)) _ _ (λ _. halted-tied x t)
      (λ _. by_cond P (not (has 2 before) && has 2 after) (started_of microphone i x) x (λ _. started-tied microphone x t) (λ _. t)))

module _ (F : Type 0) (i : ℕ) (own : i < streams) (lists : List ℕ) where
  abbrev Kept : Ghost → Ports → Type 0
  Kept a x = Held F i x.hda.streams lists a

  abbrev counted : i + suc (streams - (i + 1)) ≡ streams
  counted = omega arith

  reset-own : (a : Ghost) (x : Ports) → Kept a x → Kept (see reset a) (reset_at i x)
  unfolding reset_of
  reset-own a x h = held-own F i own x.hda.streams lists a h _ (see reset a) (tied-reset F (part_of list_size i lists) a h.own.sized h.own.never h.own.founded)

  controller-reset : (a : Ghost) (x : Ports) → Kept a x → Kept (see reset a) (reset_controller_of x)
  unfolding reset_controller_of
  controller-reset a x h =
      let y = ports (cleared_of x.hda) x.host in
      each-around reset_at (Kept a) (Kept (see reset a)) i (streams - (i + 1)) streams y counted
      (λ j y less k. held-other F i own y.hda.streams lists a k j (omega arith) (inr less) _)
      (λ j y from less k. held-other F i own y.hda.streams lists (see reset a) k j less (inl from) _)
      h (reset-own a (each_of always reset_at i 0 y))

  controlled-held : (old : List ℕ) (a : Ghost) (x : Ports) → Kept a x → Kept (sees (controller_events old x) a) (controlled_of old x)
  unfolding controlled_of
  controlled-held old a x h =
      let before = has 1 (byte_at old gctl) in
      let after = has 1 (byte_at x.hda.regs gctl) in
      by_both (λ (y : Ports) (es : List Event). Kept (sees es a) y) (before && not after) (reset_controller_of x) _ (reset ∷ []) [] (λ _. controller-reset a x h)
      (λ _. by_cond (Kept a) (not before && after) _ x (λ _. h) (λ _. h))

  flushed-held : (a : Ghost) (x : Ports) → Kept a x → Kept a (flushed_of x)
  unfolding flushed_of
  flushed-held a x h = h

  settle-held : (old : List ℕ) (a : Ghost) (x : Ports) → Kept a x → Kept (sees (settle_events old i x) a) (settle_of old x)
  unfolding settle_of
  settle-held old a x h =
      let a' = sees (settle_events old i x) a in
      let w = each_of always (settle_at old) i 0 x in
      each-around (settle_at old) (Kept a) (Kept a') i (streams - (i + 1)) streams x counted
      (λ j y less k. held-other F i own y.hda.streams lists a k j (omega arith) (inr less) _)
      (λ j y from less k. held-other F i own y.hda.streams lists a' k j less (inl from) _)
      h
      (λ k. held-own F i own w.hda.streams lists a k _ a'
      (settled-tied F (part_of list_size i lists) a i (byte_at old (ctl i)) w.hda.microphone (channel_at w i) k.own))

  -- what follows a write's last byte
  pub tail-held : (old : List ℕ) (a : Ghost) (x : Ports) → Kept a x
      → Kept (sees (settle_events old i (flushed_of (controlled_of old x))) (sees (controller_events old x) a)) (tail_of old x)
  unfolding tail_of
  tail-held old a x h = settle-held old _ _ (flushed-held _ _ (controlled-held old a x h))
