-- Calls between callbacks: none but an `advance` and a restore adds to a stream's deferred frames. Assumes nothing.
use Prim.Native.Nat.{ℕ, ◌≤◌, ◌+◌, ◌*◌, ◌^◌}
use mathlib.Core.Path.{◌≡◌, sym, subst}
use mathlib.Core.Bool.{Bool, not, ◌&&◌}
use mathlib.Core.List.{List}
use mathlib.Core.Logic.{◌≢◌}
use native.Mathlib.Omega.{arith}
use borrow.Author.Tests.{eqb-false}
use lib.Dec.{eqb, ltb}
use lib.ListN.{length, get_or, set}
use lib.Seq.{get_or-set_other}
use Rattle.word.specs.Place.{word_at}
use Rattle.word.proofs.Choices.{by_cond, by_value}
use Rattle.word.proofs.Each.{each_keeps}
use Rattle.word.proofs.Lists.{at_set}
use Rattle.std.specs.Prelude.{Option, None, Some}
use Rattle.format.specs.Format.{format_of}
use Rattle.stream.specs.declared.Stream.{Stream}
use Rattle.stream.specs.Box.{streams}
use Rattle.stream.specs.Streams.{fresh_of}
use Rattle.registers.specs.Places.{gctl, ctl, fmt, byte_at, has}
use Rattle.turn.specs.Engines.{stopped_of}
use Rattle.turn.specs.Turns.{open_stream_of}
use Rattle.turn.specs.Failures.{Channel, error_of}
use Rattle.control.specs.Channels.{reset_of, halted_of, started_by, started_of, held_of, settled_of}
use Rattle.device.specs.declared.Hda.{Hda}
use Rattle.device.specs.Devices.{stream_at, with_paused}
use Rattle.device.specs.Machines.{Machine, Done, Commanded, check_machine, checked, answer_of, unchanged, finish_of, finished, commanded_of, with_commanded}
use Rattle.settle.specs.declared.Ports.{Ports}
use Rattle.settle.specs.Settle.{ports, channel_at, cleared_of, reset_at, reset_controller_of, settle_at, settle_of}
use Rattle.write.specs.Writes.{written_of, controlled_of, flushed_of, tail_of, write_step, write_of}
use Rattle.hda.specs.Calls.{configured, config_write_step, config_write_of, bar_write_of, pin_control, unsolicited, listens, pin_step, pin_of, pause_of}
use Rattle.calls.specs.Calls as calls
use Rattle.calls.specs.Calls.{Call, after}
use Rattle.catchup.specs.Callbacks.{deferred_of}
use Rattle.catchup.specs.Between.{IsQuiet}
use Rattle.catchup.proofs.Turns.{whole_of}

module _ (i n : ℕ) where
  -- at most n whole frames are deferred
  abbrev Few : Stream → Type 0
  Few s = whole_of s ≤ n

  fresh-few : Few fresh_of
  unfolding fresh_of
  fresh-few = omega arith

  -- ---- one stream's step after a write
  error-few : (j : ℕ) (x : Channel) → Few (error_of j x).attached.stream
  unfolding error_of stopped_of
  error-few j x = omega arith

  halted-few : (j : ℕ) (x : Channel) → Few (halted_of j x.attached).stream
  unfolding halted_of
  halted-few j x = omega arith

  reset-few : (j : ℕ) (x : Channel) → Few (reset_of j x).attached.stream
  unfolding reset_of
  reset-few j x = fresh-few

  started-by : (j : ℕ) (microphone : Bool) (x : Channel) (f : Option ℕ) → Few x.attached.stream → Few (started_by microphone j x f).attached.stream
  started-by j microphone x None h = error-few j x
  started-by j microphone x (Some r) h =
      by_cond (λ (y : Channel). Few y.attached.stream) (open_stream_of x.attached.host microphone j).ok _ (error_of j x) (λ _. h) (λ _. error-few j x)

  started-few : (j : ℕ) (microphone : Bool) (x : Channel) → Few x.attached.stream → Few (started_of microphone j x).attached.stream
  unfolding started_of
  started-few j microphone x h = started-by j microphone x (format_of (word_at 2 (fmt j) x.regs)) h

  settled-few : (j before : ℕ) (microphone : Bool) (x : Channel) → Few x.attached.stream → Few (settled_of before microphone j x).attached.stream
  unfolding settled_of
  settled-few j before microphone x h =
      let after = byte_at x.regs (ctl j) in
      let P : Channel → Type 0 = λ y. Few y.attached.stream in
      by_cond P (has 1 after) (held_of j x) _ (λ _. reset-few j x)
      (λ _. by_cond P (has 2 before && not (has 2 after)) _ _ (λ _. halted-few j x)
      (λ _. by_cond P (not (has 2 before) && has 2 after) (started_of microphone j x) x (λ _. started-few j microphone x h) (λ _. h)))

  -- ---- all streams'
  abbrev Holds : Hda → Type 0
  Holds d = Few (stream_at d i)

  -- stream j with another record
  with-stream : (d : Hda) (j : ℕ) (s : Stream) → (j ≡ i → Few s) → Holds d → Few (get_or (set d.streams j s) i fresh_of)
  with-stream d j s own h =
      by_value j i (λ e. subst (λ (k : ℕ). Few (get_or (set d.streams k s) i fresh_of)) (sym e) (at_set Few d.streams i s fresh_of (own e) fresh-few))
      (λ e. subst Few (sym (get_or-set_other d.streams j i s fresh_of (other (eqb-false j i e)))) h)
    where
      other : (j ≡ i → ⊥) → i ≢ j
      other apart e = apart (sym e)

  settle-holds : (old : List ℕ) (x : Ports) → Holds x.hda → Holds (settle_of old x).hda
  unfolding settle_of
  settle-holds old x =
      each_keeps (λ (y : Ports). Holds y.hda) (settle_at old) streams
      (λ j y few h. with-stream y.hda j _ (λ e. settled-few j (byte_at old (ctl j)) y.hda.microphone (channel_at y j) (subst (λ (k : ℕ). Few (stream_at y.hda k)) (sym e) h)) h)
      streams 0 x (omega arith)

  reset-holds : (x : Ports) → Holds x.hda → Holds (reset_controller_of x).hda
  unfolding reset_controller_of
  reset-holds x =
      each_keeps (λ (y : Ports). Holds y.hda) reset_at streams (λ j y few h. with-stream y.hda j _ (λ _. reset-few j (channel_at y j)) h) streams 0 (ports (cleared_of x.hda) x.host) (omega arith)

  controlled-holds : (old : List ℕ) (x : Ports) → Holds x.hda → Holds (controlled_of old x).hda
  unfolding controlled_of
  controlled-holds old x h =
      let before = has 1 (byte_at old gctl) in
      let after = has 1 (byte_at x.hda.regs gctl) in
      let P : Ports → Type 0 = λ y. Holds y.hda in
      by_cond P (before && not after) (reset_controller_of x) _ (λ _. reset-holds x h) (λ _. by_cond P (not before && after) _ x (λ _. h) (λ _. h))

  tail-holds : (old : List ℕ) (x : Ports) → Holds x.hda → Holds (tail_of old x).hda
  unfolding tail_of flushed_of
  tail-holds old x h = settle-holds old _ (controlled-holds old x h)

  -- ---- the calls
  abbrev Left : Done → Type 0
  Left r = Holds r.answer.hda

  finished-left : (number : ℕ) (x : Machine) → Holds x.hda → Left (finished number x)
  unfolding finish_of answer_of
  finished-left number x h = h

  unchanged-left : (number : ℕ) (x : Machine) → Holds x.hda → Left (unchanged number x)
  unfolding answer_of
  unchanged-left number x h = h

  commanded-left : (x : Machine) (d : Hda) → Holds d → Holds (commanded_of d x.memory).hda
  unfolding commanded_of
  commanded-left x d h = h

  checked-left : (call : Machine → Done) (x : Machine) → Holds x.hda → Left (call x) → Left (checked call x)
  checked-left call x h l = by_cond Left (eqb (check_machine x) 0) (call x) (unchanged (check_machine x) x) (λ _. l) (λ _. unchanged-left (check_machine x) x h)

  write-left : (offset : ℕ) (bytes : List ℕ) (x : Machine) → Holds x.hda → Left (write_of offset bytes x)
  unfolding write_of write_step written_of
  write-left offset bytes x h =
      let p = tail_of x.hda.regs (ports (written_of x.hda offset bytes) x.host) in
      checked-left (write_step offset bytes) x h
      (finished-left 0 (with_commanded x p.host (commanded_of p.hda x.memory)) (commanded-left x p.hda (tail-holds x.hda.regs (ports (written_of x.hda offset bytes) x.host) h)))

  bar-left : (bar offset : ℕ) (bytes : List ℕ) (x : Machine) → Holds x.hda → Left (bar_write_of bar offset bytes x)
  unfolding bar_write_of
  bar-left bar offset bytes x h = by_cond Left (eqb bar 0) _ _ (λ _. write-left offset bytes x h) (λ _. checked-left (unchanged 0) x h (unchanged-left 0 x h))

  config-left : (register offset : ℕ) (bytes : List ℕ) (x : Machine) → Holds x.hda → Left (config_write_of register offset bytes x)
  unfolding config_write_of config_write_step
  config-left register offset bytes x h =
      let d = configured x.hda (4 * register + offset) bytes in
      checked-left (config_write_step register offset bytes) x h
      (by_cond Left (ltb (4 * register + offset) (2 ^ 64)) _ _ (λ _. finished-left 0 (with_commanded x x.host (commanded_of d x.memory)) (commanded-left x d h)) (λ _. unchanged-left 0 x h))

  pin-left : (node : ℕ) (x : Machine) → Holds x.hda → Left (pin_of node x)
  unfolding pin_of pin_step
  pin-left node x h =
      let c = unsolicited x.hda x.memory node in
      checked-left (pin_step node) x h
      (by_cond Left (listens x.hda node) _ _
      (λ _. finished-left 0 (with_commanded x x.host c) (by_cond (λ (c : Commanded). Holds c.hda) (has 0x80 (pin_control x.hda node)) _ _ (λ _. h) (λ _. h))) (λ _. unchanged-left 0 x h))

  pause-left : (paused : Bool) (x : Machine) → Holds x.hda → Holds (pause_of paused x.hda x.host x.lists (length x.queues)).hda
  unfolding pause_of answer_of
  pause-left paused x h = by_cond Holds (eqb (check_machine x) 0) (with_paused x.hda paused) x.hda (λ _. h) (λ _. h)

  quiet-holds : (c : Call) → IsQuiet c → (x : Machine) → Holds x.hda → Holds (after c x).hda
  unfolding after
  quiet-holds (calls.advance nanos) none x h = absurd none
  quiet-holds (calls.read offset into) q x h = h
  quiet-holds (calls.write offset bytes) q x h = write-left offset bytes x h
  quiet-holds (calls.bar_read bar offset into) q x h = h
  quiet-holds (calls.bar_write bar offset bytes) q x h = bar-left bar offset bytes x h
  quiet-holds (calls.config_read register) q x h = h
  quiet-holds (calls.config_write register offset bytes) q x h = config-left register offset bytes x h
  quiet-holds (calls.pin_change node) q x h = pin-left node x h
  quiet-holds (calls.pause paused) q x h = pause-left paused x h
  quiet-holds (calls.feed frames) q x h = h
  quiet-holds (calls.pull into) q x h = h
  quiet-holds (calls.playback_fails fails) q x h = h
  quiet-holds (calls.capture_fails fails) q x h = h
  quiet-holds (calls.downstream bytes) q x h = h
  quiet-holds (calls.save into) q x h = h
  quiet-holds (calls.restore strict state) none x h = absurd none
  quiet-holds (calls.advance_bounds shortest longest lists queues memory into) q x h = h

pub quiet : (i : ℕ) (c : Call) → IsQuiet c → (x : Machine) → deferred_of i (after c x) ≤ deferred_of i x
quiet i c q x = quiet-holds i (deferred_of i x) c q x (omega arith)
