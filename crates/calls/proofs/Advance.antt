-- `advance` leaves a valid machine: the clock, the commands, and every stream's turn. Assumes nothing.
use Prim.Native.Nat.{ℕ, ◌+◌, ◌*◌, ◌≤◌, ◌<◌}
use mathlib.Core.Path.{◌≡◌, refl, ◌∙◌}
use mathlib.Core.Bool.{false, not, ◌||◌}
use mathlib.Core.List.{List}
use native.Mathlib.Omega.{arith}
use lib.ListN.{length}
use Rattle.word.proofs.Lists.{length_part}
use Rattle.word.specs.Parts.{part_of}
use Rattle.word.proofs.Choices.{by_cond}
use Rattle.word.proofs.Each.{each-keeps-until}
use Rattle.word.proofs.Parts.{length-with-part}
use Rattle.clock.proofs.Theorems.{advance-fraction}
use Rattle.stream.specs.Box.{streams}
use Rattle.stream.specs.Streams.{list_size}
use Rattle.queue.specs.Queues.{capacity}
use Rattle.host.proofs.Checks.{valid-queue}
use Rattle.registers.specs.Places.{gctl, walclk, byte_at, has, dma_of}
use Rattle.registers.proofs.Files.{file-store}
use Rattle.turn.specs.Turns.{Turn, turn_of}
use Rattle.turn.proofs.Validity.{turn-valid, turn-host-valid}
use Rattle.device.specs.Devices.{stream_at, with_regs}
use Rattle.device.specs.Machines.{Machine, with_commanded, commanded_of}
use Rattle.device.proofs.Checks.{device-parts}
use Rattle.device.proofs.Facts.{with-stream-valid}
use Rattle.settle.specs.Settle.{ports}
use Rattle.serve.specs.Serve.{runs, Turns, turns_of, taken_of, turn_at, goes_on, serve_of}
use Rattle.advance.specs.Advance.{ticked_of, number_of, after_commands, advance_step, advance_of}
use Rattle.calls.proofs.Turns.{turn-file}
use Rattle.calls.proofs.Devices.{Holds, device-changed, with-file, part-size, commanded-holds, Stands, Leaves, unchanged-leaves, finished-leaves, checked-leaves, commanded-stands}

-- the clock, and the register that shows it
pub ticked-holds : (l : List ℕ) (x : Machine) (nanos : ℕ) → Holds l (ports x.hda x.host) → Holds l (ports (ticked_of nanos x.hda) x.host)
unfolding ticked_of
ticked-holds l x nanos h =
    let v = device-parts x.hda l h.device in
    record {
      file = file-store 4 walclk _ (omega arith) h.file;
      device = device-changed x.hda (ticked_of nanos x.hda) l (advance-fraction x.hda.clock nanos) v.responses refl refl h.device;
      host = h.host;
    }

module _ (nanos : ℕ) where
  -- a stream's turn: its part of each lent space comes back as long as it was
  taken-stands : (i : ℕ) (x : Machine) → i < streams → Stands x → let d = x.hda in
      Stands (taken_of i x (turn_of d.regs d.link.codec x.host d.microphone i nanos capacity (stream_at d i) (part_of list_size i x.lists) (part_of capacity i x.queues) x.memory)).machine
  taken-stands i x few s =
      let d = x.hda in
      let h = s.holds in
      let l = part_of list_size i x.lists in
      let q = part_of capacity i x.queues in
      let t : Turn = turn_of d.regs d.link.codec x.host d.microphone i nanos capacity (stream_at d i) l q x.memory in
      let long : length l ≡ list_size = part-size x.lists s.lists i few in
      let fits : capacity * i + capacity ≤ length x.queues = omega (arith, s.queues) in
      let wide : length q ≡ capacity = length_part capacity (capacity * i) x.queues fits in
      let room : list_size ≤ length l = omega arith in
      let stream = (device-parts d x.lists h.device).streams i few in
      let queue = valid-queue x.host h.host i in
      let sound = turn-valid d.regs d.link.codec x.host d.microphone i nanos capacity (stream_at d i) l q x.memory room stream queue in
      let f = turn-file d.regs d.link.codec x.host d.microphone i nanos capacity (stream_at d i) l q x.memory few h.file room (omega arith) stream queue in
      let k = with-file x.lists (ports d x.host) t.regs f.0 h in
      record {
        lists = omega (arith, s.lists, length-with-part list_size i x.lists t.list (sound.sized ∙ long) (omega (arith, s.lists)));
        queues = omega (arith, s.queues, length-with-part capacity i x.queues t.part (f.1 ∙ wide) fits);
        holds = record {
          file = f.0;
          device = with-stream-valid (with_regs d t.regs) x.lists i few t.turned.stream t.list (sound.sized ∙ long) s.lists k.device sound.stream;
          host = turn-host-valid d.regs d.link.codec x.host d.microphone i nanos capacity (stream_at d i) l q x.memory room stream h.host;
        };
      }

  abbrev Served : Turns → Type 0
  Served w = Stands w.machine

  pub turn-stands : (i : ℕ) (w : Turns) → i < streams → Stands w.machine → Stands (turn_at nanos i w).machine
  unfolding turn_at
  turn-stands i w few s = by_cond Served (runs w.machine.hda.regs i) _ _ (λ _. taken-stands i w.machine few s) (λ _. s)

  serve-stands : (x : Machine) → Stands x → Served (serve_of nanos x)
  unfolding serve_of
  serve-stands x s = each-keeps-until Served goes_on (turn_at nanos) streams turn-stands streams 0 (turns_of false x) (omega arith) s

  after-leaves : (x : Machine) → Stands x → Leaves (after_commands nanos x)
  unfolding after_commands
  after-leaves x s =
      let w = serve_of nanos x in
      by_cond Leaves (dma_of x.hda.config x.hda.regs) _ _ (λ _. finished-leaves w.machine (serve-stands x s) (number_of w.refused))
      (λ _. finished-leaves x s 0)

  pub advance-leaves : (x : Machine) → Stands x → Leaves (advance_of nanos x)
  unfolding advance_of advance_step
  advance-leaves x s =
      let d = ticked_of nanos x.hda in
      let c = commanded_of d x.memory in
      checked-leaves x s (advance_step nanos)
      (by_cond Leaves (x.hda.paused || not (has 1 (byte_at x.hda.regs gctl))) _ _ (λ _. unchanged-leaves x s 0)
      (λ _. after-leaves (with_commanded x x.host c)
      (commanded-stands x s x.host c (commanded-holds x.lists d x.host (ticked-holds x.lists x nanos s.holds) x.memory))))
