-- `advance` by 0 ns: what it leaves of the device as a whole, and what it does for a running playback. Assumes nothing.
use Prim.Native.Nat.{ℕ, ◌+◌, ◌-◌, ◌*◌, ◌/◌, ◌≤◌, ◌<◌}
use mathlib.Core.Path.{◌≡◌, refl, sym, ◌∙◌}
use mathlib.Core.Bool.{Bool, true, false}
use mathlib.Core.List.{List}
use mathlib.Core.Logic.{inl, inr, ◌≢◌}
use native.Mathlib.Omega.{arith}
use borrow.Author.Tests.{eqb-true, eqb-false}
use lib.Dec.{eqb}
use lib.ListN.{length, length-set}
use lib.Seq.{get_or-set_other}
use Rattle.word.proofs.Choices.{by_cond}
use Rattle.word.proofs.Each.{each-keeps-until}
use Rattle.word.proofs.Place.{length-store, byte-elsewhere, word-elsewhere}
use Rattle.clock.specs.Billionths.{billion}
use Rattle.stream.specs.Box.{streams, captures}
use Rattle.stream.proofs.Validity.{valid-parts}
use Rattle.queue.specs.Queues.{capacity}
use Rattle.host.specs.Hosts.{queue_at}
use Rattle.registers.specs.Places.{size, intsts, ssync, gctl, walclk, ctl, byte_at, dma_of, with_bits, keep_bits}
use Rattle.rings.specs.Rings.{rings_of}
use Rattle.rings.proofs.Facts.{Outside, commands-outside, byte-before, byte_past, word-before}
use Rattle.pci.specs.Interrupts.{interrupt_of, update_of}
use Rattle.device.specs.declared.Hda.{Hda}
use Rattle.device.specs.Devices.{stream_at}
use Rattle.device.specs.Machines.{Machine, Done, check_machine, answer_of, unchanged, finish_of, finished, commanded_of, with_commanded}
use Rattle.device.proofs.Checks.{passed}
use Rattle.serve.specs.Serve.{Turns, turns_of, runs, taken_of, turn_at, goes_on, serve_of}
use Rattle.advance.specs.Advance.{ticked_of, number_of, still_of, served_of, after_commands, advance_step, advance_of}
use Rattle.book.proofs.Shown.{stored-size}
use Rattle.catchup.specs.Callbacks.{Runs, Running, Sized}
use Rattle.catchup.proofs.Rounds.{Carries}
use Rattle.catchup.proofs.Turns.{whole_of}
use Rattle.catchup.proofs.Serve.{turn_for, turned-regs, stored-byte, Waits, Served, serve-served}

-- the machine after the clock and the commands
abbrev clocked : Machine → Machine
clocked x = with_commanded x x.host (commanded_of (ticked_of 0 x.hda) x.memory)

-- ---- what every `advance` leaves
pub record Stays (d₀ d : Hda) : Type 0 where
  pub sized : Sized d
  pub paused : d.paused ≡ d₀.paused
  pub reset : byte_at d.regs gctl ≡ byte_at d₀.regs gctl
  pub master : byte_at d.config 4 ≡ byte_at d₀.config 4

module _ (d₀ : Hda) where
  turn-stays : (j : ℕ) (w : Turns) → j < streams → Stays d₀ w.machine.hda → Stays d₀ (turn_at 0 j w).machine.hda
  unfolding turn_at
  turn-stays j w few k =
      let x = w.machine in
      let regs = x.hda.regs in
      let sized = k.sized.registers in
      by_cond (λ (v : Turns). Stays d₀ v.machine.hda) (runs regs j) (taken_of j x (turn_for j x)) w
      (λ _. record {
        sized = record {
          registers = turned-regs j x (λ l. length l ≡ size) (λ e. stored-size j e regs few sized);
          count = length-set x.hda.streams j _ ∙ k.sized.count;
        };
        paused = k.paused;
        reset = turned-regs j x (λ l. byte_at l gctl ≡ byte_at regs gctl) (λ e. stored-byte j e regs few sized gctl (omega arith) (inl (omega arith))) ∙ k.reset;
        master = k.master;
      })
      (λ _. k)

  serve-stays : (x : Machine) → Stays d₀ x.hda → Stays d₀ (serve_of 0 x).machine.hda
  unfolding serve_of
  serve-stays x k = each-keeps-until (λ w. Stays d₀ w.machine.hda) goes_on (turn_at 0) streams turn-stays streams 0 (turns_of false x) (omega arith) k

  abbrev Leaves : Done → Type 0
  Leaves r = Stays d₀ r.answer.hda

  -- the interrupt writes its status, and one bit of the configuration
  finished-stays : (number : ℕ) (x : Machine) → Stays d₀ x.hda → Leaves (finished number x)
  unfolding finish_of answer_of update_of
  finished-stays number x k =
      let regs = x.hda.regs in
      let config = x.hda.config in
      let fits : intsts + 4 ≤ length regs = omega (arith, k.sized.registers) in
      record {
        sized = record { registers = length-store 4 intsts _ regs fits ∙ k.sized.registers; count = k.sized.count };
        paused = k.paused;
        reset = byte-elsewhere 4 intsts _ regs fits gctl (inl (omega arith)) ∙ k.reset;
        master = by_cond (λ (c : List ℕ). byte_at c 4 ≡ byte_at config 4) (interrupt_of config regs x.hda.asserted).shown (with_bits 0x06 8 config) (keep_bits 0x06 0xf7 config)
            (λ _. get_or-set_other config 6 4 _ 0 apart) (λ _. get_or-set_other config 6 4 _ 0 apart) ∙ k.master;
      }
    where
      apart : ◌≢◌ {A = ℕ} 4 6
      apart e = omega arith

  unchanged-stays : (number : ℕ) (x : Machine) → Stays d₀ x.hda → Leaves (unchanged number x)
  unfolding answer_of
  unchanged-stays number x k = k

-- the clock writes register 0x30, the commands those of the rings
module _ (x : Machine) (sized : length x.hda.regs ≡ size) where
  abbrev regs : List ℕ
  regs = x.hda.regs

  fits : walclk + 4 ≤ length regs
  fits = omega (arith, sized)

  ticked-size : length (ticked_of 0 x.hda).regs ≡ size
  unfolding ticked_of
  ticked-size = length-store 4 walclk _ regs fits ∙ sized

  outside : Outside 0x4a 0x5e (ticked_of 0 x.hda).regs (clocked x).hda.regs
  unfolding commanded_of
  outside =
      let d = ticked_of 0 x.hda in
      commands-outside (rings_of d.regs d.link x.memory) (omega (arith, ticked-size)) (dma_of d.config d.regs)

  clocked-size : length (clocked x).hda.regs ≡ size
  clocked-size = outside.size ∙ ticked-size

  clocked-reset : byte_at (clocked x).hda.regs gctl ≡ byte_at regs gctl
  unfolding ticked_of
  clocked-reset = byte-before outside gctl (omega arith) ∙ byte-elsewhere 4 walclk _ regs fits gctl (inl (omega arith))

  clocked-stays : length x.hda.streams ≡ streams → Stays x.hda (clocked x).hda
  unfolding commanded_of ticked_of
  clocked-stays count = record { sized = record { registers = clocked-size; count = count }; paused = refl; reset = clocked-reset; master = refl }

  clocked-runs : (i : ℕ) → i < streams → runs (clocked x).hda.regs i ≡ runs regs i
  unfolding ticked_of
  clocked-runs i own =
      rw (
        byte_past outside (ctl i) (omega arith) ∙ byte-elsewhere 4 walclk _ regs fits (ctl i) (inr (omega arith)),
        word-before outside 4 ssync (omega arith) ∙ word-elsewhere 4 walclk _ regs fits 4 ssync (inr (omega arith)),
      )

  clocked-dma : dma_of (clocked x).hda.config (clocked x).hda.regs ≡ dma_of x.hda.config regs
  unfolding commanded_of ticked_of dma_of
  clocked-dma = rw clocked-reset

pub advance-stays : (x : Machine) → Sized x.hda → Stays x.hda (advance_of 0 x).answer.hda
unfolding advance_of advance_step after_commands
advance-stays x sized =
    let d = x.hda in
    let y = clocked x in
    let k = clocked-stays x sized.registers sized.count in
    let same : Stays d d = record { sized = sized; paused = refl; reset = refl; master = refl } in
    by_cond (Leaves d) (eqb (check_machine x) 0) (advance_step 0 x) (unchanged (check_machine x) x)
    (λ _. by_cond (Leaves d) (still_of d) (unchanged 0 x) (after_commands 0 y) (λ _. unchanged-stays d 0 x same)
    (λ _. by_cond (Leaves d) (dma_of y.hda.config y.hda.regs) (served_of (serve_of 0 y)) (finished 0 y)
    (λ _. finished-stays d (number_of (serve_of 0 y).refused) (serve_of 0 y).machine (serve-stays d y k)) (λ _. finished-stays d 0 y k)))
    (λ _. unchanged-stays d (check_machine x) x same)

-- ---- a running playback
refusal : (n : ℕ) (x : Machine) → (unchanged n x).answer.number ≡ 0 → n ≡ 0
unfolding answer_of
refusal n x z = z

finished-number : (n : ℕ) (x : Machine) → (finished n x).answer.number ≡ 0 → n ≡ 0
unfolding finish_of answer_of
finished-number n x z = z

refused_none : (b : Bool) → number_of b ≡ 0 → b ≡ false
refused_none true z = absurd (omega arith)
refused_none false z = refl

-- the check behind an answer 0, and the limit of deferred frames that it asks for
advance-checked : (x : Machine) → (advance_of 0 x).answer.number ≡ 0 → check_machine x ≡ 0
unfolding advance_of
advance-checked x =
    by_cond (λ (r : Done). r.answer.number ≡ 0 → check_machine x ≡ 0) (eqb (check_machine x) 0) (advance_step 0 x) (unchanged (check_machine x) x)
    (λ e _. eqb-true (check_machine x) 0 e) (λ _. refusal (check_machine x) x)

pub advance-time : (i : ℕ) → i < streams → (x : Machine) → (advance_of 0 x).answer.number ≡ 0 → (stream_at x.hda i).fraction < 8193 * billion
advance-time i own x z =
    let p = passed x.hda x.host x.lists (length x.queues) (advance-checked x z) in
    (valid-parts (stream_at x.hda i) _ (p.streams i own)).time

module _ (i : ℕ) (own : i < streams) (plays : captures i ≡ false) (x : Machine) (sized : Sized x.hda) (hosted : length x.host.queues ≡ streams)
    (time : (stream_at x.hda i).fraction < 8193 * billion) where
  -- what it leaves: at most what was deferred less what the queue could still take; and while the stream runs nothing was lost
  pub record Caught (r : Done) : Type 0 where
    pub late : whole_of (stream_at r.answer.hda i) ≤ whole_of (stream_at x.hda i) - (capacity - (queue_at x.host i).length) / 4
    pub kept : Runs i r.answer.hda → Carries (stream_at x.hda i) (queue_at x.host i) (stream_at r.answer.hda i) (queue_at r.answer.host i)

  clocked-waits : Runs i x.hda → Waits i own plays (stream_at x.hda i) (queue_at x.host i) time (clocked x)
  unfolding commanded_of ticked_of
  clocked-waits on =
      record {
        sized = clocked-size x sized.registers;
        count = sized.count;
        hosted = hosted;
        runs = clocked-runs x sized.registers i own ∙ on;
        stream = refl;
        queue = refl;
      }

  -- the interrupt leaves RUN and the synchronization bits
  finished-caught : (number : ℕ) (y : Machine) → Served i own plays (stream_at x.hda i) (queue_at x.host i) time y → Caught (finished number y)
  unfolding finish_of answer_of update_of
  finished-caught number y m =
      let regs = y.hda.regs in
      let fits : intsts + 4 ≤ length regs = omega (arith, m.sized) in
      record {
        late = m.late;
        kept = λ z. m.kept (sym (rw (byte-elsewhere 4 intsts _ regs fits (ctl i) (inr (omega arith)), word-elsewhere 4 intsts _ regs fits 4 ssync (inr (omega arith)))) ∙ z);
      }

  commands-caught : (y : Machine) → Waits i own plays (stream_at x.hda i) (queue_at x.host i) time y → dma_of y.hda.config y.hda.regs ≡ true
      → (after_commands 0 y).answer.number ≡ 0 → Caught (after_commands 0 y)
  unfolding after_commands
  commands-caught y t on =
      let w = serve_of 0 y in
      rw on (λ z. finished-caught (number_of w.refused) w.machine
      (serve-served i own plays (stream_at x.hda i) (queue_at x.host i) time y t (refused_none w.refused (finished-number (number_of w.refused) w.machine z))))

  pub advance-caught : Running i x.hda → (advance_of 0 x).answer.number ≡ 0 → Caught (advance_of 0 x)
  unfolding advance_of advance_step
  advance-caught r =
      by_cond (λ (r : Done). r.answer.number ≡ 0 → Caught r) (eqb (check_machine x) 0) (advance_step 0 x) (unchanged (check_machine x) x)
      (λ _. rw r.awake (commands-caught (clocked x) (clocked-waits r.runs) (clocked-dma x sized.registers ∙ r.dma)))
      (λ e z. absurd (eqb-false (check_machine x) 0 e (refusal (check_machine x) x z)))
