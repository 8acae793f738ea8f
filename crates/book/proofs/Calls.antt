-- Every call keeps each stream tied to the book, and so does every list of calls. Assumes nothing.
use Prim.Native.Nat.{ℕ, ◌+◌, ◌*◌, ◌^◌, ◌<◌}
use mathlib.Core.Path.{◌≡◌, refl}
use mathlib.Core.Bool.{Bool, true, false, cond, not, ◌&&◌, ◌||◌}
use mathlib.Core.List.{List, [], ◌∷◌}
use borrow.Author.Tests.{eqb-true}
use lib.Dec.{eqb, ltb}
use lib.ListN.{length}
use Rattle.word.proofs.Choices.{by_cond, by_both, by-not}
use Rattle.clock.proofs.Theorems.{advance-fraction}
use Rattle.stream.specs.Box.{streams}
use Rattle.registers.specs.Places.{gctl, byte_at, has, dma_of}
use Rattle.rings.specs.Rings.{rings_of}
use Rattle.rings.proofs.Facts.{commands-few}
use Rattle.device.specs.declared.Hda.{Hda}
use Rattle.device.specs.Machines.{Machine, check_machine, answer_of, Done, unchanged, checked, finish_of, finished, Commanded, commanded_of, with_commanded}
use Rattle.device.proofs.Checks.{device-parts, passed}
use Rattle.settle.specs.declared.Ports.{Ports}
use Rattle.settle.specs.Settle.{ports}
use Rattle.write.specs.Writes.{written_of, controlled_of, flushed_of, tail_of, tailed_of, write_step, write_of}
use Rattle.hda.specs.Calls.{bar_write_of, configured, config_write_step, config_write_of, pin_control, unsolicited, listens, pin_step, pin_of, pause_of}
use Rattle.serve.specs.Serve.{serve_of}
use Rattle.advance.specs.Advance.{ticked_of, number_of, after_commands, advance_step, advance_of}
use Rattle.calls.specs.Calls as calls
use Rattle.calls.specs.Calls.{Call, after}
use Rattle.calls.proofs.Devices.{device-changed}
use Rattle.book.specs.Book.{Event}
use Rattle.book.specs.Events.{only_if, serve_events, advance_events, controller_events, settle_events, write_events, restore_events, events_of}
use Rattle.book.specs.Lists.{Step, handed, run, all_events}
use Rattle.book.specs.Claim.{NotRestored, NoRestore}
use Rattle.book.proofs.Ghosts.{Ghost, sees, sees-append}
use Rattle.book.proofs.Machines.{Held}
use Rattle.book.proofs.Serve.{Fine, serve-held}
use Rattle.book.proofs.Control.{tail-held}
use Rattle.book.proofs.Restores.{restore-held}

module _ (F : Type 0) (i : ℕ) (own : i < streams) where
  abbrev HeldBy : Ghost → Machine → Type 0
  HeldBy a x = Held F i x.hda.streams x.lists a

  -- what a call leaves
  abbrev Leaves : Ghost → Done → Type 0
  Leaves a r = Held F i r.answer.hda.streams r.lists a

  module _ (x : Machine) (a : Ghost) where
    unchanged-leaves : (number : ℕ) → HeldBy a x → Leaves a (unchanged number x)
    unfolding answer_of
    unchanged-leaves number h = h

    finished-leaves : (number : ℕ) → HeldBy a x → Leaves a (finished number x)
    unfolding finish_of answer_of
    finished-leaves number h = h

    -- a call behind its check: a refusal is no event
    checked-leaves : (call : Machine → Done) (es : List Event) → HeldBy a x → (check_machine x ≡ 0 → Leaves (sees es a) (call x))
        → Leaves (sees (only_if (eqb (check_machine x) 0) es) a) (checked call x)
    checked-leaves call es h passes =
        by_both (λ (r : Done) (fs : List Event). Leaves (sees fs a) r) (eqb (check_machine x) 0) (call x) (unchanged (check_machine x) x) es []
        (λ e. passes (eqb-true (check_machine x) 0 e)) (λ _. unchanged-leaves (check_machine x) h)

    -- .. one with no event at all
    quiet-leaves : (call : Machine → Done) → HeldBy a x → Leaves a (call x) → Leaves a (checked call x)
    quiet-leaves call h done = by_cond (Leaves a) (eqb (check_machine x) 0) (call x) (unchanged (check_machine x) x) (λ _. done) (λ _. unchanged-leaves (check_machine x) h)

  -- commands, then the interrupt
  tailed-leaves : (x : Machine) (a : Ghost) (p : Ports) → Held F i p.hda.streams x.lists a → Leaves a (tailed_of x p)
  unfolding commanded_of
  tailed-leaves x a p h = finished-leaves (with_commanded x p.host (commanded_of p.hda x.memory)) a 0 h

  -- ---- advance
  clocked-fine : (nanos : ℕ) (x : Machine) → length x.host.queues ≡ streams → check_machine x ≡ 0 → Fine x.host.downstream (with_commanded x x.host (commanded_of (ticked_of nanos x.hda) x.memory))
  unfolding commanded_of ticked_of
  clocked-fine nanos x sized e =
      let d = x.hda in
      let t = ticked_of nanos d in
      let p = passed d x.host x.lists (length x.queues) e in
      let v = device-parts d x.lists p.device in
      record {
        lists = p.lists;
        device = device-changed d (commanded_of t x.memory).hda x.lists (advance-fraction d.clock nanos)
            (commands-few (rings_of t.regs t.link x.memory) v.responses (dma_of t.config t.regs)) refl refl p.device;
        host = p.host;
        count = sized;
        down = refl;
      }

  commands-leaves : (downstream nanos : ℕ) (x : Machine) (a : Ghost) → Fine downstream x → HeldBy a x
      → Leaves (sees (only_if (dma_of x.hda.config x.hda.regs) (serve_events downstream nanos i x)) a) (after_commands nanos x)
  unfolding after_commands
  commands-leaves downstream nanos x a f h =
      let w = serve_of nanos x in
      by_both (λ (r : Done) (es : List Event). Leaves (sees es a) r) (dma_of x.hda.config x.hda.regs) (finished (number_of w.refused) w.machine) (finished 0 x) (serve_events downstream nanos i x) []
      (λ _. finished-leaves w.machine (sees (serve_events downstream nanos i x) a) (number_of w.refused) (serve-held downstream nanos F i own x a f h))
      (λ _. finished-leaves x a 0 h)

  clocked-held : (nanos : ℕ) (x : Machine) (a : Ghost) → HeldBy a x → HeldBy a (with_commanded x x.host (commanded_of (ticked_of nanos x.hda) x.memory))
  unfolding commanded_of ticked_of
  clocked-held nanos x a h = h

  advance-leaves : (nanos : ℕ) (x : Machine) (a : Ghost) → length x.host.queues ≡ streams → HeldBy a x → Leaves (sees (only_if (eqb (check_machine x) 0) (advance_events nanos i x)) a) (advance_of nanos x)
  unfolding advance_of advance_step advance_events
  advance-leaves nanos x a sized h =
      let y = with_commanded x x.host (commanded_of (ticked_of nanos x.hda) x.memory) in
      let es = only_if (dma_of y.hda.config y.hda.regs) (serve_events x.host.downstream nanos i y) in
      checked-leaves x a (advance_step nanos) (advance_events nanos i x) h
      (λ e. by-not (λ (r : Done) (fs : List Event). Leaves (sees fs a) r) (x.hda.paused || not (has 1 (byte_at x.hda.regs gctl))) (unchanged 0 x) (after_commands nanos y) es []
      (λ _. unchanged-leaves x a 0 h)
      (λ _. commands-leaves x.host.downstream nanos y a (clocked-fine nanos x sized e) (clocked-held nanos x a h)))

  -- ---- writes
  module _ (offset : ℕ) (bytes : List ℕ) (x : Machine) (a : Ghost) (h : HeldBy a x) where
    written_held : Held F i (written_of x.hda offset bytes).streams x.lists a
    unfolding written_of
    written_held = h

    write-leaves : Leaves (sees (only_if (eqb (check_machine x) 0) (write_events offset bytes i x)) a) (write_of offset bytes x)
    unfolding write_of write_step write_events
    write-leaves =
        let old = x.hda.regs in
        let p = ports (written_of x.hda offset bytes) x.host in
        let es = controller_events old p in
        let fs = settle_events old i (flushed_of (controlled_of old p)) in
        checked-leaves x a (write_step offset bytes) (write_events offset bytes i x) h
        (λ _. rw (sees-append es fs a) (tailed-leaves x (sees fs (sees es a)) (tail_of old p) (tail-held F i own x.lists old a p written_held)))

    bar-leaves : (b : Bool) → Leaves (sees (only_if (b && eqb (check_machine x) 0) (write_events offset bytes i x)) a) (cond b (write_of offset bytes x) (checked (unchanged 0) x))
    bar-leaves true = write-leaves
    bar-leaves false = quiet-leaves x a (unchanged 0) h (unchanged-leaves x a 0 h)

    bar-write-leaves : (bar : ℕ) → Leaves (sees (only_if (eqb bar 0 && eqb (check_machine x) 0) (write_events offset bytes i x)) a) (bar_write_of bar offset bytes x)
    unfolding bar_write_of
    bar-write-leaves bar = bar-leaves (eqb bar 0)

  -- ---- calls that leave streams and lists
  module _ (x : Machine) (a : Ghost) (h : HeldBy a x) where
    config-leaves : (register offset : ℕ) (bytes : List ℕ) → Leaves a (config_write_of register offset bytes x)
    unfolding config_write_of config_write_step
    config-leaves register offset bytes =
        let start = 4 * register + offset in
        quiet-leaves x a (config_write_step register offset bytes) h
        (by_cond (Leaves a) (ltb start (2 ^ 64)) _ (unchanged 0 x) (λ _. tailed-leaves x a (ports (configured x.hda start bytes) x.host) h) (λ _. unchanged-leaves x a 0 h))

    pin-leaves : (node : ℕ) → Leaves a (pin_of node x)
    unfolding pin_of pin_step
    pin-leaves node =
        let c = unsolicited x.hda x.memory node in
        let held : Held F i c.hda.streams x.lists a =
        by_cond (λ (y : Commanded). Held F i y.hda.streams x.lists a) (has 0x80 (pin_control x.hda node)) _ _ (λ _. h) (λ _. h) in
        quiet-leaves x a (pin_step node) h
        (by_cond (Leaves a) (listens x.hda node) _ (unchanged 0 x) (λ _. finished-leaves (with_commanded x x.host c) a 0 held) (λ _. unchanged-leaves x a 0 h))

    pause-held : (paused : Bool) → Held F i (pause_of paused x.hda x.host x.lists (length x.queues)).hda.streams x.lists a
    unfolding pause_of answer_of
    pause-held paused = by_cond (λ (d : Hda). Held F i d.streams x.lists a) (eqb (check_machine x) 0) _ x.hda (λ _. h) (λ _. h)

  -- ---- every call, and any list
  pub after-held : (c : Call) (x : Machine) (a : Ghost) → (F → NotRestored c x) → length x.host.queues ≡ streams → HeldBy a x → HeldBy (sees (events_of i c x) a) (after c x)
  unfolding after events_of restore_events
  after-held (calls.advance nanos) x a none sized h = advance-leaves nanos x a sized h
  after-held (calls.read offset into) x a none sized h = h
  after-held (calls.write offset bytes) x a none sized h = write-leaves offset bytes x a h
  after-held (calls.bar_read bar offset into) x a none sized h = h
  after-held (calls.bar_write bar offset bytes) x a none sized h = bar-write-leaves offset bytes x a h bar
  after-held (calls.config_read register) x a none sized h = h
  after-held (calls.config_write register offset bytes) x a none sized h = config-leaves x a h register offset bytes
  after-held (calls.pin_change node) x a none sized h = pin-leaves x a h node
  after-held (calls.pause paused) x a none sized h = pause-held x a h paused
  after-held (calls.feed frames) x a none sized h = h
  after-held (calls.pull into) x a none sized h = h
  after-held (calls.playback_fails fails) x a none sized h = h
  after-held (calls.capture_fails fails) x a none sized h = h
  after-held (calls.downstream n) x a none sized h = h
  after-held (calls.save into) x a none sized h = h
  after-held (calls.restore strict state) x a none sized h =
      restore-held strict state x.hda x.host x.lists F i own a h (length x.queues) (λ f check number. none f strict state refl (check, number))
  after-held (calls.advance_bounds shortest longest lists queues memory into) x a none sized h = h

  pub run-held : (cs : List Step) (x : Machine) (a : Ghost) → (F → NoRestore cs x) → HeldBy a x → HeldBy (sees (all_events i cs x) a) (run cs x)
  unfolding run all_events
  run-held [] x a none h = h
  run-held (c ∷ cs) x a none h =
      let y = handed c x in
      let es = events_of i c.call y in
      rw (sees-append es (all_events i cs (after c.call y)) a)
      (run-held cs (after c.call y) (sees es a) (λ f. (none f).1) (after-held c.call y a (λ f. (none f).0) c.sized h))
