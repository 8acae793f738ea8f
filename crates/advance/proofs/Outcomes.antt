-- Laws of the ways out of a call, and that what comes before a step leaves what it requires. Assumes nothing.
use Prim.Native.Nat.{ℕ, ◌≤◌}
use mathlib.Core.Path.{◌≡◌, sym, ap, ◌∙◌}
use mathlib.Core.Bool.{true, false}
use mathlib.Core.List.{List}
use mathlib.Core.Logic.{◌≢◌}
use native.Mathlib.Omega.{arith}
use borrow.Author.Tests.{eq-eqb, ne_eqb}
use lib.ListN.{length}
use Rattle.word.specs.Place.{store_at}
use Rattle.word.proofs.Choices.{cond_map}
use Rattle.clock.specs.declared.Clock.{Clock}
use Rattle.clock.specs.Clock as clock
use Rattle.host.specs.declared.Host.{Host}
use Rattle.registers.specs.Places.{walclk, dma_of}
use Rattle.std.specs.Prelude.{None}
use Rattle.device.specs.declared.Hda.{Hda}
use Rattle.device.specs.declared.Answer.{Answer}
use Rattle.device.specs.Devices.{with_regs, with_clock}
use Rattle.device.specs.Machines.{Commanded, Machine, machine, done_of, check_of, answer_of, finish_of, commanded, with_commanded, commanded_of}
use Rattle.device.proofs.Checks.{passed}
use Rattle.device.proofs.Facts.{commanded-streams}
use Rattle.record.specs.Loads.{block_at, link_at, clock_at, device_at, Holds}
use Rattle.in_place.specs.declared.Ended.{Ended}
use Rattle.in_place.specs.Ends.{End, end_out, end_of}
use Rattle.serve.specs.declared.Served.{Served}
use Rattle.serve.specs.Serve.{turns_of, turns_answer, serve_of, ServeNeeds}
use Rattle.advance.specs.declared.Advanced.{Advanced}
use Rattle.advance.specs.Advance.{ticked, ticked_of, number_of, served_of, still_of, turns_where, answer_in, done_in, after_commands, advance_step, advance_of}

-- ---- the clock, and the register that shows it
pub ticks : (nanos : ℕ) (device device₁ device₂ : List ℕ) (c : Clock) → c ≡ clock.advance_of (clock_at device) nanos → Holds device₁ (with_clock (device_at device) c)
    → (v : ℕ) → v ≡ clock.shown_of c → (regs : List ℕ) → regs ≡ store_at 4 walclk v (block_at 262 device₁) → Holds device₂ (with_regs (device_at device₁) regs)
    → Holds device₂ (ticked_of nanos (device_at device))
unfolding device_at ticked_of
ticks nanos device device₁ device₂ c ec h₁ v ev regs er h₂ =
    let d = device_at device in
    let own : block_at 262 device₁ ≡ d.regs = ap (λ (x : Hda). x.regs) h₁.same in
    let shown : regs ≡ store_at 4 walclk (clock.shown_of c) d.regs = er ∙ ap (λ (n : ℕ). store_at 4 walclk n (block_at 262 device₁)) ev ∙ ap (store_at 4 walclk (clock.shown_of c)) own in
    record {
      device = h₂.device;
      same = h₂.same ∙ ap (λ (x : Hda). with_regs x regs) h₁.same ∙ ap (λ (r : List ℕ). with_clock (with_regs d r) c) shown ∙ ap (ticked d) ec;
    }

-- ---- the turns and the interrupt
module _ (nanos : ℕ) (x : Machine) where
  pub turns-off : dma_of x.hda.config x.hda.regs ≡ false → turns_of false x ≡ turns_where nanos x
  turns-off e = rw e

  pub turns-on : dma_of x.hda.config x.hda.regs ≡ true → serve_of nanos x ≡ turns_where nanos x
  turns-on e = rw e

module _ (nanos : ℕ) (x : Machine) (r : Served) (device₁ l q m : List ℕ) (e : Ended) (device₂ : List ℕ) (n : ℕ) where
  pub after-done : turns_answer r device₁ l q m ≡ turns_where nanos x → end_out e (device_at device₂) ≡ end_of (device_at device₁) → n ≡ number_of r.refused
      → done_in (record { number = n; level = e.level; msi = e.msi; host = r.host }) device₂ l q m ≡ after_commands nanos x
  unfolding after_commands end_of finish_of answer_of
  after-done ew ee en =
      ap (λ (k : ℕ). done_in (record { number = k; level = e.level; msi = e.msi; host = r.host }) device₂ l q m) en
      ∙ ap (λ (z : End). done_of (record { number = number_of r.refused; level = z.ended.level; msi = z.ended.msi; hda = z.hda; host = r.host }) l q m) ee
      ∙ ap served_of ew
      ∙ cond_map served_of (dma_of x.hda.config x.hda.regs) (serve_of nanos x) (turns_of false x)

-- ---- the clock and the commands before them
module _ (nanos : ℕ) (device : List ℕ) (h : Host) (l q m device₁ : List ℕ) (held : Holds device₁ (ticked_of nanos (device_at device))) where
  abbrev d : Hda
  d = device_at device

  pub ticked-few : d.link.responses ≤ 255 → (link_at device₁).responses ≤ 255
  unfolding device_at ticked_of
  ticked-few few = let same : (link_at device₁).responses ≡ d.link.responses = ap (λ (t : Hda). t.link.responses) held.same in omega (arith, same, few)

  module _ (device₂ m₂ : List ℕ) (ran : commanded (device_at device₂) m₂ ≡ commanded_of (device_at device₁) m) where
    commands-ran : commanded (device_at device₂) m₂ ≡ commanded_of (ticked_of nanos d) m
    commands-ran = ran ∙ ap (λ (t : Hda). commanded_of t m) held.same

    pub step-on : still_of d ≡ false → after_commands nanos (machine (device_at device₂) h l q m₂) ≡ advance_step nanos (machine d h l q m)
    unfolding advance_step
    step-on z = rw z (ap (λ (k : Commanded). after_commands nanos (with_commanded (machine d h l q m) h k)) commands-ran)

    -- neither touches the streams
    same-streams : (device_at device₂).streams ≡ d.streams
    unfolding ticked_of
    same-streams = ap (λ (k : Commanded). k.hda.streams) commands-ran ∙ commanded-streams (ticked_of nanos d) m

    pub serve-needs : ServeNeeds (machine d h l q m) → ServeNeeds (machine (device_at device₂) h l q m₂)
    serve-needs needs =
        record {
          lists = needs.lists;
          queues = needs.queues;
          pending = λ i few. rw same-streams (needs.pending i few);
          listed = λ i few. rw same-streams (needs.listed i few);
          queued = needs.queued;
        }

-- ---- the check, and time that stands still
module _ (nanos : ℕ) (device : List ℕ) (h : Host) (l q m : List ℕ) (n : ℕ) (en : n ≡ check_of (device_at device) h l (length q)) where
  abbrev whole : Machine
  whole = machine (device_at device) h l q m

  pub advance-refused : (a : Advanced) → n ≢ 0 → answer_in a device ≡ answer_of n None (device_at device) h → done_in a device l q m ≡ advance_of nanos whole
  unfolding advance_of
  advance-refused a z e = ap (λ (b : Answer). done_of b l q m) e ∙ rw (← en, ne_eqb n 0 z)

  module _ (z : n ≡ 0) where
    pub advance-on : advance_step nanos whole ≡ advance_of nanos whole
    unfolding advance_of
    advance-on = rw (← en, eq-eqb n 0 z)

    pub advance-still : (a : Advanced) → still_of (device_at device) ≡ true → answer_in a device ≡ answer_of 0 None (device_at device) h → done_in a device l q m ≡ advance_of nanos whole
    unfolding advance_step
    advance-still a s e = ap (λ (b : Answer). done_of b l q m) e ∙ rw (← advance-on, s)

    pub step-needs : ((device_at device).link.responses ≤ 255) × ServeNeeds whole
    step-needs =
        let p = passed (device_at device) h l (length q) (sym en ∙ z) in
        (p.responses, record { lists = p.lists; queues = p.queues; pending = p.pending; listed = p.listed; queued = p.queued })
