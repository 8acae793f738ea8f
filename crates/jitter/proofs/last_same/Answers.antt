-- `last_same` meets its contract. The invariant: up to `end`, the streams below `index` have as many frames to move. Assumes nothing.
use Prim.Native.Nat.{ℕ, ◌-◌, ◌≤◌, ◌<◌}
use mathlib.Core.Path.{◌≡◌, refl, sym, ap, ◌∙◌}
use native.Mathlib.Omega.{arith}
use borrow.Author.Rules.{rules}
use Rattle.word.specs.Place.{word_at}
use Rattle.stream.specs.declared.Stream.{Stream}
use Rattle.host.specs.Hosts.{queue_at}
use Rattle.registers.specs.Places.{fmt}
use Rattle.record.specs.Loads.{device_at}
use Rattle.record.proofs.Theorems.{stream-loaded}
use Rattle.counts.specs.Counts.{movable_of}
use Rattle.jitter.proofs.Cases.{own-regs, lasting-turn}
use Rattle.jitter.proofs.last_same.Goals as goal

pub loop-index-init : goal.loop-index-init
loop-index-init c =
    (omega arith, omega arith, λ j h. absurd (omega arith))

pub loop-index-preserved : goal.loop-index-preserved
loop-index-preserved c =
    let l = c.loop-index in
    let d = c.args.device.now in
    let h = c.args.host in
    let s = c.load_stream-s in
    let u = c.until-end in (
      u.ensures.0,
      omega (arith, u.ensures.1, l.invariant.1),
      lasting-turn (device_at d) h c.args.nanos l.end u.result l.index (queue_at h l.index).length c.get-word.result s.result.fraction c.is_capture.result u.ensures.0
          u.ensures.1 u.ensures.2 c.is_capture.ensures refl (c.get-word.ensures ∙ ap (word_at 2 (fmt l.index)) (sym (own-regs d)))
          (ap (λ (k : Stream). k.fraction) (s.ensures ∙ sym (stream-loaded d l.index (omega arith)))) l.invariant.2,
    )

pub returns : goal.returns
returns c =
    let l = c.loop-index in
    record { low = l.invariant.0; high = l.invariant.1; same = λ i few. l.invariant.2 i (omega arith) }
