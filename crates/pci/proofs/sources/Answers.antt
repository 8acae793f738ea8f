-- `pci::sources` meets its contract: its loop is the scan's. Assumes nothing.
use Rattle.std.proofs.Common.{true, false, sym, ap, ◌∙◌, arith, ◌+◌, ℕ}
use Rattle.pci.specs.Interrupts.{sources_of}
use Rattle.stream.specs.Box.{streams}
use Rattle.pci.proofs.Scan.{weights, bit, scan-turn, scan-end}
use Rattle.pci.proofs.sources.Goals as goal
use Rattle.pci.proofs.sources.Goals.{then-controller, else-controller, then-stream_status, else-stream_status}

pub loop-index-init : goal.loop-index-init
unfolding sources_of
loop-index-init c =
    elim c.if-controller.branch [
      | then-controller w ↦ record {
        rest = rw (w.found-is, ← c.controller.ensures, w.if-controller.true);
        low = omega arith;
      }
      | else-controller w ↦ record {
        rest = rw (w.found-is, ← c.controller.ensures, w.if-controller.false);
        low = omega arith;
      }
    ]

pub loop-index-preserved : goal.loop-index-preserved
loop-index-preserved c =
    let l = c.loop-index in
    elim c.if-stream_status.branch [
      | then-stream_status w ↦ scan-turn _ _ _ l.invariant true _ (omega arith) (sym c.stream_status.ensures ∙ w.if-stream_status.true) (w.found-is ∙ ap (λ (b : ℕ). l.found + b) (bit l.index (omega arith)))
      | else-stream_status w ↦ scan-turn _ _ _ l.invariant false _ (omega arith) (sym c.stream_status.ensures ∙ w.if-stream_status.false) w.found-is
    ]

pub returns : goal.returns
returns c =
    let l = c.loop-index in
    (scan-end _ _ _ l.invariant (omega arith), omega (arith, weights l.index streams (omega arith)))
