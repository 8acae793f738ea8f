-- The scan so far.
use Rattle.pci.proofs.Scan.{Scan}
use Rattle.pci.proofs.sources.Given as goal

abbrev pub invariant-loop-index : goal.invariant-loop-index
invariant-loop-index l = Scan l.regs l.found l.index
