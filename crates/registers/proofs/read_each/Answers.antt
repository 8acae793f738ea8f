-- One more byte is read.
use Rattle.std.proofs.Common.{refl, arith}
use Rattle.registers.specs.Reads.{read_of}
use Rattle.registers.proofs.Reading.{read-turn}
use Rattle.registers.proofs.read_each.Goals as goal

pub loop-i-init : goal.loop-i-init
unfolding read_of
loop-i-init c = refl

pub loop-i-preserved : goal.loop-i-preserved
loop-i-preserved c =
    let l = c.loop-i in
    read-turn _ _ l.i l.into _ (omega arith) l.invariant c.read_at.ensures
