-- `digest` meets its contract: one byte more. Assumes nothing.
use Rattle.std.proofs.Common.{arith}
use Rattle.rehearse.proofs.Digests.{digest-more, digest-all}
use Rattle.rehearse.proofs.digest.digest.Goals as goal

pub loop-byte-preserved : goal.loop-byte-preserved
loop-byte-preserved c =
    digest-more c.args.bytes.now c.loop-byte.byte-index c.loop-byte.sum _ c.loop-byte.invariant _ c.step-sum.ensures (omega arith)

pub returns : goal.returns
returns c =
    digest-all c.args.bytes.now c.loop-byte.byte-index c.loop-byte.sum _ c.loop-byte.invariant (omega arith)
