-- `encode` meets its contract: one byte's digits more. Assumes nothing.
use Rattle.std.proofs.Common.{arith}
use Rattle.replay.proofs.Digits.{encode-step, encode-end}
use Rattle.replay.proofs.hex.encode.Goals as goal

pub loop-i-preserved : goal.loop-i-preserved
loop-i-preserved c =
    encode-step c.args.bytes.now c.loop-i.text c.loop-i.i c.loop-i.invariant _ _ c.digit.ensures c.digit-in-loop-i.ensures (omega arith) (omega arith)

pub returns : goal.returns
returns c =
    encode-end c.args.bytes.now c.loop-i.text c.loop-i.i c.loop-i.invariant (omega arith) (omega arith)
