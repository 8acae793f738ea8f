-- `decode` meets its contract: one byte more of what the text gives. Assumes nothing.
use Rattle.std.proofs.Common.{arith}
use Rattle.replay.proofs.Digits.{decode-step, decode-end}
use Rattle.replay.proofs.hex.decode.Goals as goal

pub loop-i-preserved : goal.loop-i-preserved
loop-i-preserved c =
    decode-step c.args.text.now c.loop-i.bytes c.loop-i.i c.loop-i.invariant _ c.pair.ensures (omega arith) (omega arith)

pub returns : goal.returns
returns c =
    decode-end c.args.text.now c.loop-i.bytes c.loop-i.i c.loop-i.invariant (omega arith) (omega arith)
