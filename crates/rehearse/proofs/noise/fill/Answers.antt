-- `fill` meets its contract: one byte more. Assumes nothing.
use Rattle.std.proofs.Common.{arith, length-set}
use Rattle.rehearse.proofs.Noises.{noise-none, noise-more, noise-all}
use Rattle.rehearse.proofs.noise.fill.Goals as goal

pub loop-byte-init : goal.loop-byte-init
loop-byte-init c =
    record { below = omega arith; noise = noise-none c.args.memory.now _ }

pub overflow_cast-byte : goal.overflow_cast-byte
overflow_cast-byte c =
    omega (arith, c.next-power.ensures.upper_bound)

pub loop-byte-preserved : goal.loop-byte-preserved
loop-byte-preserved c =
    let l = c.loop-byte in
    record {
      below = c.next-power.ensures.upper_bound;
      noise = noise-more l.memory l.byte-index l.power _ l.invariant.noise _ c.next-power.ensures.value (omega arith) _ (simp length-set (omega arith));
    }

pub returns : goal.returns
returns c =
    let l = c.loop-byte in noise-all l.memory l.byte-index l.power _ l.invariant.noise (omega arith)
