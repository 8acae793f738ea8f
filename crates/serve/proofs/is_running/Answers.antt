-- `is_running` meets its contract: the shift makes the weight of the stream's bit. Assumes nothing.
use native.Mathlib.Nat.{one-mul}
use native.Mathlib.Omega.{arith}
use lib.Pow.{shl_exact}
use Rattle.serve.proofs.is_running.Goals as goal

pub returns : goal.returns
returns c =
    rw (c.get-sync.ensures, shl_exact {a = 1} 1 c.args.index 32 (omega arith) (omega arith), one-mul)
