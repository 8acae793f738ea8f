-- An address past 64 bits is past all aliases.
use Rattle.std.proofs.Common.{sym, arith}
use Rattle.registers.proofs.Reading.{read-far}
use Rattle.registers.proofs.read_at.Goals as goal

pub returns-in-None : goal.returns-in-None
returns-in-None c = sym (read-far _ _ (omega (arith, c.in-None.ensures)))
