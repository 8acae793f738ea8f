-- An alias is of a byte of the file.
use Rattle.std.proofs.Common.{sym, ◌∙◌, arith}
use Rattle.registers.proofs.Reading.{alias-near}
use Rattle.registers.proofs.read_byte.Goals as goal

pub overflow_sub-result : goal.overflow_sub-result
overflow_sub-result c = (alias-near _ (sym c.is_alias.ensures ∙ c.if-is_alias.true)).0

pub bounds-regs-address-then-is_alias : goal.bounds-regs-address-then-is_alias
bounds-regs-address-then-is_alias c = omega (arith, alias-near _ (sym c.is_alias.ensures ∙ c.if-is_alias.true))
