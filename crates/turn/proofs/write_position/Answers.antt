-- `write_position` meets its contract: an address past 64 bits is outside memory, and else the write decides. Assumes nothing.
use Prim.Native.Nat.{ℕ}
use mathlib.Core.Path.{sym, ap, ◌∙◌}
use native.Mathlib.Omega.{arith}
use Rattle.memory.specs.Memory.{write_of}
use Rattle.memory.proofs.Laws.{write-outside}
use Rattle.word.specs.Value.{bytes_of}
use Rattle.word.proofs.Endian.{bytes8}
use Rattle.turn.specs.Engines.{position_at}
use Rattle.turn.proofs.write_position.Goals as goal

pub returns-in_default : goal.returns-in_default
returns-in_default c =
    let a = c.args in
    sym (write-outside a.memory.now (position_at a.dplbase a.index) (bytes_of 8 a.position) (omega (arith, c.in_default.ensures)))

pub returns : goal.returns
returns c =
    let a = c.args in
    let bytes = c.to_le_bytes in
    c.write.ensures
    ∙ ap (λ (address : ℕ). write_of a.memory.now address bytes.result) c.in-Some.ensures.1
    ∙ ap (write_of a.memory.now (position_at a.dplbase a.index)) (bytes.ensures ∙ bytes8 c.from.result ∙ ap (bytes_of 8) c.from.ensures)
