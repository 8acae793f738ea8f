-- The four bytes behind the read pointer, or they lie past 64 bits and so outside memory.
use Rattle.std.proofs.Common.{◌≡◌, ℕ, replicate, ap, ◌∙◌, arith}
use Rattle.memory.specs.Memory.{read_of}
use Rattle.rings.specs.Rings.{entry_at}
use Rattle.rings.proofs.Laws.{fetch-past, fetch-read}
use Rattle.rings.proofs.fetch.Goals as goal

pub returns-in_err-address : goal.returns-in_err-address
returns-in_err-address c =
    let a = c.args in
    λ l. rw c.from_residual.ensures (fetch-past a.regs.now a.memory.now l c.get.result c.command_place.result c.get.ensures c.command_place.ensures (omega (arith, c.in_err-address.ensures)))

pub returns-then-read : goal.returns-then-read
returns-then-read c =
    let a = c.args in
    let at : c.in_ok-address.address ≡ entry_at c.get.result 4 c.command_place.result = omega (arith, c.in_ok-address.ensures) in
    λ l.
    fetch-read a.regs.now a.memory.now l c.get.result c.command_place.result c.get.ensures c.command_place.ensures c.read.new.into c.get-then-read.result (omega arith)
    (c.if-read.ensures ∙ ap (λ (i : ℕ). read_of a.memory.now i (replicate 4 0)) at) c.get-then-read.ensures
