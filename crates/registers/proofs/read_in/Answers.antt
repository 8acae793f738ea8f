-- Inside the file a read is a part of it.
use Rattle.std.proofs.Common.{ℕ, ◌≡◌, ◌+◌, ◌-◌, ◌≤◌, take, drop, length, sym, ap, ◌∙◌, arith}
use borrow.Author.Tests.{leb-true}
use Rattle.registers.specs.Places.{size}
use Rattle.registers.proofs.Reading.{read-inside}
use Rattle.registers.proofs.read_in.Goals as goal

pub returns-then-is_inside : goal.returns-then-is_inside
returns-then-is_inside c =
    let a = c.args in
    let n : ℕ = length a.into.now in
    let within : a.offset + n ≤ size = leb-true _ _ (sym c.is_inside.ensures ∙ c.if-is_inside.true) in
    let count : a.offset + n - a.offset ≡ n = omega arith in
    c.copy_from_slice.ensures.after ∙ ap (λ (k : ℕ). take k (drop a.offset a.regs.now)) count ∙ sym (read-inside a.regs.now c.requires a.offset n within)
