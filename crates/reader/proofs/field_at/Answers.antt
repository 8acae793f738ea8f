-- `reader::field_at` meets its contract: each turn reads one byte more, from the highest down. Assumes nothing.
use Rattle.std.proofs.Common.{◌<◌, ◌≤◌, ◌+◌, ◌-◌, ◌^◌, length, ap, sym, ◌∙◌, arith}
use Rattle.std.proofs.lemmas.Grind.{common_steps}
use Rattle.std.specs.Prelude.{Some}
use Rattle.reader.specs.Fields.{took_of}
use Rattle.reader.proofs.Fields.{field-there}
use Rattle.reader.proofs.Number.{none, all, one_more, room}
use Rattle.reader.proofs.field_at.Goals as goal

pub loop-i-init : goal.loop-i-init
loop-i-init c =
    let a = c.args in none a.s.now a.at a.n

-- the number so far leaves room for another byte
pub overflow_mul-v : goal.overflow_mul-v
overflow_mul-v c =
    let a = c.args in
    let l = c.loop-i in
    let fits : a.at + a.n ≤ length a.s.now = grind (arith, common_steps) in
    let so_far : l.v < 2 ^ 56 = room a.s.now a.at a.n l.i l.v (omega arith) (omega arith) fits l.invariant c.requires (λ k. (c.type_inv.s k).fits) in
    omega arith

pub overflow_add-v : goal.overflow_add-v
overflow_add-v c =
    let a = c.args in
    let l = c.loop-i in
    let fits : a.at + a.n ≤ length a.s.now = grind (arith, common_steps) in
    let so_far : l.v < 2 ^ 56 = room a.s.now a.at a.n l.i l.v (omega arith) (omega arith) fits l.invariant c.requires (λ k. (c.type_inv.s k).fits) in
    omega (arith, c.type_inv.s (a.at + (l.i - 1)))

pub loop-i-preserved : goal.loop-i-preserved
loop-i-preserved c =
    let a = c.args in
    let l = c.loop-i in
    let fits : a.at + a.n ≤ length a.s.now = grind (arith, common_steps) in
    rw c.from.ensures (one_more a.s.now a.at a.n l.i l.v (omega arith) (omega arith) fits l.invariant)

pub returns : goal.returns
returns c =
    let a = c.args in
    let l = c.loop-i in
    let fits : a.at + a.n ≤ length a.s.now = grind (arith, common_steps) in
    ap (λ v. took_of (Some v) (a.at + a.n)) (all a.s.now a.at a.n l.i l.v (omega arith) l.invariant)
    ∙ sym (field-there a.s.now a.at a.n fits)
