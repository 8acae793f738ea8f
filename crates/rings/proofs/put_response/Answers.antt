-- A place past 64 bits is outside memory.
use Rattle.std.proofs.Common.{ℕ, ◌≡◌, sym, ap, ◌∙◌, ◌++◌, arith}
use Rattle.word.specs.Value.{bytes_of}
use Rattle.word.specs.Place.{store_at}
use Rattle.memory.specs.Memory.{write_of}
use Rattle.memory.proofs.Laws.{write-outside}
use Rattle.rings.specs.Rings.{entry_at}
use Rattle.rings.proofs.Laws.{entry-bytes}
use Rattle.rings.proofs.put_response.Goals as goal

pub returns-in_default : goal.returns-in_default
returns-in_default c =
    let a = c.args in
    sym (write-outside a.memory.now (entry_at a.base 8 a.place) (bytes_of 4 a.value ++ bytes_of 4 a.extended) (omega (arith, c.in_default.ensures)))

pub returns : goal.returns
returns c =
    let a = c.args in
    let place : c.in-Some.address ≡ entry_at a.base 8 a.place = omega (arith, c.in-Some.ensures) in
    c.write.ensures
    ∙ ap (λ (i : ℕ). write_of a.memory.now i c.put-2.new.s) place
    ∙ ap (write_of a.memory.now (entry_at a.base 8 a.place)) (c.put-2.ensures ∙ ap (store_at 4 4 a.extended) c.put.ensures ∙ entry-bytes a.value a.extended)
