-- Memory does not have the place.
use borrow.Author.Tests.{ne_eqb}
use Rattle.rings.proofs.Laws.{response-lost}
use Rattle.rings.proofs.respond.Goals as goal

pub returns-then-not-put_response-clause-memory_after : goal.returns-then-not-put_response-clause-memory_after
returns-then-not-put_response-clause-memory_after c =
    let a = c.args in
    response-lost a.regs.now a.link a.memory.now a.value a.extended (simp (ne_eqb _ _ c.if-regs-eq0.false))
    _ _ c.get-base.ensures c.response_place-place.ensures _ _ c.put_response.ensures c.if-not-put_response.true
