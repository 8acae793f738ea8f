-- `Engine::served` meets its contract: a position write that failed, or the time and its transfers. Assumes nothing.
use mathlib.Core.Path.{sym, subst}
use native.Mathlib.Omega.{arith}
use Rattle.turn.specs.Engines.{Updated}
use Rattle.turn.proofs.Rounds.{updated-keeps, Within, within}
use Rattle.turn.proofs.Engine.served.Goals as goal

pub rounds-requires : goal.rounds-requires
rounds-requires c =
    let a = c.args in
    let u = c.updated-e in
    let bounds = subst (λ (x : Updated). Within x.engine.stream x.engine.queue x.list) (sym u.ensures)
    (updated-keeps Within within a.g a.self a.list.now a.memory.now (c.requires.pending, c.requires.queued)) in
    record {
      stream = c.requires.stream;
      pending = bounds.0;
      queued = bounds.1;
      limited = c.requires.limited;
      long = omega (arith, u.auto.list, c.requires.long);
      space = c.requires.space;
    }
