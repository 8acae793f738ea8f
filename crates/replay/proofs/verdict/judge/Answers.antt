-- `judge` meets its contract. Assumes nothing.
use Rattle.std.proofs.Common.{true, false, sym, ◌∙◌}
use Rattle.replay.proofs.Verdicts.{own_is, verdict-unreadable, verdict-known}
use Rattle.replay.proofs.verdict.judge.Goals as goal

pub returns-then-not-known : goal.returns-then-not-known
returns-then-not-known c =
    let decoded = c.decode.ensures in
    let answer = c.answer-known.ensures in
    let encoded = c.encode.ensures in
    record { value = verdict-unreadable _ _ _ _ _ _ decoded answer encoded c.if-not-known.true; own_after = own_is _ _ _ _ _ _ decoded answer encoded }

pub returns-then-same : goal.returns-then-same
returns-then-same c =
    let decoded = c.decode.ensures in
    let answer = c.answer-known.ensures in
    let encoded = c.encode.ensures in
    record { value = verdict-known _ _ _ _ _ _ decoded answer encoded true c.if-not-known.false (sym c.if-same.true ∙ c.same.ensures); own_after = own_is _ _ _ _ _ _ decoded answer encoded }

pub returns-else-same : goal.returns-else-same
returns-else-same c =
    let decoded = c.decode.ensures in
    let answer = c.answer-known.ensures in
    let encoded = c.encode.ensures in
    record { value = verdict-known _ _ _ _ _ _ decoded answer encoded false c.if-not-known.false (sym c.if-same.false ∙ c.same.ensures); own_after = own_is _ _ _ _ _ _ decoded answer encoded }
