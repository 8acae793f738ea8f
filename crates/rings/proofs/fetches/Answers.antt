-- The loop ends where no command waits, where memory does not have one, or where each round was used.
use Rattle.std.proofs.Common.{◌≡◌, ℕ, ◌-◌, ◌+◌, sym, ap, ◌∙◌, arith}
use Rattle.word.specs.Value.{value_of}
use Rattle.rings.specs.Rings.{Rings, rings_of, fetch_of, executed_of, fetches_of}
use Rattle.rings.proofs.Laws.{fetched-some, fetched-none, fetches-end, fetches-rest, fetches-halt, fetches-more}
use Rattle.rings.proofs.fetches.Goals as goal

pub returns-then-caught_up : goal.returns-then-caught_up
returns-then-caught_up c =
    let l = c.loop in
    let x : Rings = rings_of l.regs l.link l.memory in
    sym (fetches-rest x (c.entries-end.result - l.counter) (sym c.caught_up.ensures ∙ c.if-caught_up.true)) ∙ rw (← c.entries-end.ensures) l.invariant.1

pub returns-in_default : goal.returns-in_default
returns-in_default c =
    let l = c.loop in
    let x : Rings = rings_of l.regs l.link l.memory in
    let none = fetched-none (fetch_of x) (sym c.in_default.is ∙ c.fetch.ensures l.link) in
    sym (fetches-halt x (sym c.caught_up.ensures ∙ c.if-caught_up.false) (c.entries-end.result - l.counter) (omega arith) none)
    ∙ rw (← c.entries-end.ensures) l.invariant.1

pub loop-preserved : goal.loop-preserved
loop-preserved c =
    let l = c.loop in
    let x : Rings = rings_of l.regs l.link l.memory in
    let f = fetched-some (fetch_of x) c.in-Some.command (sym c.in-Some.is ∙ c.fetch.ensures l.link) in
    let left : c.entries-end.result - l.counter - 1 ≡ c.entries-end.result - (l.counter + 1) = omega arith in
    let more = fetches-more x (sym c.caught_up.ensures ∙ c.if-caught_up.false) (c.entries-end.result - l.counter) (omega arith) f.0 in (
      c.execute-link.ensures.responses_bound,
      ap (fetches_of (c.entries-end.result - (l.counter + 1))) (c.execute-link.ensures.memory_after ∙ ap (executed_of x) f.1)
          ∙ sym (more ∙ ap (λ (n : ℕ). fetches_of n (executed_of x (value_of (fetch_of x).bytes))) left)
          ∙ l.invariant.1,
    )

pub returns : goal.returns
returns c =
    let l = c.loop in
    sym (fetches-end (rings_of l.regs l.link l.memory) (c.entries-end.result - l.counter) (omega arith)) ∙ rw (← c.entries-end.ensures) l.invariant.1
