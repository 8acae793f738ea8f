-- The rounds that are left, from here, give what all of them give from the start, and no more than 255 responses wait.
use Rattle.std.proofs.Common.{◌≡◌, ◌-◌, ◌≤◌}
use Rattle.rings.specs.Rings.{rings_of, fetches_of}
use Rattle.rings.proofs.fetches.Given as goal

abbrev pub invariant-loop : goal.invariant-loop
invariant-loop l =
    (l.link.responses ≤ 255)
    × (fetches_of (l.end - l.counter) (rings_of l.regs l.link l.memory) ≡ fetches_of l.end (rings_of l.initial.regs l.initial.link l.initial.memory))
