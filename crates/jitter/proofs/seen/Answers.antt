-- `seen` meets its contract. Assumes nothing.
use Prim.Native.Nat.{ℕ}
use mathlib.Core.Path.{ap, ◌∙◌}
use Rattle.counts.specs.Counts.{ring_at, ring_window}
use Rattle.jitter.specs.Steps.{window_of, seen_of}
use borrow.Author.Rules.{rules}
use Rattle.jitter.proofs.seen.Goals as goal

pub returns : goal.returns
unfolding seen_of
returns c =
    let m = c.args.memory.now in
    let lists = c.descriptor_lists in
    c.window.ensures
    ∙ ap (λ (k : ℕ). window_of m k ring_window lists.new.into) c.base-ring.ensures
    ∙ ap (window_of m (ring_at c.args.regs.now) ring_window) lists.ensures
