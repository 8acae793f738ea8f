-- `descriptor_lists` meets its contract. The invariant: the windows from `index` on make of it what all of them make of it as it was. Assumes nothing.
use Prim.Native.Nat.{ℕ, ◌+◌, ◌-◌}
use mathlib.Core.Path.{◌≡◌, refl, sym, ap, ◌∙◌}
use lib.ListN.{length}
use Rattle.word.specs.Each.{always, each_of}
use Rattle.word.proofs.Each.{each_step, each-end}
use Rattle.stream.specs.Box.{streams}
use Rattle.counts.specs.Counts.{list_at, list_window}
use Rattle.jitter.specs.Steps.{window_of, windows_of}
use borrow.Author.Rules.{rules}
use Rattle.jitter.proofs.descriptor_lists.Goals as goal

pub loop-index-init : goal.loop-index-init
loop-index-init c =
    (streams, refl, refl)

pub loop-index-preserved : goal.loop-index-preserved
loop-index-preserved c =
    let w = c.window in
    let l = c.loop-index in
    let m = c.args.memory.now in
    let r = c.args.regs.now in
    let into = w.new.into in
    let put : into ≡ window_of m (list_at r l.index) list_window l.into = w.ensures ∙ ap (λ (k : ℕ). window_of m k list_window l.into) c.base-list.ensures in
    let k = each_step always (λ (i : ℕ). window_of m (list_at r i) list_window) streams l.index l.invariant.0 l.into into l.invariant.1 c.loop-index-test.true put refl in
    (k.0, k.1, sym k.2 ∙ l.invariant.2)

pub returns : goal.returns
returns c =
    let l = c.loop-index in
    let m = c.args.memory.now in
    let r = c.args.regs.now in
    sym (each-end always (λ (i : ℕ). window_of m (list_at r i) list_window) streams l.index l.invariant.0 l.into l.invariant.1 c.loop-index-test.false) ∙ l.invariant.2
