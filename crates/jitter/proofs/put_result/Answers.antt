-- `put_result` meets its contract. The invariant: the rows from `index` on make of the space what all of them make of it as it was. Assumes nothing.
use Prim.Native.Nat.{ℕ, ◌+◌, ◌-◌, ◌*◌}
use mathlib.Core.Path.{◌≡◌, refl, sym, ap, ◌∙◌}
use mathlib.Core.List.{List}
use lib.ListN.{length, get_or}
use Rattle.word.specs.Place.{store_at}
use Rattle.word.specs.Each.{always, each_of}
use Rattle.word.proofs.Each.{each_step, each-end}
use Rattle.stream.specs.Box.{streams}
use Rattle.jitter.specs.declared.Spread.{Spread}
use Rattle.jitter.specs.Calls.{row_size}
use borrow.Author.Rules.{rules}
use Rattle.jitter.proofs.put_result.Invariants.{row}
use Rattle.jitter.proofs.put_result.Goals as goal

pub loop-index-init : goal.loop-index-init
loop-index-init c =
    (streams, refl, refl)

pub loop-index-preserved : goal.loop-index-preserved
loop-index-preserved c =
    let l = c.loop-index in
    let r = c.args.spread in
    let low = c.put in
    let high = c.put-in-loop-index in
    let into = high.new.s in
    let put : into ≡ row r l.index l.into = high.ensures ∙ ap (store_at 8 (row_size * l.index + 8) (get_or r.highest l.index 0)) low.ensures in
    let k = each_step always (row r) streams l.index l.invariant.0 l.into into l.invariant.1 c.loop-index-test.true put refl in
    (k.0, k.1, sym k.2 ∙ l.invariant.2)

pub returns : goal.returns
returns c =
    let l = c.loop-index in
    sym (each-end always (row c.args.spread) streams l.index l.invariant.0 l.into l.invariant.1 c.loop-index-test.false) ∙ l.invariant.2
