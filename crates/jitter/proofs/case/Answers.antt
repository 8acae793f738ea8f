-- `case` meets its contract: on scratch that is filled, the counts are the machine's own. Assumes nothing.
use mathlib.Core.Path.{◌≡◌}
use lib.ListN.{length}
use Rattle.word.specs.Value.{Bytes}
use Rattle.stream.specs.Box.{streams}
use Rattle.host.proofs.Held.{queues-held}
use Rattle.jitter.proofs.Cases.{case-done}
use borrow.Author.Rules.{rules}
use Rattle.jitter.proofs.case.Goals as goal

pub returns : goal.returns
returns c =
    let a = c.args in
    let r = c.run in
    let f = c.fill in
    let bytes : Bytes a.device.now = λ i. (c.type_inv.device i).fits in
    let hosted : length a.host.queues ≡ streams = queues-held a.host _ c.well_formed.1.0 in
    case-done a.device.now a.lists.now a.queues.now a.memory.now a.host bytes hosted a.lists2.now a.queues2.now a.memory2.now c.requires
    _ _ _ r.result a.nanos f.ensures.0 f.ensures.1 f.ensures.2 r.ensures
