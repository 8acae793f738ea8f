-- `run` meets its contract: the copy of the record is the record. Assumes nothing.
use mathlib.Core.Path.{refl, ap, ◌∙◌}
use lib.ListN.{length}
use Rattle.record.specs.Loads.{is_device}
use Rattle.jitter.proofs.Cases.{record-copied, run-done}
use borrow.Author.Rules.{rules}
use Rattle.jitter.proofs.run.Goals as goal

pub advance-requires : goal.advance-requires
advance-requires c =
    let k = c.copy in
    let same = record-copied c.args.device.now _ k.new.into c.requires.0 refl k.ensures in
    (ap length same ∙ c.requires.0, ap is_device same ∙ c.requires.1)

pub returns : goal.returns
returns c =
    let r = c.advance in
    let k = c.copy in
    let a = c.args in
    let same = record-copied a.device.now _ k.new.into c.requires.0 refl k.ensures in
    run-done r.result a.device.now k.new.into r.new.device a.lists.now a.queues.now a.memory.now r.new.lists r.new.queues r.new.memory c.counts.result a.host a.nanos same r.ensures.memory_after c.counts.ensures
