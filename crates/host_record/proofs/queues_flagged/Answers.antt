-- `queues_flagged` is `queues_flagged`: the closure tests one queue.
use Prim.Native.Nat.{ℕ}
use mathlib.Core.Path.{◌∙◌, refl}
use borrow.Author.Rules.{rules}
use Rattle.std.proofs.Common.{tests}
use Rattle.std.proofs.lemmas.Iterator.{YieldsList-from_range}
use Rattle.std.proofs.lemmas.Iterator.Search.{all_from_yields_List}
use Rattle.stream.specs.Box.{streams}
use Rattle.record.specs.Loads.{is_flag_at}
use Rattle.host_record.specs.Hosts.{queue_place}
use Rattle.host_record.proofs.Scan.{flagged_list}
use Rattle.host_record.proofs.queues_flagged.Goals as goal

pub returns : goal.returns
returns c =
    let from = c.args.from.now in
    all_from_yields_List (λ (k : ℕ). is_flag_at (queue_place k) from) _ _ c.all.result c.all.ensures.ran (YieldsList-from_range 0 streams streams refl refl) (λ x b q called. search (rules, tests))
    ∙ flagged_list from streams 0
