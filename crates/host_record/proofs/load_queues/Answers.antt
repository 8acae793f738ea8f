-- `load_queues` is `queues_at`: each call of the closure loads one queue.
use Prim.Native.Nat.{ℕ}
use borrow.Author.Rules.{rules}
use Rattle.stream.specs.Box.{streams}
use Rattle.record.proofs.Rows.{made_row}
use Rattle.host_record.specs.Hosts.{queue_at, queue_place}
use Rattle.host_record.proofs.load_queues.Goals as goal

pub returns : goal.returns
returns c =
    let from = c.args.from.now in
    made_row _ (λ (k : ℕ). queue_at (queue_place k) from) _ (λ i y q called. search rules) c.from_fn.result streams c.from_fn.ensures.items
