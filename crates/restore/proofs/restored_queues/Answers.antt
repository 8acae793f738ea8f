-- `restored_queues` is `restored_queues`: each call of the closure makes one queue.
use Prim.Native.Nat.{ℕ}
use borrow.Author.Rules.{rules}
use Rattle.stream.specs.Box.{streams}
use Rattle.queue.specs.Queues.{queue}
use Rattle.record.proofs.Rows.{made_row}
use Rattle.restore.specs.Restores.{opens_of}
use Rattle.restore.proofs.restored_queues.Goals as goal

pub returns : goal.returns
returns c =
    let a = c.args in
    made_row _ (λ (k : ℕ). queue (opens_of a.state.now a.microphone k) 0) _ (λ i y q called. search rules) c.from_fn.result streams c.from_fn.ensures.items
