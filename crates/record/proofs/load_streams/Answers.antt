-- `load_streams` is `streams_at`: each call of the closure loads one stream.
use Prim.Native.Nat.{ℕ, ◌+◌, ◌*◌}
use borrow.Author.Rules.{rules}
use Rattle.stream.specs.Box.{streams}
use Rattle.record.specs.Loads.{stream_at}
use Rattle.record.proofs.Rows.{made_row}
use Rattle.record.proofs.load_streams.Goals as goal

pub returns : goal.returns
returns c =
    let from = c.args.from.now in
    made_row _ (λ (k : ℕ). stream_at (680 + 34 * k) from) _ (λ i y q called. search rules) c.from_fn.result streams c.from_fn.ensures.items
