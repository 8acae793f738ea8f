-- `put_queues` puts `queues_bytes`: a turn, and the end.
use Prim.Native.Nat.{ℕ, ◌+◌}
use mathlib.Core.Path.{sym, ◌∙◌}
use native.Mathlib.Omega.{arith}
use Rattle.stream.specs.Box.{streams}
use Rattle.host.specs.Hosts as hosts
use Rattle.record.proofs.Rows.{runs-turn, runs-end}
use Rattle.host_record.specs.Hosts.{queue_place, queue_bytes}
use Rattle.host_record.proofs.put_queues.Goals as goal

pub loop-index-preserved : goal.loop-index-preserved
loop-index-preserved c =
    let h = c.args.host in
    let i = c.loop-index.index in
    runs-turn (λ (k : ℕ). queue_bytes (hosts.queue_at h k)) streams i (queue_place i) (queue_place (i + 1)) c.loop-index.into c.put_queue.new.into
    (omega arith) (omega arith) (omega arith) c.put_queue.ensures
    ∙ c.loop-index.invariant

pub returns : goal.returns
returns c =
    let h = c.args.host in
    let i = c.loop-index.index in
    sym (runs-end (λ (k : ℕ). queue_bytes (hosts.queue_at h k)) streams i (queue_place i) c.loop-index.into (omega arith)) ∙ c.loop-index.invariant
