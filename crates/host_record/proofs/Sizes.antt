-- How long a host end's bytes are. Assumes nothing.
use Prim.Native.Nat.{ℕ, ◌*◌}
use mathlib.Core.Path.{◌≡◌, refl}
use native.Mathlib.Omega.{arith}
use lib.ListN.{length}
use Rattle.stream.specs.Box.{streams}
use Rattle.host.specs.declared.Host.{Host}
use Rattle.host.specs.Hosts as hosts
use Rattle.record.proofs.Rows.{length_runs}
use Rattle.host_record.specs.Hosts.{queue_size, host_size, queue_bytes, queues_bytes, host_bytes}

length-queues : (h : Host) → length (queues_bytes streams 0 h) ≡ queue_size * streams
length-queues h = length_runs (λ (k : ℕ). queue_bytes (hosts.queue_at h k)) queue_size (λ i. refl) streams 0

pub length-host : (h : Host) → length (host_bytes h) ≡ host_size
unfolding host_bytes
length-host h = omega (arith, length-queues h)
