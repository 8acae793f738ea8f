-- What the types of a host end's parts say of it: so a host end is the one that its bytes give.
use Rattle.std.specs.Prelude.{ℕ, ◌<◌, ◌≡◌, length}
use Rattle.stream.specs.Box.{streams}
use Rattle.record.specs.Typed.{Fits}
use Rattle.host.specs.declared.Host.{Host}
use Rattle.host.specs.Hosts.{queue_at}

pub record TypedHost (h : Host) : Type 0 where
  pub downstream : Fits 4 h.downstream
  pub count : length h.queues ≡ streams
  pub lengths : (i : ℕ) → i < streams → Fits 4 (queue_at h i).length
