-- The call of a timer with jitter (request T-13) on the bytes that a caller lends: it is the call on what the records hold, behind the test that they are records.
use Rattle.std.specs.Prelude.{ℕ, false, cond, List, length}
use Rattle.device.specs.Machines.{machine}
use Rattle.record.specs.Loads.{device_at}
use Rattle.host_record.specs.Hosts.{host_at}
use Rattle.jitter.specs.Calls as jitter
use Rattle.jitter.specs.Calls.{Scratch, Bounding}
use Rattle.reply.specs.Replies.{reply_of, unreadable_of, is_machine}

-- what the function returns, the scratch, and the result's space
pub record BoundedBytes : Type 0 where
  pub reply : ℕ
  pub scratch : Scratch
  pub into : List ℕ

abbrev pub bounded_out : ℕ → Scratch → List ℕ → BoundedBytes
bounded_out reply s into = record { reply = reply; scratch = s; into = into }

-- the result's length is the value returned
abbrev pub bounded_of : Bounding → BoundedBytes
bounded_of b = bounded_out (reply_of b.bounded.number b.bounded.level false b.bounded.count) b.scratch b.into

-- bytes that are no records leave all of it as it was
unfoldable pub bounds_of : ℕ → ℕ → List ℕ → List ℕ → List ℕ → List ℕ → List ℕ → Scratch → List ℕ → BoundedBytes
bounds_of shortest longest device host lists queues memory s into =
    cond (is_machine device host) (bounded_of (jitter.bounds_of shortest longest (machine (device_at device) (host_at host) lists queues memory) s into))
    (bounded_out (unreadable_of (length lists) (length queues)) s into)
