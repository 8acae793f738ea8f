-- Calls on a host end record, on the bytes that a caller lends: each is the driver's call on what the record holds, behind the test that it is one.
use Rattle.std.specs.Prelude.{ℕ, ◌*◌, Bool, false, cond, List, length, eqb, ltb}
use Rattle.stream.specs.Box.{streams}
use Rattle.queue.specs.Queues.{capacity}
use Rattle.host.specs.declared.Host.{Host}
use Rattle.host.specs.Hosts as hosts
use Rattle.driver.specs.Calls.{Fed, Set}
use Rattle.driver.specs.Calls as driver
use Rattle.host_record.specs.Hosts.{host_size, host_bytes, host_at, is_host}
use Rattle.reply.specs.Replies.{reply_of}

-- short queue space gives 10, then bytes that are no record 9
abbrev pub short_of : ℕ → Bool
short_of queues = ltb queues (capacity * streams)

abbrev pub unreadable_of : ℕ → ℕ
unreadable_of queues = cond (short_of queues) 10 9

-- what a call returns, and the record as it leaves it
pub record Kept : Type 0 where
  pub reply : ℕ
  pub host : List ℕ

abbrev pub kept : ℕ → List ℕ → Kept
kept reply host = record { reply = reply; host = host }

abbrev pub fed_of : Fed → Kept
fed_of f = kept (reply_of f.number false false f.frames) (host_bytes f.host)

abbrev pub set_of : Set → Kept
set_of s = kept (reply_of s.number false false 0) (host_bytes s.host)

-- with the queues' bytes, and with a buffer
pub record FedBytes : Type 0 where
  pub kept : Kept
  pub queues : List ℕ

abbrev pub fed_out : ℕ → List ℕ → List ℕ → FedBytes
fed_out reply host queues = record { kept = kept reply host; queues = queues }

pub record PulledBytes : Type 0 where
  pub kept : Kept
  pub queues : List ℕ
  pub into : List ℕ

abbrev pub pulled_out : ℕ → List ℕ → List ℕ → List ℕ → PulledBytes
pulled_out reply host queues into = record { kept = kept reply host; queues = queues; into = into }

-- a new host end, where there is room for its record
unfoldable pub new_of : List ℕ → ℕ → Kept
new_of host queues = cond (short_of queues) (kept 10 host) (cond (eqb (length host) host_size) (kept 0 (host_bytes hosts.fresh_of)) (kept 9 host))

unfoldable pub feed_of : List ℕ → List ℕ → List ℕ → FedBytes
feed_of host queues frames =
    let f = driver.feed_of (host_at host) queues frames in
    cond (is_host host) (record { kept = fed_of f.fed; queues = f.space }) (fed_out (unreadable_of (length queues)) host queues)

unfoldable pub pull_of : List ℕ → List ℕ → List ℕ → PulledBytes
pull_of host queues into =
    let f = driver.pull_of (host_at host) queues into in
    cond (is_host host) (record { kept = fed_of f.fed; queues = f.space; into = f.into }) (pulled_out (unreadable_of (length queues)) host queues into)

-- a setting, of the host end and the length of the queue space
unfoldable pub setting : (Host → ℕ → Set) → List ℕ → ℕ → Kept
setting call host queues = cond (is_host host) (set_of (call (host_at host) queues)) (kept (unreadable_of queues) host)
