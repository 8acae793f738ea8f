-- What follows from demand 3 on bytes: no completion dropped or reported twice, what the position register then shows, and how far a stream is ahead of what is heard.
use Rattle.std.specs.Prelude.{ℕ, ◌+◌, ◌/◌, ◌%◌, ◌^◌, ◌≤◌, ◌<◌, ◌≡◌, Bool, true, List, take}
use Rattle.word.specs.Place.{word_at}
use Rattle.stream.specs.Box.{streams}
use Rattle.queue.specs.Queues.{capacity}
use Rattle.host.specs.Hosts.{max_downstream}
use Rattle.registers.specs.Places.{lpib, cbl}
use Rattle.turn.specs.Engines.{position_of}
use Rattle.record.specs.Loads.{block_at}
use Rattle.calls.specs.Calls as calls
use Rattle.port_device.specs.Calls.{Lent}
use Rattle.lent_calls.specs.Calls.{new, on, call_of, after}
use Rattle.book.specs.Corollaries.{Once, Serves}
use Rattle.lent_book.specs.Lists.{Step, handed, run, stream_in, new_reply, events_of, book_of}
use Rattle.lent_book.specs.Claim.{Starts, NoRestore}

-- the registers in a device's record (docs/LAYOUT.md)
abbrev pub registers_in : Lent → List ℕ
registers_in x = block_at 262 x.device

-- stream i's position register has consumed modulo the cyclic length, or 0 where that is 0, by the registers as they stand
abbrev pub ShowsIn : ℕ → Lent → Type 0
ShowsIn i x = word_at 4 (lpib i) (registers_in x) ≡ position_of (stream_in i x).consumed (word_at 4 (cbl i) (registers_in x))

pub record CorollariesBytes : Type 0 where
  pub once : (i : ℕ) → i < streams → (cs : List Step) (x : Lent) → Starts x → Once (book_of i cs x)
  -- an hda_advance that served the stream, after any list
  pub advanced : (i : ℕ) → i < streams → (cs : List Step) (x : Lent) → Starts x → (c : Step) (nanos : ℕ) → c.call ≡ on (calls.advance nanos)
      → Serves (events_of i c.call (handed c (run cs x))) → ShowsIn i (after c.call (handed c (run cs x)))
  -- what hda_save writes is never refused with 20 by hda_restore, whatever bytes that is handed beside (request T-09)
  pub saves : (cs : List Step) (x : Lent) → Starts x → (c : Step) (into : List ℕ) → let r = call_of (on (calls.save into)) (handed c (run cs x)) in
      r.reply % 256 ≡ 0 → (y : Lent) → (call_of (on (calls.restore true (take (r.reply / 2 ^ 32) r.into))) y).reply % 256 ≡ 20 → ⊥
  -- a full queue and the largest downstream count
  pub near : (i : ℕ) → i < streams → (cs : List Step) (microphone : Bool) (x : Lent) → new_reply microphone x ≡ 0 → NoRestore cs (after (new microphone) x)
      → let s = stream_in i (run cs (after (new microphone) x)) in s.submitted ≤ s.consumed + (capacity + max_downstream)
