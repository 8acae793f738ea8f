-- A callback on bytes is the callback on the machine in them. Assumes nothing.
use Prim.Native.Nat.{ℕ, ◌<◌}
use mathlib.Core.Path.{◌≡◌, refl, sym, ap, ◌∙◌}
use mathlib.Core.Bool.{true}
use mathlib.Core.List.{List}
use native.Mathlib.Nat.{zero-add}
use lib.ListN.{length}
use Rattle.clock.specs.Frames.{whole_frames_of}
use Rattle.stream.specs.declared.Stream.{Stream}
use Rattle.stream.specs.Box.{streams}
use Rattle.queue.specs.Queues.{closed}
use Rattle.host.specs.Hosts as hosts
use Rattle.device.specs.Machines.{Machine}
use Rattle.driver.specs.Calls as driver
use Rattle.advance.specs.Advance.{advance_of}
use Rattle.record.specs.Rows.{row_of}
use Rattle.record.specs.Loads.{device_at, is_device}
use Rattle.record.proofs.Places.{row_at}
use Rattle.record.proofs.Theorems.{stream-loaded}
use Rattle.host_record.specs.Hosts.{queue_at, queue_place, host_at, is_host}
use Rattle.reply.specs.Replies.{is_machine}
use Rattle.reply.proofs.Records.{machine-host}
use Rattle.calls.specs.Calls as calls
use Rattle.port_device.specs.Calls.{Lent, machine_at}
use Rattle.lent_calls.specs.Calls.{after}
use Rattle.lent_book.specs.Typed.{TypedMachine}
use Rattle.lent_book.proofs.Typed.{after-typed}
use Rattle.lent_book.proofs.Records.{Ready, stored-ready, machine-typed, Meets, left_meets}
use Rattle.catchup.specs.Callbacks as machines
use Rattle.lent_catchup.specs.Callbacks.{Handed, Callback, before_pull, after_pull, before_advance, left_by, deferred_in, submitted_in, queue_in, Asks}
use Rattle.lent_catchup.proofs.Numbers.{pull-number}

-- ---- what stands in the bytes
pub same-deferred : (i : ℕ) → i < streams → (x : Lent) → deferred_in i x ≡ machines.deferred_of i (machine_at x)
same-deferred i own x = sym (ap (λ (s : Stream). whole_frames_of s.fraction) (stream-loaded x.device i own))

pub same-submitted : (i : ℕ) → i < streams → (x : Lent) → submitted_in i x ≡ machines.submitted_of i (machine_at x)
same-submitted i own x = sym (ap (λ (s : Stream). s.submitted) (stream-loaded x.device i own))

pub same_queue : (i : ℕ) → i < streams → (x : Lent) → hosts.queue_at (machine_at x).host i ≡ queue_in i x
unfolding host_at
same_queue i own x = rw (row_at closed (λ (k : ℕ). queue_at (queue_place k) x.host) streams 0 i own, zero-add i)

-- what a record says of a device's size
pub ready-sized : (b : List ℕ) → Ready b → machines.Sized (device_at b)
ready-sized b r = record { registers = r.typed.sized.regs; count = r.typed.count }

-- ---- the callback on the machine
pub host-count : (b : List ℕ) → length (host_at b).queues ≡ streams
unfolding host_at row_of
host-count b = refl

abbrev pub handed_on : Handed → machines.Handed
handed_on g = record { host = host_at g.host; sized = host-count g.host; queues = g.queues; memory = g.memory }

abbrev pub on_machine : Callback → machines.Callback
on_machine c = record { pulling = handed_on c.pulling; into = c.into; advancing = handed_on c.advancing }

machine-of : (device host : List ℕ) → is_device device ≡ true → is_host host ≡ true → is_machine device host ≡ true
machine-of device host d h = rw (d, h)

-- one that asks for frames and is answered is the callback on the machine, and leaves a record
module _ (i frames : ℕ) (own : i < streams) (c : Callback) (x : Lent) (ready : Ready x.device) (asks : Asks i frames c x) where
  abbrev p : Lent
  p = before_pull c x

  abbrev y : Lent
  y = before_advance c x

  pulled : (is_host p.host ≡ true) × ((driver.pull_of (host_at p.host) p.queues c.into).fed.number ≡ 0)
  pulled = pull-number c.into p asks.taken

  pull-meets : Meets (after_pull c x) (calls.after (calls.pull c.into) (machine_at p))
  pull-meets =
      left_meets p (machine-of p.device p.host ready.there pulled.0) (machine-typed p ready pulled.0 c.pulling.hosts c.pulling.queued c.pulling.bytes) (calls.pull c.into) tt

  -- a pull leaves the device's bytes
  pub pull-ready : Ready y.device
  unfolding after
  pull-ready = ready

  -- so the `advance` finds the machine that it finds there
  pub found : machine_at y ≡ machines.before_advance (on_machine c) (machine_at x)
  unfolding after calls.after
  found = refl

  pub asked : machines.Asks i frames (on_machine c) (machine_at x)
  asked =
      record {
        enough = asks.enough;
        taken = pulled.1;
        untouched = same_queue i own y ∙ asks.untouched ∙ sym (same_queue i own (after_pull c x)) ∙ ap (λ (z : Machine). hosts.queue_at z.host i) pull-meets.same;
      }

  module _ (answered : (is_machine y.device y.host ≡ true) × ((advance_of 0 (machine_at y)).answer.number ≡ 0)) where
    typed : TypedMachine (machine_at y)
    typed = machine-typed y pull-ready (machine-host y.device y.host answered.0) c.advancing.hosts c.advancing.queued c.advancing.bytes

    advance-meets : Meets (left_by c x) (calls.after (calls.advance 0) (machine_at y))
    advance-meets = left_meets y answered.0 typed (calls.advance 0) tt

    pub left-machine : machine_at (left_by c x) ≡ machines.left_by (on_machine c) (machine_at x)
    left-machine = advance-meets.same ∙ ap (calls.after (calls.advance 0)) found

    pub left-ready : Ready (left_by c x).device
    left-ready =
        stored-ready (left_by c x).device advance-meets.there (calls.after (calls.advance 0) (machine_at y)) (ap (λ (z : Machine). z.hda) advance-meets.same)
        (after-typed (calls.advance 0) tt (machine_at y) typed)
