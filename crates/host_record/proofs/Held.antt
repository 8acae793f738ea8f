-- A host end that the code holds: a queue for each stream, and numbers within their types, which is what its types say of a value. Assumes nothing.
use Prim.Native.Nat.{ℕ, zero, suc, ◌<◌}
use mathlib.Core.List.{List, [], ◌∷◌}
use native.Mathlib.Omega.{arith}
use native.Mathlib.Nat.{not-suc-le-zero}
use lib.ListN.{length, get_or}
use mir.Val.{Val}
use denote.Laws.{Is}
use denote.Shadow.{shadow}
use denote.Array.{each}
use Rattle.queue.specs.declared.Queue.{Queue}
use Rattle.queue.specs.Queues.{closed}
use Rattle.queue.specs.contracts.Queue as queue
use Rattle.host.specs.declared.Host.{Host}
use Rattle.host.specs.contracts.Host as host
use Rattle.host.proofs.Held.{queues-held}
use Rattle.record.specs.Typed.{Fits}
use Rattle.host_record.specs.Typed.{TypedHost}

queue-held : (q : Queue) (vs : List Val) → Is queue.the_row q vs → Fits 4 q.length
queue-held q vs s = s.1.1.1.0.1

each-held : (qs : List Queue) (us : List Val) → shadow (each (queue.the_row).Denot (queue.the_row).own_val qs us)
    → (i : ℕ) → i < length qs → Fits 4 (get_or qs i closed).length
each-held [] us s i b = absurd (not-suc-le-zero b)
each-held (q ∷ qs) [] s i b = absurd s
each-held (q ∷ qs) (u ∷ us) s zero b = queue-held q (u ∷ []) s.0
each-held (q ∷ qs) (u ∷ us) s (suc i) b = each-held qs us s.1 i (omega arith)

pub held-typed : (h : Host) (vs : List Val) → Is host.the_row h vs → TypedHost h
held-typed h vs s =
    let count = queues-held h vs s in
    let later = s.1.1.1.1 in
    let array = later.1.0 in
    record {
      downstream = later.0.1;
      count = count;
      lengths = λ i few. each-held h.queues array.0 array.1.1 i (omega arith);
    }
