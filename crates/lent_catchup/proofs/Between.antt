-- Other calls between the callbacks, on bytes: each is the call on the machine in them, and leaves a record. Assumes nothing.
use Prim.Native.Nat.{ℕ, ◌-◌, ◌*◌, ◌≤◌, ◌<◌}
use mathlib.Core.Path.{◌≡◌, refl, sym, ap, subst, ◌∙◌}
use mathlib.Core.Bool.{true, false}
use mathlib.Core.List.{List, [], ◌∷◌}
use native.Mathlib.Omega.{arith}
use native.Mathlib.Nat.{le_trans}
use Rattle.word.specs.Value.{Bytes}
use Rattle.word.proofs.Choices.{by-test}
use Rattle.stream.specs.Box.{streams, captures}
use Rattle.device.specs.Machines.{Machine}
use Rattle.record.specs.Loads.{is_device}
use Rattle.reply.specs.Replies.{is_machine}
use Rattle.reply.proofs.Records.{machine-host}
use Rattle.port_device.specs.Calls.{Lent, machine_at}
use Rattle.calls.specs.Calls as calls
use Rattle.lent_calls.specs.Calls.{Call, new, host_new, on, after}
use Rattle.lent_book.specs.Lists.{Typed, Step, handed, run}
use Rattle.lent_book.proofs.Typed.{after-typed}
use Rattle.lent_book.proofs.Records.{Ready, bytes_ready, stored-ready, machine-typed, left_meets, left-stays}
use Rattle.catchup.specs.Callbacks as machines
use Rattle.catchup.specs.Claim.{least_pull, most_callbacks}
use Rattle.catchup.specs.Between.{Moment, callback, between, steps_among, callbacks_in}
use Rattle.catchup.specs.Corollaries.{taken_by}
use Rattle.catchup.proofs.Quiet.{quiet}
use Rattle.catchup.proofs.Theorem as theorem
use Rattle.lent_catchup.specs.Callbacks.{Callback, callback_steps, left_by, deferred_in}
use Rattle.lent_catchup.specs.Between.{IsQuiet, Among}
use Rattle.lent_catchup.proofs.Callbacks.{same-deferred}
use Rattle.lent_catchup.proofs.Theorem.{one-ready, one-late, one-most}

module _ (i : ℕ) (own : i < streams) where
  -- what a quiet call leaves: a record, in which no more is deferred
  record Leaves (x y : Lent) : Type 0 where
    ready : Ready y.device
    few : deferred_in i y ≤ deferred_in i x

  module _ (x : Lent) (r : Ready x.device) (host : Bytes x.host) (queues : Bytes x.queues) (memory : Bytes x.memory) where
    stays : (y : Lent) → y.device ≡ x.device → Leaves x y
    stays y e = record { ready = subst Ready (sym e) r; few = rw e (omega arith) }

    on-leaves : (c : calls.Call) → calls.Typed c → IsQuiet (on c) → Leaves x (after (on c) x)
    on-leaves c typed q =
        by-test (is_machine x.device x.host)
        (λ e.
        let t = machine-typed x r (machine-host x.device x.host e) host queues memory in
        let m = left_meets x e t c typed in
        let y = after (on c) x in
        record {
          ready = stored-ready y.device m.there (calls.after c (machine_at x)) (ap (λ (z : Machine). z.hda) m.same) (after-typed c typed (machine_at x) t);
          few = rw (same-deferred i own y ∙ ap (machines.deferred_of i) m.same, same-deferred i own x) (quiet i c q (machine_at x));
        })
        (λ e. stays (after (on c) x) (left-stays x e c).device)

    quiet-leaves : (c : Call) → Typed c → IsQuiet c → Leaves x (after c x)
    unfolding after
    quiet-leaves (new microphone) typed none = absurd none
    quiet-leaves host_new typed q = stays (after host_new x) refl
    quiet-leaves (on c) typed q = on-leaves c typed q

  -- the call of a step, on what it is handed
  step-leaves : (s : Step) (x : Lent) → Ready x.device → IsQuiet s.call → Leaves x (after s.call (handed s x))
  step-leaves s x r q =
      let k = quiet-leaves (handed s x) r s.hosts s.queued s.bytes s.call s.typed q in
      record { ready = k.ready; few = k.few }

  module _ (plays : captures i ≡ false) where
    ready-among : (frames : ℕ) (ms : List (Moment Callback Step)) (x : Lent) → Ready x.device → Among i frames ms x → deferred_in i (run (steps_among callback_steps ms) x) ≤ deferred_in i x - taken_by frames * callbacks_in ms
    unfolding run
    ready-among frames [] x r a = omega arith
    ready-among frames (callback c ∷ ms) x r a =
        le_trans (ready-among frames ms (left_by c x) (one-ready i own frames c x r a.0) a.1)
        (theorem.fewer (taken_by frames) (deferred_in i x) (deferred_in i (left_by c x)) (callbacks_in ms) (one-late i own frames c x r a.0 plays))
    ready-among frames (between s ∷ ms) x r a =
        let y = after s.call (handed s x) in
        let k = step-leaves s x r a.0 in
        le_trans (ready-among frames ms y k.ready a.1) (theorem.less (deferred_in i x) (deferred_in i y) (taken_by frames * callbacks_in ms) k.few)

    ready-over : (ms : List (Moment Callback Step)) (x : Lent) → Ready x.device → Among i least_pull ms x → most_callbacks ≤ callbacks_in ms → deferred_in i (run (steps_among callback_steps ms) x) ≡ 0
    unfolding run
    ready-over [] x r a enough = absurd (omega arith)
    ready-over (callback c ∷ ms) x r a enough =
        theorem.none-of-most (deferred_in i x) _ (callbacks_in (callback c ∷ ms)) (one-most i own least_pull c x r a.0 plays) enough (ready-among least_pull (callback c ∷ ms) x r a)
    ready-over (between s ∷ ms) x r a enough = ready-over ms (after s.call (handed s x)) (step-leaves s x r a.0).ready a.1 enough

    pub among : (frames : ℕ) (ms : List (Moment Callback Step)) (x : Lent) → is_device x.device ≡ true → Bytes x.device → Among i frames ms x
        → deferred_in i (run (steps_among callback_steps ms) x) ≤ deferred_in i x - taken_by frames * callbacks_in ms
    among frames ms x there bytes = ready-among frames ms x (bytes_ready x.device there bytes)

    pub over : (ms : List (Moment Callback Step)) (x : Lent) → is_device x.device ≡ true → Bytes x.device → Among i least_pull ms x → most_callbacks ≤ callbacks_in ms → deferred_in i (run (steps_among callback_steps ms) x) ≡ 0
    over ms x there bytes = ready-over ms x (bytes_ready x.device there bytes)
