-- Lists of callbacks on bytes, from those on machines. Assumes nothing.
use Prim.Native.Nat.{ℕ, suc, ◌+◌, ◌-◌, ◌*◌, ◌/◌, ◌≤◌, ◌<◌}
use mathlib.Core.Path.{◌≡◌, refl, sym, ap, subst, ◌∙◌}
use mathlib.Core.Bool.{false}
use mathlib.Core.List.{List, [], ◌∷◌}
use native.Mathlib.Omega.{arith}
use lib.ListN.{length}
use Rattle.word.specs.Value.{Bytes}
use Rattle.stream.specs.Box.{streams, captures}
use Rattle.queue.specs.Queues.{capacity}
use Rattle.device.specs.Machines.{Machine}
use Rattle.advance.specs.Advance.{advance_of}
use Rattle.reply.proofs.Records.{machine-device}
use Rattle.port_device.specs.Calls.{Lent, machine_at}
use Rattle.lent_calls.specs.Calls.{after}
use Rattle.book.specs.Lists as lists
use Rattle.lent_book.specs.Lists.{run}
use Rattle.lent_book.proofs.Records.{Ready, bytes_ready}
use Rattle.catchup.specs.Callbacks as machines
use Rattle.catchup.specs.Claim.{least_pull, most_callbacks}
use Rattle.catchup.specs.Corollaries as counts
use Rattle.catchup.specs.Corollaries.{callbacks_for}
use Rattle.catchup.proofs.Theorem as theorem
use Rattle.lent_catchup.specs.Callbacks.{Callback, steps_of, before_pull, before_advance, left_by, deferred_in, submitted_in, RunsIn, RunningIn, Answered, Serves, Throughout, GoesOn, AllGoOn}
use Rattle.lent_catchup.specs.Corollaries.{Exactly, Full}
use Rattle.lent_catchup.proofs.Numbers.{advance-number}
use Rattle.lent_catchup.proofs.Callbacks.{same-deferred, same-submitted, same_queue, ready-sized, on_machine, found, asked, left-machine, left-ready}

-- the callbacks on the machine
abbrev all_on : List Callback → List machines.Callback
all_on [] = []
all_on (c ∷ cs) = on_machine c ∷ all_on cs

length-on : (cs : List Callback) → length (all_on cs) ≡ length cs
length-on [] = refl
length-on (c ∷ cs) = ap suc (length-on cs)

module _ (i : ℕ) (own : i < streams) where
  -- an `advance` that is answered found a record
  answered-ready : (c : Callback) (x : Lent) → Bytes x.device → Answered c x → Ready x.device
  unfolding after
  answered-ready c x bytes answered =
      let y = before_advance c x in
      bytes_ready x.device (machine-device y.device y.host (advance-number 0 y answered).0) bytes

  -- ---- a list on bytes is the list on the machine
  module _ (frames : ℕ) (c : Callback) (x : Lent) (r : Ready x.device) (s : Serves i frames c x) where
    one-machine : machine_at (left_by c x) ≡ machines.left_by (on_machine c) (machine_at x)
    one-machine = left-machine i frames own c x r s.asks (advance-number 0 (before_advance c x) s.answered)

    pub one-ready : Ready (left_by c x).device
    one-ready = left-ready i frames own c x r s.asks (advance-number 0 (before_advance c x) s.answered)

    one-serves : machines.Serves i frames (on_machine c) (machine_at x)
    one-serves =
        let same = found i frames own c x r s.asks in
        record {
          asks = asked i frames own c x r s.asks;
          running = subst (λ (y : Machine). machines.Running i y.hda) same s.running;
          answered = subst (λ (y : Machine). (advance_of 0 y).answer.number ≡ 0) same (advance-number 0 (before_advance c x) s.answered).1;
        }

    pub one-late : captures i ≡ false → deferred_in i (left_by c x) ≤ deferred_in i x - counts.taken_by frames
    one-late plays =
        rw (same-deferred i own (left_by c x) ∙ ap (machines.deferred_of i) one-machine, same-deferred i own x)
        (theorem.late i own plays frames (on_machine c) (machine_at x) (ready-sized x.device r) one-serves)

    pub one-most : captures i ≡ false → deferred_in i x ≤ 8192
    one-most plays = rw (same-deferred i own x) (theorem.most i own plays frames (on_machine c) (machine_at x) one-serves)

  same-run : (frames : ℕ) (cs : List Callback) (x : Lent) → Ready x.device → Throughout i frames cs x → machine_at (run (steps_of cs) x) ≡ lists.run (machines.steps_of (all_on cs)) (machine_at x)
  unfolding run lists.run
  same-run frames [] x r t = refl
  same-run frames (c ∷ cs) x r t =
      same-run frames cs (left_by c x) (one-ready frames c x r t.0) t.1 ∙ ap (lists.run (machines.steps_of (all_on cs))) (one-machine frames c x r t.0)

  all-serve : (frames : ℕ) (cs : List Callback) (x : Lent) → Ready x.device → Throughout i frames cs x → machines.Throughout i frames (all_on cs) (machine_at x)
  all-serve frames [] x r t = tt
  all-serve frames (c ∷ cs) x r t = (
    one-serves frames c x r t.0,
    subst (machines.Throughout i frames (all_on cs)) (one-machine frames c x r t.0) (all-serve frames cs (left_by c x) (one-ready frames c x r t.0) t.1),
  )

  all-exact : (frames : ℕ) (cs : List Callback) (x : Lent) → Ready x.device → Throughout i frames cs x → Exactly i frames cs x → counts.Exactly i frames (all_on cs) (machine_at x)
  all-exact frames [] x r t e = tt
  all-exact frames (c ∷ cs) x r t e = (
    e.0,
    same_queue i own (before_pull c x) ∙ e.1 ∙ sym (same_queue i own x),
    subst (counts.Exactly i frames (all_on cs)) (one-machine frames c x r t.0) (all-exact frames cs (left_by c x) (one-ready frames c x r t.0) t.1 e.2),
  )

  -- so what holds of the one holds of the other
  module _ (plays : captures i ≡ false) (frames : ℕ) (cs : List Callback) (x : Lent) (r : Ready x.device) (t : Throughout i frames cs x) where
    abbrev z : Lent
    z = run (steps_of cs) x

    abbrev m : Machine
    m = lists.run (machines.steps_of (all_on cs)) (machine_at x)

    same : machine_at z ≡ m
    same = same-run frames cs x r t

    left-deferred : deferred_in i z ≡ machines.deferred_of i m
    left-deferred = same-deferred i own z ∙ ap (machines.deferred_of i) same

    left-submitted : submitted_in i z ≡ machines.submitted_of i m
    left-submitted = same-submitted i own z ∙ ap (machines.submitted_of i) same

    left-runs : RunsIn i z → machines.Runs i m.hda
    left-runs = subst (λ (y : Machine). machines.Runs i y.hda) same

    late : deferred_in i z ≤ deferred_in i x - counts.taken_by frames * length cs
    late =
        let h = theorem.all-late i own plays frames (all_on cs) (machine_at x) (ready-sized x.device r) (all-serve frames cs x r t) in
        rw (left-deferred, same-deferred i own x, ← length-on cs) h

    told : RunsIn i z → submitted_in i z + 4 * deferred_in i z ≡ submitted_in i x + 4 * deferred_in i x
    told runs =
        let h = theorem.moved i own plays frames (all_on cs) (machine_at x) (ready-sized x.device r) (all-serve frames cs x r t) (left-runs runs) in
        rw (left-deferred, left-submitted, same-deferred i own x, same-submitted i own x) h

    met : frames ≤ capacity / 4 → Full i x → Exactly i frames cs x → RunsIn i z → deferred_in i z ≡ deferred_in i x - frames * length cs
    met few full e runs =
        let h = theorem.exact i own plays frames few (all_on cs) (machine_at x) (ready-sized x.device r) (same_queue i own x ∙ full) (all-serve frames cs x r t) (all-exact frames cs x r t e) (left-runs runs) in
        rw (left-deferred, same-deferred i own x, ← length-on cs) h

  -- ---- the claim
  module _ (plays : captures i ≡ false) where
    pub all-late : (frames : ℕ) (cs : List Callback) (x : Lent) → Bytes x.device → Throughout i frames cs x → deferred_in i (run (steps_of cs) x) ≤ deferred_in i x - counts.taken_by frames * length cs
    unfolding run
    all-late frames [] x bytes t = omega arith
    all-late frames (c ∷ cs) x bytes t = late plays frames (c ∷ cs) x (answered-ready c x bytes t.0.answered) t

    pub each : (cs : List Callback) (x : Lent) → Bytes x.device → Throughout i least_pull cs x → deferred_in i (run (steps_of cs) x) ≤ deferred_in i x - least_pull * length cs
    each = all-late least_pull

    pub over : (cs : List Callback) (x : Lent) → Bytes x.device → Throughout i least_pull cs x → most_callbacks ≤ length cs → deferred_in i (run (steps_of cs) x) ≡ 0
    over [] x bytes t enough = absurd (omega arith)
    over (c ∷ cs) x bytes t enough =
        let r = answered-ready c x bytes t.0.answered in
        left-deferred plays least_pull (c ∷ cs) x r t
        ∙ theorem.over i own plays (all_on (c ∷ cs)) (machine_at x) (ready-sized x.device r) (all-serve least_pull (c ∷ cs) x r t) (rw (length-on (c ∷ cs)) enough)

    pub moved : (frames : ℕ) (cs : List Callback) (x : Lent) → Bytes x.device → Throughout i frames cs x
        → let y = run (steps_of cs) x in
        RunsIn i y → submitted_in i y + 4 * deferred_in i y ≡ submitted_in i x + 4 * deferred_in i x
    unfolding run
    moved frames [] x bytes t runs = refl
    moved frames (c ∷ cs) x bytes t runs = told plays frames (c ∷ cs) x (answered-ready c x bytes t.0.answered) t runs

    -- what holds at the start, from a record on
    serves : (frames : ℕ) (c : Callback) (x : Lent) → RunningIn i x → GoesOn i frames c x → Serves i frames c x
    unfolding after
    serves frames c x r g = record { asks = g.asks; running = r; answered = g.answered }

    running-on : (frames : ℕ) (c : Callback) (x : Lent) → Ready x.device → RunningIn i x → Serves i frames c x → RunsIn i (left_by c x) → RunningIn i (left_by c x)
    running-on frames c x r going s runs =
        let same = one-machine frames c x r s in
        subst (λ (y : Machine). machines.Running i y.hda) (sym same)
        (theorem.running-on i own plays (on_machine c) (machine_at x) (ready-sized x.device r) going (subst (λ (y : Machine). machines.Runs i y.hda) same runs))

    ready-lasts : (frames : ℕ) (cs : List Callback) (x : Lent) → Ready x.device → RunningIn i x → AllGoOn i frames cs x → Throughout i frames cs x
    ready-lasts frames [] x r going g = tt
    ready-lasts frames (c ∷ cs) x r going g =
        let s = serves frames c x going g.0 in
        (s, ready-lasts frames cs (left_by c x) (one-ready frames c x r s) (running-on frames c x r going s g.0.runs) g.1)

    pub lasts : (frames : ℕ) (cs : List Callback) (x : Lent) → Bytes x.device → RunningIn i x → AllGoOn i frames cs x → Throughout i frames cs x
    lasts frames [] x bytes going g = tt
    lasts frames (c ∷ cs) x bytes going g = ready-lasts frames (c ∷ cs) x (answered-ready c x bytes g.0.answered) going g

    -- ---- the formula, and that it is met
    pub gone : (frames : ℕ) → 0 < frames → (cs : List Callback) (x : Lent) → Bytes x.device → Throughout i frames cs x → callbacks_for frames (deferred_in i x) ≤ length cs
        → deferred_in i (run (steps_of cs) x) ≡ 0
    gone frames some cs x bytes t enough = theorem.none_left frames some (deferred_in i x) (deferred_in i (run (steps_of cs) x)) (length cs) enough (all-late frames cs x bytes t)

    pub exact : (frames : ℕ) → frames ≤ capacity / 4 → (cs : List Callback) (x : Lent) → Bytes x.device → Full i x → Throughout i frames cs x → Exactly i frames cs x
        → let y = run (steps_of cs) x in
        RunsIn i y → deferred_in i y ≡ deferred_in i x - frames * length cs
    unfolding run
    exact frames few [] x bytes full t e runs = omega arith
    exact frames few (c ∷ cs) x bytes full t e runs = met plays frames (c ∷ cs) x (answered-ready c x bytes t.0.answered) t few full e runs
