-- What hda_restore and hda_restore_emptied answer: 0 exactly where the bytes are records and the machine in them takes the state, and 20 for a crowded list alone; every number is below 256. And what
-- hda_save wrote where it answers 0. Assumes nothing.
use Prim.Native.Nat.{ℕ, ◌/◌, ◌%◌, ◌^◌, ◌<◌}
use mathlib.Core.Path.{◌≡◌, refl, sym, ap, ◌∙◌}
use mathlib.Core.Bool.{Bool, true, false, cond, ◌&&◌, true≢false}
use mathlib.Core.List.{List}
use native.Mathlib.Omega.{arith}
use borrow.Author.Tests.{eqb-true, eqb-false, eq-eqb}
use lib.Dec.{eqb, ltb}
use lib.ListN.{length}
use Rattle.word.proofs.Choices.{by_cond}
use Rattle.stream.specs.Box.{streams}
use Rattle.host.specs.Hosts as hosts
use Rattle.device.specs.Devices as devices
use Rattle.host.specs.declared.Host.{Host}
use Rattle.device.specs.declared.Hda.{Hda}
use Rattle.device.specs.declared.Answer.{Answer}
use Rattle.device.specs.Machines.{Machine, short_of, check_of, check_machine, answer_of, finish_of}
use Rattle.record.specs.Loads.{device_at}
use Rattle.host_record.specs.Hosts.{host_at}
use Rattle.snapshot.specs.States.{size_of}
use Rattle.snapshot.specs.Saves as snapshot
use Rattle.parse.specs.States.{state_number}
use Rattle.parse.proofs.Theorems as parse
use Rattle.parse.proofs.Theorems.{numbers}
use Rattle.restore.specs.Restores as restores
use Rattle.restore.specs.Restores.{Restored, refused_from, opening_number, restore_step, restore_of}
use Rattle.reply.specs.Replies.{is_sent, unreadable_of, is_machine}
use Rattle.reply.proofs.Theorems.{low-returned, value-returned}
use Rattle.port_device.specs.Calls.{Lent, Returned, returned, returned_of, machine_at, none, behind, restored_by}
use Rattle.port_reads.specs.Reads as reads
use Rattle.calls.specs.Calls as calls
use Rattle.book.specs.Claim.{Accepts}
use Rattle.lent_calls.specs.Calls.{on, call_of, with_memory}
use Rattle.lent_book.specs.Claim.{Accepted}

abbrev pub Small : ℕ → Type 0
Small n = n < 256

-- ---- the numbers of a state and of the check
number_small : (strict : Bool) (s : List ℕ) (d : Hda) (h : Host) → Small (restores.number_of strict s d h)
unfolding opening_number
number_small strict s d h =
    let n = state_number strict s d.microphone d.config in
    by_cond Small (eqb n 0) _ n (λ _. by_cond Small (refused_from streams 0 s d.microphone h) 1 0 (λ _. omega arith) (λ _. omega arith))
    (λ _. parse.number_small (numbers strict s d.microphone d.config))

pub check-small : (d : Hda) (h : Host) (l : List ℕ) (q : ℕ) → Small (check_of d h l q)
unfolding check_of
check-small d h l q =
    let good = devices.valid_of d l && hosts.valid_of h in
    by_cond Small (short_of (length l) q) 10 (cond good 0 9) (λ _. omega arith) (λ _. by_cond Small good 0 9 (λ _. omega arith) (λ _. omega arith))

pub unreadable-some : (lists queues : ℕ) → unreadable_of lists queues % 256 ≡ 0 → ⊥
unreadable-some lists queues = by_cond (λ (n : ℕ). n % 256 ≡ 0 → ⊥) (short_of lists queues) 10 9 (λ _ z. omega arith) (λ _ z. omega arith)

check-other : (d : Hda) (h : Host) (l : List ℕ) (q : ℕ) → check_of d h l q % 256 ≡ 20 → ⊥
unfolding check_of
check-other d h l q =
    let P : ℕ → Type 0 = λ n. n % 256 ≡ 20 → ⊥ in
    let good = devices.valid_of d l && hosts.valid_of h in
    by_cond P (short_of (length l) q) 10 (cond good 0 9) (λ _ z. omega arith) (λ _. by_cond P good 0 9 (λ _ z. omega arith) (λ _ z. omega arith))

unreadable-other : (lists queues : ℕ) → unreadable_of lists queues % 256 ≡ 20 → ⊥
unreadable-other lists queues = by_cond (λ (n : ℕ). n % 256 ≡ 20 → ⊥) (short_of lists queues) 10 9 (λ _ z. omega arith) (λ _ z. omega arith)

-- ---- the call
module _ (strict : Bool) (s : List ℕ) (x : Machine) where
  answered : (restored_by strict s x).answer.number % 256 ≡ 0 → Accepts strict s x
  unfolding restore_of restore_step answer_of finish_of
  answered =
      let d = x.hda in
      let h = x.host in
      let check = check_machine x in
      let n = restores.number_of strict s d h in
      let P : Restored → Type 0 = λ r. r.answer.number % 256 ≡ 0 → Accepts strict s x in
      by_cond P (eqb check 0) _ _
      (λ e. by_cond P (eqb n 0) _ _ (λ z _. (eqb-true check 0 e, eqb-true n 0 z))
      (λ z low. absurd (let zero : n ≡ 0 = omega (arith, low, number_small strict s d h) in eqb-false n 0 z zero)))
      (λ e low. absurd (let zero : check ≡ 0 = omega (arith, low, check-small d h x.lists (length x.queues)) in eqb-false check 0 e zero))

  answered-crowded : (restored_by strict s x).answer.number % 256 ≡ 20 → restores.number_of strict s x.hda x.host ≡ 20
  unfolding restore_of restore_step answer_of finish_of
  answered-crowded =
      let d = x.hda in
      let h = x.host in
      let n = restores.number_of strict s d h in
      let P : Restored → Type 0 = λ r. r.answer.number % 256 ≡ 20 → n ≡ 20 in
      by_cond P (eqb (check_machine x) 0) _ _
      (λ _. by_cond P (eqb n 0) _ _ (λ _ low. absurd (omega (arith, low))) (λ _ low. omega (arith, low, number_small strict s d h)))
      (λ _ low. absurd (check-other d h x.lists (length x.queues) low))

  accepts : Accepts strict s x → (restored_by strict s x).answer.number ≡ 0
  unfolding restore_of restore_step answer_of finish_of
  accepts a =
      let check = check_machine x in
      let n = restores.number_of strict s x.hda x.host in
      rw (eq-eqb check 0 a.0, eq-eqb n 0 a.1)

module _ (strict : Bool) (s : List ℕ) (x : Lent) where
  abbrev lends : Lent
  lends = with_memory x none

  abbrev answer : Answer
  answer = (restored_by strict s (machine_at lends)).answer

  pub accepted : Accepted strict s x → (is_machine x.device x.host ≡ true) × Accepts strict s (machine_at x)
  unfolding behind
  accepted =
      by_cond (λ (r : Returned). r.reply % 256 ≡ 0 → (is_machine x.device x.host ≡ true) × Accepts strict s (machine_at x)) (is_machine x.device x.host)
      (returned_of (restored_by strict s (machine_at lends))) (returned (unreadable_of (length x.lists) (length x.queues)) lends)
      (λ e low. (e, answered strict s (machine_at lends) (sym (low-returned answer.number 0 answer.level (is_sent answer.msi)) ∙ low)))
      (λ e low. absurd (unreadable-some (length x.lists) (length x.queues) low))

  pub accepting : is_machine x.device x.host ≡ true → Accepts strict s (machine_at x) → Accepted strict s x
  unfolding behind
  accepting e a =
      by_cond (λ (r : Returned). r.reply % 256 ≡ 0) (is_machine x.device x.host)
      (returned_of (restored_by strict s (machine_at lends))) (returned (unreadable_of (length x.lists) (length x.queues)) lends)
      (λ _. low-returned answer.number 0 answer.level (is_sent answer.msi) ∙ ap (λ (n : ℕ). n % 256) (accepts strict s (machine_at lends) a))
      (λ f. absurd (true≢false (sym e ∙ f)))

  -- 20 is what the machine's tests give
  pub crowded : (call_of (on (calls.restore strict s)) x).reply % 256 ≡ 20 → restores.number_of strict s (device_at x.device) (host_at x.host) ≡ 20
  unfolding behind
  crowded =
      by_cond (λ (r : Returned). r.reply % 256 ≡ 20 → restores.number_of strict s (device_at x.device) (host_at x.host) ≡ 20) (is_machine x.device x.host)
      (returned_of (restored_by strict s (machine_at lends))) (returned (unreadable_of (length x.lists) (length x.queues)) lends)
      (λ _ low. answered-crowded strict s (machine_at lends) (sym (low-returned answer.number 0 answer.level (is_sent answer.msi)) ∙ low))
      (λ _ low. absurd (unreadable-other (length x.lists) (length x.queues) low))

-- ---- save: where hda_save answers 0 the machine's save is done, its count is the value returned, and its bytes are those in the space
module _ (into : List ℕ) (x : Lent) where
  abbrev save : snapshot.Save
  save = snapshot.save_of (device_at x.device) (host_at x.host) x.lists (length x.queues) into

  save-small : Small save.saved.number
  unfolding snapshot.save_of snapshot.save_step
  save-small =
      let d = device_at x.device in
      let P : snapshot.Save → Type 0 = λ r. Small r.saved.number in
      let check = check_of d (host_at x.host) x.lists (length x.queues) in
      by_cond P (eqb check 0) _ _ (λ _. by_cond P (ltb (length into) (size_of d)) _ _ (λ _. omega arith) (λ _. omega arith)) (λ _. check-small d (host_at x.host) x.lists (length x.queues))

  pub record Written (r : reads.Shown) : Type 0 where
    pub done : save.saved.number ≡ 0
    pub count : r.reply / 2 ^ 32 ≡ save.saved.count
    pub bytes : r.into ≡ save.into

  pub written : (call_of (on (calls.save into)) x).reply % 256 ≡ 0 → Written (call_of (on (calls.save into)) x)
  unfolding reads.save_of
  written =
      let n = save.saved.number in
      by_cond (λ (r : reads.Shown). r.reply % 256 ≡ 0 → Written r) (is_machine x.device x.host) (reads.saved_of save) (reads.unread x.lists (length x.queues) into)
      (λ _ low. record {
        done = omega (arith, low, save-small, low-returned n save.saved.count save.saved.level false);
        count = value-returned n save.saved.count save.saved.level false;
        bytes = refl;
      })
      (λ _ low. absurd (unreadable-some (length x.lists) (length x.queues) low))
