-- A call on bytes that returns document 01's number 0 found records, and the call on the machine in them answers 0. Assumes nothing.
use Prim.Native.Nat.{ℕ, ◌%◌}
use mathlib.Core.Path.{◌≡◌}
use mathlib.Core.Bool.{true, false}
use mathlib.Core.List.{List}
use native.Mathlib.Omega.{arith}
use lib.Dec.{eqb}
use lib.ListN.{length}
use Rattle.word.proofs.Choices.{by_cond}
use Rattle.host.specs.declared.Host.{Host}
use Rattle.host.specs.Hosts as hosts
use Rattle.driver.specs.Calls as driver
use Rattle.device.specs.Machines.{Machine, Done, check_machine, answer_of, finish_of, unchanged, finished, commanded_of, with_commanded}
use Rattle.registers.specs.Places.{dma_of}
use Rattle.serve.specs.Serve.{serve_of}
use Rattle.advance.specs.Advance.{ticked_of, still_of, number_of, served_of, after_commands, advance_step, advance_of}
use Rattle.host_record.specs.Hosts.{host_at, is_host}
use Rattle.reply.specs.Replies.{is_sent, unreadable_of, is_machine}
use Rattle.reply.proofs.Theorems.{low-returned}
use Rattle.calls.specs.Calls as calls
use Rattle.port_device.specs.Calls.{Lent, Returned, returned, returned_of, machine_at, behind}
use Rattle.port_host.specs.Calls as ends
use Rattle.port_host.specs.Calls.{PulledBytes, pulled_out}
use Rattle.lent_calls.specs.Calls.{on, call_of}
use Rattle.lent_book.proofs.Numbers.{Small, check-small, unreadable-some}

-- a number below 256 is the one that is returned
named : (n low : ℕ) → Small n → low ≡ n % 256 → low ≡ 0 → n ≡ 0
named n low small e z = omega arith

-- ---- the pull
host-small : (h : Host) (space : ℕ) → Small (hosts.check_of h space)
unfolding hosts.check_of
host-small h space = by_cond Small (ends.short_of space) 10 _ (λ _. omega arith) (λ _. by_cond Small (hosts.valid_of h) 0 9 (λ _. omega arith) (λ _. omega arith))

frames_small : (h : Host) (space n : ℕ) → Small (driver.frame_check_of h space n)
unfolding driver.frame_check_of
frames_small h space n =
    by_cond Small (eqb (hosts.check_of h space) 0) _ (hosts.check_of h space) (λ _. by_cond Small (eqb (n % 4) 0) 0 11 (λ _. omega arith) (λ _. omega arith)) (λ _. host-small h space)

pull-small : (h : Host) (space into : List ℕ) → Small (driver.pull_of h space into).fed.number
unfolding driver.pull_of
pull-small h space into =
    let number = driver.frame_check_of h (length space) (length into) in
    by_cond (λ (p : driver.Pull). Small p.fed.number) (eqb number 0) _ _ (λ _. omega arith) (λ _. frames_small h (length space) (length into))

pub pull-number : (into : List ℕ) (x : Lent) → (call_of (on (calls.pull into)) x).kept.reply % 256 ≡ 0 → (is_host x.host ≡ true) × ((driver.pull_of (host_at x.host) x.queues into).fed.number ≡ 0)
unfolding ends.pull_of
pull-number into x =
    let f = driver.pull_of (host_at x.host) x.queues into in
    let n = f.fed.number in
    by_cond (λ (r : PulledBytes). r.kept.reply % 256 ≡ 0 → (is_host x.host ≡ true) × (n ≡ 0)) (is_host x.host) _ (pulled_out (ends.unreadable_of (length x.queues)) x.host x.queues into)
    (λ e low. (e, named n _ (pull-small (host_at x.host) x.queues into) (low-returned n f.fed.frames false false) low))
    (λ _ low. absurd (unreadable (length x.queues) low))
  where
    unreadable : (queues : ℕ) → ends.unreadable_of queues % 256 ≡ 0 → ⊥
    unreadable queues = by_cond (λ (n : ℕ). n % 256 ≡ 0 → ⊥) (ends.short_of queues) 10 9 (λ _ z. omega arith) (λ _ z. omega arith)

-- ---- the `advance`
abbrev Named : Done → Type 0
Named r = Small r.answer.number

unchanged-small : (n : ℕ) (x : Machine) → Small n → Named (unchanged n x)
unfolding answer_of
unchanged-small n x small = small

finished-small : (n : ℕ) (x : Machine) → Small n → Named (finished n x)
unfolding finish_of answer_of
finished-small n x small = small

advance-small : (nanos : ℕ) (x : Machine) → Named (advance_of nanos x)
unfolding advance_of advance_step after_commands
advance-small nanos x =
    let y = with_commanded x x.host (commanded_of (ticked_of nanos x.hda) x.memory) in
    let w = serve_of nanos y in
    by_cond Named (eqb (check_machine x) 0) (advance_step nanos x) (unchanged (check_machine x) x)
    (λ _. by_cond Named (still_of x.hda) (unchanged 0 x) (after_commands nanos y) (λ _. unchanged-small 0 x (omega arith))
    (λ _. by_cond Named (dma_of y.hda.config y.hda.regs) (served_of w) (finished 0 y)
    (λ _. finished-small (number_of w.refused) w.machine (by_cond Small w.refused 1 0 (λ _. omega arith) (λ _. omega arith))) (λ _. finished-small 0 y (omega arith))))
    (λ _. unchanged-small (check_machine x) x (check-small x.hda x.host x.lists (length x.queues)))

pub advance-number : (nanos : ℕ) (x : Lent) → (call_of (on (calls.advance nanos)) x).reply % 256 ≡ 0 → (is_machine x.device x.host ≡ true) × ((advance_of nanos (machine_at x)).answer.number ≡ 0)
unfolding behind
advance-number nanos x =
    let a = (advance_of nanos (machine_at x)).answer in
    by_cond (λ (r : Returned). r.reply % 256 ≡ 0 → (is_machine x.device x.host ≡ true) × (a.number ≡ 0)) (is_machine x.device x.host)
    (returned_of (advance_of nanos (machine_at x))) (returned (unreadable_of (length x.lists) (length x.queues)) x)
    (λ e low. (e, named a.number _ (advance-small nanos (machine_at x)) (low-returned a.number 0 a.level (is_sent a.msi)) low))
    (λ _ low. absurd (unreadable-some (length x.lists) (length x.queues) low))
