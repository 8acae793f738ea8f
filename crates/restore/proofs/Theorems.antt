-- What a restore leaves: a machine that passes the check still passes it, and a refusal changes nothing. Assumes nothing.
use Prim.Native.Nat.{ℕ, zero, suc, ◌+◌, ◌<◌}
use mathlib.Core.Path.{◌≡◌, refl, ap, ◌∙◌}
use mathlib.Core.Bool.{Bool, true, false, ◌||◌, ◌&&◌}
use mathlib.Core.List.{List}
use native.Mathlib.Omega.{arith}
use native.Mathlib.Nat.{zero-add}
use borrow.Author.Tests.{eqb-true}
use lib.Dec.{eqb, ltb}
use lib.ListN.{drop}
use lib.Seq.{take-take}
use Rattle.word.specs.Value.{value_of}
use Rattle.std.specs.List.{list_all}
use Rattle.word.specs.Place.{word_at}
use Rattle.word.specs.Parts.{part_of}
use Rattle.word.proofs.Choices.{left, by_cond}
use Rattle.clock.specs.declared.Clock.{Clock}
use Rattle.clock.specs.Billionths.{billion}
use Rattle.stream.specs.declared.Stream.{Stream}
use Rattle.stream.specs.Streams as stream
use Rattle.stream.specs.Box.{streams}
use Rattle.stream.specs.Streams.{list_size}
use Rattle.queue.specs.declared.Queue.{Queue}
use Rattle.queue.specs.Queues.{queue, valid_queue}
use Rattle.host.specs.declared.Host.{Host}
use Rattle.host.specs.Hosts as hosts
use Rattle.pci.proofs.Facts.{update-identity-kept}
use Rattle.device.specs.declared.Hda.{Hda}
use Rattle.device.specs.Devices.{valid_of}
use Rattle.device.specs.Machines.{check_of, answer_of, finish_of}
use Rattle.device.proofs.Checks.{Passed, device-parts, parts-device, passed, passes}
use Rattle.device.proofs.Facts.{valid-change, finish-number}
use Rattle.record.specs.Rows.{row_of}
use Rattle.record.specs.Loads.{block_at, clock_at}
use Rattle.record.proofs.Places.{row_at}
use Rattle.parse.specs.States.{state_number}
use Rattle.parse.proofs.Theorems.{taken-last, taken-streams}
use Rattle.restore.specs.Restores.{opens_of, restored_stream, opening_number, later_of, restored_lists, restored_host, restored_device, Restored, accepted_of, number_of, restore_step, restore_of}
use Rattle.restore.proofs.Outcomes.{taken-fits}
use Rattle.restore.proofs.Lists.{length-restored, restored-stream}

-- ---- parts
-- the end of a call keeps a device valid: its identity, and all that it does not touch
pub finish-valid : (n : ℕ) (d : Hda) (h : Host) (l : List ℕ) → valid_of d l ≡ true → valid_of (finish_of n d h).hda l ≡ true
unfolding finish_of answer_of word_at
finish-valid n d h l v =
    valid-change d (finish_of n d h).hda l refl refl (ap value_of (update-identity-kept d.config d.regs d.asserted)) refl v

-- the later of two clocks is one of them
later-time : (own other : Clock) → own.fraction < billion → other.fraction < billion → (later_of own other).fraction < billion
unfolding later_of
later-time own other a b =
    by_cond (λ (c : Clock). c.fraction < billion)
    (ltb own.ticks other.ticks || (eqb own.ticks other.ticks && ltb own.fraction other.fraction)) other own (λ _. b) (λ _. a)

-- the configuration's identity is the state's
pub block-identity : (s : List ℕ) → word_at 4 0 (block_at 6 s) ≡ word_at 4 6 s
unfolding word_at
block-identity s = ap value_of (take-take 4 256 (drop 6 s) (omega arith))

-- empty queues are valid
empty-valid : (live : Bool) → valid_queue (queue live 0) ≡ true
empty-valid true = refl
empty-valid false = refl

every-row : (f : ℕ → Queue) → ((k : ℕ) → valid_queue (f k) ≡ true) → (n i : ℕ) → list_all valid_queue (row_of f n i) ≡ true
unfolding row_of
every-row f h zero i = refl
every-row f h (suc n) i = rw (h i, every-row f h n (i + 1))

host-valid : (s : List ℕ) (microphone : Bool) (h : Host) → hosts.valid_of h ≡ true → hosts.valid_of (restored_host s microphone h) ≡ true
unfolding hosts.valid_of
host-valid s microphone h v =
    rw (left (hosts.valid_downstream h.downstream) _ v, every-row _ (λ k. empty-valid (opens_of s microphone k)) streams 0)

-- a state that is taken
module _ (strict : Bool) (s : List ℕ) (d : Hda) (h : Host) (l : List ℕ) (q : ℕ) (taken : state_number strict s d.microphone d.config ≡ 0) (check : check_of d h l q ≡ 0) where
  p : Passed d h l q
  p = passed d h l q check

  device-valid : valid_of (restored_device strict s d) (restored_lists strict s l) ≡ true
  unfolding restored_device
  device-valid =
      let v = device-parts d l p.device in
      let last = taken-last strict s d.microphone d.config taken in
      let each = (taken-streams strict s d.microphone d.config taken).1 in
      let fits = taken-fits strict s d.microphone d.config taken in
      parts-device (restored_device strict s d) (restored_lists strict s l) (record {
        time = later-time d.clock (clock_at s) v.time last.fraction;
        responses = last.responses;
        identified = block-identity s ∙ last.identity ∙ v.identified;
        streams = λ i few. ap (λ (x : Stream). stream.valid_of x (part_of list_size i (restored_lists strict s l))) (row_at stream.fresh_of (restored_stream strict s) streams 0 i few ∙ ap (restored_stream strict s) (zero-add i))
            ∙ restored-stream strict s fits l p.lists i few (each i few).valid;
      })

  accepted-valid : check_of (accepted_of strict s d h l).answer.hda (accepted_of strict s d h l).answer.host (accepted_of strict s d h l).lists q ≡ 0
  unfolding finish_of answer_of
  accepted-valid =
      let fits = taken-fits strict s d.microphone d.config taken in
      passes (accepted_of strict s d h l).answer.hda (restored_host s d.microphone h) (restored_lists strict s l) q
      (omega (arith, length-restored strict s fits l p.lists, p.lists)) p.queues
      (finish-valid 0 (restored_device strict s d) (restored_host s d.microphone h) (restored_lists strict s l) device-valid)
      (host-valid s d.microphone h p.host)

-- ---- theorems
-- accepted means that every test of the state passed
pub number-taken : (strict : Bool) (s : List ℕ) (d : Hda) (h : Host) → number_of strict s d h ≡ 0 → state_number strict s d.microphone d.config ≡ 0
number-taken strict s d h =
    let n = state_number strict s d.microphone d.config in
    by_cond (λ (y : ℕ). y ≡ 0 → n ≡ 0) (eqb n 0) (opening_number s d.microphone h) n (λ e z. eqb-true n 0 e) (λ e z. z)

module _ (strict : Bool) (s : List ℕ) (d : Hda) (h : Host) (l : List ℕ) (q : ℕ) where
  -- a machine that passes the check passes it after a restore, accepted or refused
  pub restored-valid : check_of d h l q ≡ 0
      → check_of (restore_of strict s d h l q).answer.hda (restore_of strict s d h l q).answer.host (restore_of strict s d h l q).lists q ≡ 0
  unfolding restore_of restore_step answer_of
  restored-valid check =
      let n = number_of strict s d h in
      rw check
      (by_cond (λ (r : Restored). check_of r.answer.hda r.answer.host r.lists q ≡ 0) (eqb n 0) _ _
      (λ e. accepted-valid strict s d h l q (number-taken strict s d h (eqb-true n 0 e)) check)
      (λ e. check))

  -- a refusal changes nothing
  pub refused-kept : ((restore_of strict s d h l q).answer.number ≡ 0 → ⊥)
      → ((restore_of strict s d h l q).answer.hda ≡ d) × ((restore_of strict s d h l q).answer.host ≡ h) × ((restore_of strict s d h l q).lists ≡ l)
  unfolding restore_of restore_step answer_of
  refused-kept =
      let P : Restored → Type 0 = λ r. (r.answer.number ≡ 0 → ⊥) → (r.answer.hda ≡ d) × (r.answer.host ≡ h) × (r.lists ≡ l) in
      by_cond P (eqb (check_of d h l q) 0) _ _
      (λ _.
      by_cond P (eqb (number_of strict s d h) 0) _ _
      (λ _ z. absurd (z (finish-number 0 (restored_device strict s d) (restored_host s d.microphone h))))
      (λ _ z. (refl, refl, refl)))
      (λ _ z. (refl, refl, refl))
