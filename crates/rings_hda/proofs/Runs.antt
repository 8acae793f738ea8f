-- Whole runs of the command ring, where no exception is named: each command is the one that HDA 1.0a says comes next, until HDA says that none does. Assumes
-- nothing.
use Prim.Native.Nat.{ℕ, zero, suc, ◌+◌, ◌-◌, ◌/◌, ◌%◌, ◌≤◌, ◌<◌}
use mathlib.Core.Path.{◌≡◌, refl, sym, ap, ◌∙◌}
use mathlib.Core.Bool.{Bool, true, false, cond, ◌&&◌, false≢true}
use mathlib.Core.List.{List}
use mathlib.Core.Option.{Option, none, some}
use mathlib.Core.Logic.{◌⊎◌, inl, inr, ⊎_elim}
use native.Mathlib.Omega.{arith}
use native.Mathlib.Nat.{mod-lt, mod-eq_of_lt, mod_self}
use borrow.Author.Tests.{eqb-false, ltb-true, ltb-false, lt-ltb, eq-eqb, ne_eqb}
use lib.Dec.{eqb, ltb}
use lib.ListN.{length, get_or}
use Rattle.word.specs.Value.{value_of, Bytes}
use Rattle.word.specs.Place.{word_at, store_at}
use Rattle.word.proofs.Choices.{by-test, both, by_value}
use Rattle.word.proofs.Place.{length-store, bytes-store, word-store, word-elsewhere, byte-elsewhere}
use Rattle.codec.specs.Codecs.{verb_of}
use Rattle.codec.specs.declared.Codec.{Codec}
use Rattle.std.specs.Prelude.{Option as Reply, Some as Value, None as Nothing}
use Rattle.registers.specs.Places.{corbrp, corbwp, corbsize, byte_at, dma_of}
use Rattle.rings.specs.Rings.{Rings, with_regs, entries_of, answered_of, current_of, next_command, halted_of, executed_of, fetch_of, fetches_of, idle_of, running_of, commands_of, response_of}
use Rattle.rings_hda.specs.Hda as hda
use Rattle.rings_hda.specs.Hda.{Next, Rest, bit, Fetch, fetched}
use Rattle.rings_hda.specs.Exceptions.{None, IdleUnseen, is_none, command_exception, store_exception, idle_exception}
use Rattle.rings_hda.specs.Steps.{ring_state, rings_from, device_command, device_fetch, after_fetch, Run, replied_by, followed, run_of, landing, hda_fetches, File, Regular}
use Rattle.rings.proofs.Laws.{fetches-end, fetches-rest, fetches-halt, fetches-more, commands-stopped, commands-done}
use Rattle.rings.proofs.Facts.{Outside, byte-before, word-before, answer-outside, response-codec}
use Rattle.rings_hda.proofs.Agreement.{run-bit, reset-bit, dma-agrees, entries-some, entries-few, is-none, Inside, none_inside, inside-none, command-agrees, command-silent, read-there, read_word, fetch-agrees, fetch-follows, response-exact, store-silent, idle-agrees, halt-status}

abbrev Within : {config regs : List ℕ} → Regular config regs → Inside regs
Within {config} r = none_inside _ r.size r.range config r.dma r.runs r.plain

abbrev file_of : {config regs : List ℕ} → Regular config regs → File regs
file_of r = record { size = r.size; range = r.range }

-- such a ring runs for the device too
running : {config regs : List ℕ} → Regular config regs → running_of (dma_of config regs) regs ≡ true
running {config} {regs} r = rw (dma-agrees config regs, r.dma, run-bit (get_or regs 0x4c 0), reset-bit regs r.size r.range, r.runs, (Within r).clear)

-- ---- one command
-- what it leaves of the command ring's registers: the read pointer is the command's index, and the rest stays
record Stepped (l k : List ℕ) (i : ℕ) : Type 0 where
  size : length k ≡ 256
  range : Bytes k
  global : get_or k 8 0 ≡ get_or l 8 0
  control : get_or k 0x4c 0 ≡ get_or l 0x4c 0
  entries : get_or k 0x4e 0 ≡ get_or l 0x4e 0
  write : word_at 2 0x48 k ≡ word_at 2 0x48 l
  read : word_at 2 0x4a k ≡ i

module _ (config : List ℕ) (x : Rings) (r : Regular config x.regs) (w : ℕ) where
  abbrev index : ℕ
  index = next_command x.regs

  index-bound : index < entries_of (get_or x.regs 0x4e 0)
  index-bound = mod-lt _ (entries-some (get_or x.regs 0x4e 0))

  stepped : Stepped x.regs (executed_of x w).regs index
  stepped =
      let l : List ℕ = x.regs in
      let fits : corbrp + 2 ≤ length l = omega (arith, r.size) in
      let o : Outside 0x58 0x5e (store_at 2 corbrp index l) (executed_of x w).regs =
      answer-outside (with_regs x (store_at 2 corbrp index l)) (omega (arith, length-store 2 corbrp index l fits, r.size)) _ (verb_of x.link.codec w).reply in
      record {
        size = o.size ∙ length-store 2 corbrp index l fits ∙ r.size;
        range = o.range (bytes-store 2 corbrp index l fits r.range);
        global = byte-before o 8 (omega arith) ∙ byte-elsewhere 2 corbrp index l fits 8 (inl (omega arith));
        control = byte-before o 0x4c (omega arith) ∙ byte-elsewhere 2 corbrp index l fits 0x4c (inr (omega arith));
        entries = byte-before o 0x4e (omega arith) ∙ byte-elsewhere 2 corbrp index l fits 0x4e (inr (omega arith));
        write = word-before o 2 0x48 (omega arith) ∙ word-elsewhere 2 corbrp index l fits 2 0x48 (inl (omega arith));
        read = word-before o 2 0x4a (omega arith) ∙ word-store 2 corbrp index l fits (omega (arith, index-bound, entries-few (get_or l 0x4e 0)));
      }

  dma-stays : hda.dma_of config (executed_of x w).regs ≡ true
  unfolding hda.dma_of
  dma-stays = rw stepped.global r.dma

  stepped-regular : Regular config (executed_of x w).regs
  stepped-regular =
      let s = stepped in
      let i = Within r in
      let few = entries-few (get_or x.regs 0x4e 0) in
      record {
        size = s.size;
        range = s.range;
        dma = dma-stays;
        runs = rw s.control r.runs;
        plain =
            inside-none _ s.size s.range config dma-stays
            (record {
              sized = rw s.entries i.sized;
              clear = rw s.read (ne_eqb (index / 0x8000 % 2) 1 (omega (arith, index-bound, few)));
              read = rw (s.read, s.entries) index-bound;
              write = rw (s.write, s.entries) i.write;
            });
      }

-- ---- a run
-- two rests that agree behind the next command
after_same : (rest other : Rings → Rings) (config : List ℕ) (x : Rings) → ((w : ℕ) → rest (executed_of x w) ≡ other (executed_of x w))
    → after_fetch x (device_fetch config x) rest ≡ after_fetch x (device_fetch config x) other
after_same rest other config x same =
    by-test (running_of (dma_of config x.regs) x.regs) (λ t. rw t
    (by-test (eqb (current_of x.regs corbrp) (current_of x.regs corbwp)) (λ e. rw e) λ e. rw e
    (by-test (fetch_of x).moved (λ m. rw m (same _)) (λ m. rw m)))) λ t. rw t

-- Every command of a run is HDA's, whatever becomes of the responses.
pub run-agrees : (fuel : ℕ) (config : List ℕ) (x : Rings) → Regular config x.regs → fetches_of fuel x ≡ hda_fetches fuel config x
unfolding hda_fetches fetches_of
run-agrees zero config x r = refl
run-agrees (suc fuel) config x r =
    fetch-follows fuel config x (running r)
    ∙ after_same (fetches_of fuel) (hda_fetches fuel config) config x (λ w. run-agrees fuel config (executed_of x w) (stepped-regular config x r w))
    ∙ ap (λ (f : Fetch). after_fetch x f (hda_fetches fuel config)) (fetch-agrees x (file_of r) config r.plain)

-- ---- a run of which HDA says all
-- what there is, is one thing, and not nothing
same-rings : (a b : Rings) → some a ≡ some b → a ≡ b
same-rings a b e = ap given e
  where
    given : Option Rings → Rings
    given none = a
    given (some c) = c

nothing_said : {B : Type 0} (b : Rings) → ◌≡◌ {A = Option Rings} none (some b) → B
nothing_said b e = absurd (false≢true (ap said e))
  where
    said : Option Rings → Bool
    said none = false
    said (some c) = true

-- the codec's answer, where HDA says all of it
answer-says : (config : List ℕ) (z : Rings) → hda.dma_of config z.regs ≡ true → (c : Codec) (reply : Reply ℕ) (rest : Rings → Run) (y : Rings)
    → landing (followed c (replied_by config (ring_state z) reply) rest) ≡ some y → landing (rest (answered_of z c reply)) ≡ some y
answer-says config z dma c Nothing rest y = λ h. h
answer-says config z dma c (Value v) rest y =
    let q : Rings = answered_of z c Nothing in
    by-test (is_none (store_exception config (ring_state q))) (λ t.
    rw (response-exact q 0 false v config dma (is-none _ t)) (λ h.
    let same : rings_from c (ring_state (response_of q v 0)) ≡ response_of q v 0 = ap (λ (d : Codec). rings_from d (ring_state (response_of q v 0))) (sym (response-codec q v 0)) in
    ap (λ (d : Rings). landing (rest d)) (sym same) ∙ h)) (λ t.
    rw (store-silent q 0 false v config t) (nothing_said y))

-- what comes next, by the entry that the device has
fetch-next : (config : List ℕ) (x : Rings) → Regular config x.regs → hda.fetch_of config (ring_state x) ≡ fetched (ring_state x) (device_command config x.regs)
unfolding hda.fetch_of
fetch-next config x r = ap (fetched (ring_state x)) (sym (command-agrees x.regs r.size r.range config r.plain))

fetch-unsaid : (config : List ℕ) (x : Rings) → is_none (command_exception config x.regs) ≡ false → hda.fetch_of config (ring_state x) ≡ hda.Unsaid
unfolding hda.fetch_of
fetch-unsaid config x t = rw (command-silent config x.regs t)

-- the read pointer is not what turns DMA on
moved-dma : (config : List ℕ) (x : Rings) → Regular config x.regs → hda.dma_of config (store_at 2 corbrp (next_command x.regs) x.regs) ≡ true
unfolding hda.dma_of
moved-dma config x r = rw (byte-elsewhere 2 corbrp (next_command x.regs) x.regs (omega (arith, r.size)) 8 (inl (omega arith))) r.dma

-- Where HDA says all of a run, but for the run bit at a memory error, it is the device's: every fetch, every response with its entry in memory, both pointers,
-- the count and the status bits.
pub run-says : (fuel : ℕ) (config : List ℕ) (x : Rings) → File x.regs → hda.dma_of config x.regs ≡ true → bit 2 (get_or x.regs 0x4c 0) ≡ true → (y : Rings)
    → landing (run_of fuel config x) ≡ some y → fetches_of fuel x ≡ y
unfolding run_of
run-says zero config x f dma runs y = λ h. fetches-end x 0 (omega arith) ∙ same-rings x y h
run-says (suc fuel) config x f dma runs y =
    by-test (is_none (command_exception config x.regs)) (λ t.
    let r : Regular config x.regs = record { size = f.size; range = f.range; dma = dma; runs = runs; plain = is-none _ t } in
    rw (fetch-next config x r, running r)
    (by-test (eqb (current_of x.regs corbrp) (current_of x.regs corbwp)) (λ e.
    rw (e, fetches-rest x (suc fuel) e) (same-rings x y)) λ e. rw e
    (by-test (fetch_of x).moved (λ m.
    let w : ℕ = value_of (fetch_of x).bytes in
    let s = stepped config x r w in
    let next = stepped-regular config x r w in
    let o = verb_of x.link.codec w in
    let less : suc fuel - 1 ≡ fuel = omega arith in
    rw (← read-there x, m, ← read_word x m, fetches-more x e (suc fuel) (omega arith) m, less) (λ h.
    run-says fuel config (executed_of x w) (file_of next) next.dma next.runs y
    (answer-says config (with_regs x (store_at 2 corbrp (next_command x.regs) x.regs)) (moved-dma config x r) o.codec o.reply (run_of fuel config) y h))) λ m.
    rw (← read-there x, m, fetches-halt x e (suc fuel) (omega arith) m) (same-rings (halted_of x) y)))) λ t.
    rw (fetch-unsaid config x t) (nothing_said y)

-- ---- and it takes every command that waits
-- from the read pointer to the write pointer, round the ring's end or not, it is at most so many entries
abbrev Near : ℕ → ℕ → ℕ → ℕ → Type 0
Near fuel read write entries = (d : ℕ) × (d ≤ fuel) × ((read + d ≡ write) ⊎ (read + d ≡ write + entries))

near : (read write entries : ℕ) → read < entries → write < entries → Near entries read write entries
near read write entries r w =
    by-test (ltb write read)
    (λ t. let h = ltb-true write read t in (write + entries - read, omega arith, inr (omega arith)))
    (λ t. let h = ltb-false write read t in (write - read, omega arith, inl (omega arith)))

-- the entry behind the read pointer is one nearer
nearer : (fuel read write entries : ℕ) → read < entries → write < entries → (read ≡ write → ⊥) → Near (suc fuel) read write entries
    → Near fuel ((read % entries + 1) % entries) write entries
nearer fuel read write entries r w other (d, few, way) =
    rw (mod-eq_of_lt r)
    (by-test (ltb (read + 1) entries) (λ t.
    let more = ltb-true (read + 1) entries t in
    rw (mod-eq_of_lt more)
    (d - 1, ⊎_elim (λ e. omega arith) (λ e. omega arith) way, ⊎_elim (λ e. inl (omega arith)) (λ e. inr (omega arith)) way)) λ t.
    let end : read + 1 ≡ entries = omega (arith, ltb-false (read + 1) entries t) in
    rw (end, mod_self entries) (d - 1, ⊎_elim (λ e. omega arith) (λ e. omega arith) way, inl (⊎_elim (λ e. omega arith) (λ e. omega arith) way)))

-- the pointers meet
rests : (config regs : List ℕ) → Regular config regs → word_at 2 0x4a regs ≡ word_at 2 0x48 regs → hda.next_command config regs ≡ Rest
rests config regs r e =
    let met : current_of regs corbrp ≡ current_of regs corbwp = ap (λ (p : ℕ). p % entries_of (get_or regs 0x4e 0)) e in
    sym (command-agrees regs r.size r.range config r.plain) ∙ rw (running r, eq-eqb (current_of regs corbrp) (current_of regs corbwp) met)

-- a fetch failed
cond-rest : (d : Bool) (n : Next) → cond (d && false) n Rest ≡ Rest
cond-rest true n = refl
cond-rest false n = refl

halt-rests : (config : List ℕ) (x : Rings) → length x.regs ≡ 256 → hda.next_command config (halted_of x).regs ≡ Rest
unfolding hda.next_command
halt-rests config x size = rw (halt-status x (omega arith)).1 (cond-rest (hda.dma_of config (halted_of x).regs) _)

module _ (config : List ℕ) where
  drain : (fuel : ℕ) (x : Rings) → Regular config x.regs → Near fuel (word_at 2 0x4a x.regs) (word_at 2 0x48 x.regs) (entries_of (get_or x.regs 0x4e 0))
      → hda.next_command config (fetches_of fuel x).regs ≡ Rest
  drain zero x r (d, few, way) =
      let i = Within r in
      ap (λ (y : Rings). hda.next_command config y.regs) (fetches-end x 0 (omega arith))
      ∙ rests config x.regs r (⊎_elim (λ e. omega arith) (λ e. omega (arith, i.read)) way)
  drain (suc fuel) x r n =
      let i = Within r in
      by_value (word_at 2 0x4a x.regs) (word_at 2 0x48 x.regs) (λ e.
      ap (λ (y : Rings). hda.next_command config y.regs) (fetches-rest x (suc fuel) (eq-eqb _ _ (ap (λ (p : ℕ). p % entries_of (get_or x.regs 0x4e 0)) e)))
      ∙ rests config x.regs r e) λ f.
      let waits : eqb (current_of x.regs corbrp) (current_of x.regs corbwp) ≡ false = rw (mod-eq_of_lt i.read, mod-eq_of_lt i.write) f in
      by-test (fetch_of x).moved (λ m.
      let w : ℕ = value_of (fetch_of x).bytes in
      let s = stepped config x r w in
      let less : suc fuel - 1 ≡ fuel = omega arith in
      rw (fetches-more x waits (suc fuel) (omega arith) m, less)
      (drain fuel (executed_of x w) (stepped-regular config x r w)
      (rw (s.read, s.write, s.entries) (nearer fuel _ _ _ i.read i.write (eqb-false _ _ f) n)))) λ m.
      ap (λ (y : Rings). hda.next_command config y.regs) (fetches-halt x waits (suc fuel) (omega arith) m) ∙ halt-rests config x r.size

-- a run that HDA says begins with a ring that has no exception
run-regular : (fuel : ℕ) (config : List ℕ) (x : Rings) → 0 < fuel → File x.regs → hda.dma_of config x.regs ≡ true → bit 2 (get_or x.regs 0x4c 0) ≡ true → (y : Rings)
    → landing (run_of fuel config x) ≡ some y → Regular config x.regs
unfolding run_of
run-regular zero config x h f dma runs y = absurd (omega arith)
run-regular (suc fuel) config x h f dma runs y =
    by-test (is_none (command_exception config x.regs))
    (λ t all. record { size = f.size; range = f.range; dma = dma; runs = runs; plain = is-none _ t })
    (λ t. rw (fetch-unsaid config x t) (nothing_said y))

-- one of a ring that rests is none
run-off : (fuel : ℕ) (config : List ℕ) (x : Rings) → hda.next_command config x.regs ≡ Rest → (y : Rings) → landing (run_of fuel config x) ≡ some y → x ≡ y
unfolding run_of hda.fetch_of
run-off zero config x off y = same-rings x y
run-off (suc fuel) config x off y = rw off (same-rings x y)

-- the frame without a response
idle-state : (y : Rings) → idle_of y ≡ rings_from y.link.codec (hda.count_of true (ring_state y))
idle-state y = rw (idle-agrees y) (by-test (hda.interrupt_of y.regs y.link.responses true) (λ t. rw t) (λ t. rw t))

-- no frame is missed where no response waits
idle-none : (x : Rings) → cond (ltb 0 x.link.responses && true) IdleUnseen None ≡ None → x ≡ idle_of x
idle-none x =
    by_value x.link.responses 0 (λ e. rw e (λ h. refl)) (λ e.
    rw (lt-ltb 0 x.link.responses (omega (arith, eqb-false x.link.responses 0 e))) (λ h. absurd (false≢true (ap is_none h))))

-- ---- the commands of one call
module _ (config : List ℕ) (x : Rings) where
  -- Where the ring runs with no exception: HDA's commands, each of those that wait, and then the idle frame.
  pub commands-agree : Regular config x.regs → commands_of (dma_of config x.regs) x ≡ idle_of (hda_fetches (entries_of (byte_at x.regs corbsize)) config x)
  commands-agree r = sym (commands-done _ x (running r)) ∙ ap idle_of (run-agrees _ config x r)

  -- After them HDA has none to fetch.
  pub commands-drain : Regular config x.regs → hda.next_command config (hda_fetches (entries_of (byte_at x.regs corbsize)) config x).regs ≡ Rest
  commands-drain r =
      let i = Within r in
      rw (← run-agrees (entries_of (byte_at x.regs corbsize)) config x r) (drain config _ x r (near _ _ _ i.read i.write))

  -- Where the ring does not run, or DMA is off: none, in HDA and in the device.
  pub commands-rest : hda.dma_of config x.regs && bit 2 (get_or x.regs 0x4c 0) ≡ false
      → (hda.next_command config x.regs ≡ Rest) × (commands_of (dma_of config x.regs) x ≡ x)
  unfolding hda.next_command
  commands-rest off =
      (rw off, sym (commands-stopped _ x (rw (dma-agrees config x.regs, run-bit (get_or x.regs 0x4c 0)) (stops (hda.dma_of config x.regs) _ _ off))))
    where
      stops : (d b c : Bool) → d && b ≡ false → d && b && c ≡ false
      stops true true c e = absurd (false≢true (sym e))
      stops true false c e = refl
      stops false b c e = refl

  -- Where HDA says all of a call, the commands that wait and the frame without a response behind them, but for the run bit at a memory error, the device does just
  -- that, on every ring state: the ring may run or not, with DMA on or off.
  pub commands-say : File x.regs → idle_exception config (ring_state x) ≡ None → (y : Rings) → landing (run_of (entries_of (byte_at x.regs corbsize)) config x) ≡ some y
      → commands_of (dma_of config x.regs) x ≡ rings_from y.link.codec (hda.count_of true (ring_state y))
  unfolding idle_exception
  commands-say f =
      by-test (hda.dma_of config x.regs && bit 2 (get_or x.regs 0x4c 0)) (λ t h y all.
      let on = both (hda.dma_of config x.regs) (bit 2 (get_or x.regs 0x4c 0)) t in
      let r = run-regular _ config x (entries-some (byte_at x.regs corbsize)) f on.0 on.1 y all in
      sym (commands-done _ x (running r)) ∙ ap idle_of (run-says _ config x f on.0 on.1 y all) ∙ idle-state y) (λ t. rw t (λ h y all.
      let rest = commands-rest t in
      rest.1 ∙ idle-none x h ∙ idle-state x ∙ ap (λ (z : Rings). rings_from z.link.codec (hda.count_of true (ring_state z))) (run-off _ config x rest.0 y all)))
