-- The rings do what HDA 1.0a says (specs/Hda) in every state, but for the named exceptions (specs/Exceptions). Assumes nothing.
use Prim.Native.Nat.{ℕ, suc, ◌+◌, ◌/◌, ◌%◌, ◌≤◌, ◌<◌}
use mathlib.Core.Path.{◌≡◌, refl, sym, ap, ◌∙◌}
use mathlib.Core.Bool.{Bool, true, false, cond, ◌&&◌, false≢true, or-true}
use mathlib.Core.List.{List}
use mathlib.Core.Option.{none, some}
use native.Mathlib.Omega.{arith}
use native.Mathlib.Nat.{mod-eq_of_lt}
use borrow.Author.Tests.{eqb-false, ltb-true, ltb-false, lt-ltb, lt-leb, eq-eqb, ne_eqb}
use lib.Dec.{eqb, leb, ltb}
use lib.Bits.{bit_and, bit_or, and_high, or_step, and_step}
use lib.ListN.{length, get_or, length-set}
use lib.Seq.{get_or-set_same, get_or-set_other}
use Rattle.word.specs.Value.{value_of, Bytes}
use Rattle.word.specs.Place.{word_at}
use Rattle.word.proofs.Choices.{by-test, both, by_value, by_bit}
use Rattle.word.proofs.Place.{word_bound, word-pair}
use Rattle.memory.specs.Memory.{read_of, write_of}
use Rattle.registers.specs.Places.{corbbase, corbrp, corbwp, corbctl, corbsts, rirbbase, rirbctl, rirbsts, byte_at, has, with_bits, dma_of}
use Rattle.rings.specs.Rings.{Rings, entries_of, entry_at, counted_of, reported_of, idle_of, next_response, response_of, current_of, next_command, halted_of, fetch_of, fetches_of, running_of}
use Rattle.rings_hda.specs.Hda as hda
use Rattle.rings_hda.specs.Hda.{Next, Rest, Use, Open, bit, size_of, sized, entry_of, command_of, Failed, fetched, stored, State}
use Rattle.rings_hda.specs.Exceptions.{Exception, None, SizeReserved, PointerOutside, ResetHeld, MemoryError, ResponseOff, ResponseOutside, IdleUnseen, is_none, or_else, ring_exception, unread, unwritten, command_exception, fetch_exception, response_exception, store_exception}
use Rattle.rings_hda.specs.Steps.{ring_state, device_command, device_fetch, after_fetch, device_response, halting, losing, File}

-- ---- bits
-- the device's test of a bit is HDA's
pub run-bit : (b : ℕ) → has 2 b ≡ bit 2 b
run-bit b = by_bit (b / 2) (λ e. rw (and_high b 1 1, e)) (λ e. rw (and_high b 1 1, e))

pub high_bit : (b : ℕ) → has 0x80 b ≡ bit 0x80 b
high_bit b = by_bit (b / 0x80) (λ e. rw (and_high b 1 7, e)) (λ e. rw (and_high b 1 7, e))

master-bit : (b : ℕ) → has 4 b ≡ bit 4 b
master-bit b = by_bit (b / 4) (λ e. rw (and_high b 1 2, e)) (λ e. rw (and_high b 1 2, e))

pub low_bit : (b : ℕ) → has 1 b ≡ bit 1 b
low_bit b = by_bit (b / 1) (λ e. rw (and_high b 1 0, e)) (λ e. rw (and_high b 1 0, e))

-- Ring DMA is on in the device exactly where HDA has it on.
pub dma-agrees : (config regs : List ℕ) → dma_of config regs ≡ hda.dma_of config regs
unfolding dma_of hda.dma_of
dma-agrees config regs = rw (master-bit (byte_at config 4), low_bit (byte_at regs 8))

-- ---- rings
-- an exception is not none
never : {A : Type 0} (e : Exception) → is_none e ≡ false → e ≡ None → A
never e r h = absurd (false≢true (sym r ∙ ap is_none h))

pub is-none : (e : Exception) → is_none e ≡ true → e ≡ None
is-none None h = refl
is-none SizeReserved h = absurd (false≢true h)
is-none PointerOutside h = absurd (false≢true h)
is-none ResetHeld h = absurd (false≢true h)
is-none MemoryError h = absurd (false≢true h)
is-none ResponseOff h = absurd (false≢true h)
is-none ResponseOutside h = absurd (false≢true h)
is-none IdleUnseen h = absurd (false≢true h)

-- where neither of two is named
neither : (e f : Exception) → or_else e f ≡ None → (e ≡ None) × (f ≡ None)
neither e f = by-test (is_none e) (λ t. rw t (λ h. (is-none e t, h))) (λ t. rw t (never e t))

-- a size that is not reserved
sized-code : (b : ℕ) → eqb (b % 4) 3 ≡ false → size_of (b % 4) ≡ some (entries_of b)
sized-code b h =
    by_value (b % 4) 0 (λ e. rw e) λ e0. rw e0
    (by_value (b % 4) 1 (λ e. rw e) λ e1. rw e1
    (let two : b % 4 ≡ 2 = omega (arith, eqb-false (b % 4) 3 h, eqb-false (b % 4) 0 e0, eqb-false (b % 4) 1 e1) in rw two))

sized-entries : (b : ℕ) (f : ℕ → Next) → eqb (b % 4) 3 ≡ false → sized (size_of (b % 4)) f ≡ f (entries_of b)
sized-entries b f h = rw (sized-code b h)

-- where there is no exception the size is not reserved, and the pointers are entries of the ring
regular : (size : ℕ) (inside : ℕ → Bool) → ring_exception (size_of (size % 4)) inside ≡ None → (eqb (size % 4) 3 ≡ false) × (inside (entries_of size) ≡ true)
regular size inside =
    by_value (size % 4) 3 (λ e. rw e (never _ refl)) λ f. rw (sized-code size f)
    (by-test (inside (entries_of size)) (λ t. rw t (λ h. (f, refl))) (λ t. rw t (never _ refl)))

-- entries at least 1, at most 256
entries_by : (P : ℕ → Type 0) → P 2 → P 16 → P 256 → (b : ℕ) → P (entries_of b)
entries_by P two sixteen all b = by_value (b % 4) 0 (λ e. rw e two) λ e. rw e (by_value (b % 4) 1 (λ e. rw e sixteen) λ e. rw e all)

pub entries-some : (b : ℕ) → 0 < entries_of b
entries-some = entries_by (λ n. 0 < n) (omega arith) (omega arith) (omega arith)

pub entries-few : (b : ℕ) → entries_of b ≤ 256
entries-few = entries_by (λ n. n ≤ 256) (omega arith) (omega arith) (omega arith)

-- ---- which command is fetched next
-- of pointers that are entries of the ring
inside-agrees : (base read write entries : ℕ) → read < entries → write < entries
    → cond (eqb (read % entries) (write % entries)) Rest (Use ((read % entries + 1) % entries) (entry_at base 4 ((read % entries + 1) % entries))) ≡ command_of base read write entries
inside-agrees base read write entries r w =
    rw (mod-eq_of_lt r, mod-eq_of_lt w, lt-ltb read entries r, lt-ltb write entries w)

-- the size is not reserved, the reset bit is clear, and the pointers are entries of the ring
pub record Inside (regs : List ℕ) : Type 0 where
  pub sized : eqb (get_or regs 0x4e 0 % 4) 3 ≡ false
  pub clear : bit 0x8000 (word_at 2 0x4a regs) ≡ false
  pub read : word_at 2 0x4a regs < entries_of (get_or regs 0x4e 0)
  pub write : word_at 2 0x48 regs < entries_of (get_or regs 0x4e 0)

module _ (regs : List ℕ) (size : length regs ≡ 256) (range : Bytes regs) where
  -- the reset bit, by its byte and by its word
  pub reset-bit : has 0x80 (byte_at regs (corbrp + 1)) ≡ bit 0x8000 (word_at 2 0x4a regs)
  reset-bit =
      let pair = word-pair 0x4a regs (omega arith) in
      let same : word_at 2 0x4a regs / 0x8000 % 2 ≡ byte_at regs 0x4b / 0x80 % 2 = omega (arith, range 0x4a, range 0x4b) in
      rw (high_bit (byte_at regs 0x4b), same)

  -- a pointer whose reset bit is clear
  pointer-low : bit 0x8000 (word_at 2 0x4a regs) ≡ false → word_at 2 0x4a regs % 0x8000 ≡ word_at 2 0x4a regs
  pointer-low clear = omega (arith, eqb-false (word_at 2 0x4a regs / 0x8000 % 2) 1 clear, word_bound 2 0x4a regs (omega arith) range)

  module _ (config : List ℕ) (dma : hda.dma_of config regs ≡ true) where
    -- a ring that runs has no exception exactly where HDA says where its next command is
    pub none_inside : bit 2 (get_or regs 0x4c 0) ≡ true → command_exception config regs ≡ None → Inside regs
    unfolding command_exception
    none_inside runs =
        rw (dma, runs)
        (by-test (bit 0x8000 (word_at 2 0x4a regs)) (λ r. rw r (never _ refl)) λ r. rw r (λ h.
        let k = regular (get_or regs 0x4e 0) (λ (n : ℕ). ltb (word_at 2 0x48 regs) n && ltb (word_at 2 0x4a regs % 0x8000) n) h in
        let in-ring = both (ltb (word_at 2 0x48 regs) (entries_of (get_or regs 0x4e 0))) _ k.1 in
        record { sized = k.0; clear = r; read = ltb-true _ _ (rw (pointer-low r) at in-ring.1); write = ltb-true _ _ in-ring.0 }))

    pub inside-none : Inside regs → command_exception config regs ≡ None
    unfolding command_exception
    inside-none i =
        rw dma
        (by-test (bit 2 (get_or regs 0x4c 0))
        (λ t. rw (t, i.clear, sized-code (get_or regs 0x4e 0) i.sized, pointer-low i.clear, lt-ltb _ _ i.write, lt-ltb _ _ i.read)) (λ t. rw t))

  -- Where no exception is named, the device's next fetch is HDA's: whether there is one, its entry's index, and its address.
  pub command-agrees : (config : List ℕ) → command_exception config regs ≡ None → device_command config regs ≡ hda.next_command config regs
  unfolding hda.next_command
  command-agrees config h =
      rw (dma-agrees config regs, run-bit (byte_at regs corbctl), reset-bit)
      (by-test (hda.dma_of config regs) (λ d. rw d
      (by-test (bit 2 (get_or regs 0x4c 0)) (λ t.
      let i = none_inside config d t h in
      rw (t, i.clear, pointer-low i.clear, sized-entries (get_or regs 0x4e 0) (command_of (word_at 8 0x40 regs) (word_at 2 0x4a regs) (word_at 2 0x48 regs)) i.sized)
      (inside-agrees (word_at 8 0x40 regs) (word_at 2 0x4a regs) (word_at 2 0x48 regs) (entries_of (get_or regs 0x4e 0)) i.read i.write)) λ t. rw t)) λ d. rw d)

-- An exception is named only where HDA says nothing.
pub command-silent : (config regs : List ℕ) → is_none (command_exception config regs) ≡ false → hda.next_command config regs ≡ Open
unfolding command_exception hda.next_command
command-silent config regs =
    by-test (hda.dma_of config regs && bit 2 (get_or regs 0x4c 0)) (λ t. rw t
    (by-test (bit 0x8000 (word_at 2 0x4a regs)) (λ r. rw r (λ h. refl)) λ r. rw r
    (by_value (get_or regs 0x4e 0 % 4) 3 (λ e. rw e (λ h. refl)) λ f.
    let entries : ℕ = entries_of (get_or regs 0x4e 0) in
    let read : ℕ = word_at 2 0x4a regs % 0x8000 in
    let write : ℕ = word_at 2 0x48 regs in
    rw (sized-code (get_or regs 0x4e 0) f)
    (by-test (ltb write entries) (λ w. rw w
    (by-test (ltb read entries) (λ e. rw e (λ h. absurd (false≢true (sym h))))
    (λ e. rw (e, ne_eqb read write (omega (arith, ltb-true write entries w, ltb-false read entries e))) (λ h. refl)))) (λ w. rw w (λ h. refl)))))) λ t. rw t
    (λ h. absurd (false≢true (sym h)))

-- ---- what a fetch does
module _ (x : Rings) where
  -- memory has the entry, and the command is its four bytes
  pub read-there : (fetch_of x).moved ≡ leb (entry_at (word_at 8 corbbase x.regs) 4 (next_command x.regs) + 4) (length x.memory)
  unfolding read_of
  read-there = by-test (leb (entry_at (word_at 8 corbbase x.regs) 4 (next_command x.regs) + 4) (length x.memory)) (λ t. rw t) (λ t. rw t)

  pub read_word : (fetch_of x).moved ≡ true → value_of (fetch_of x).bytes ≡ word_at 4 (entry_at (word_at 8 corbbase x.regs) 4 (next_command x.regs)) x.memory
  unfolding read_of word_at
  read_word m = rw (sym read-there ∙ m)

  -- the device's fetch, by its entry
  fetch-entry : (config : List ℕ) → device_fetch config x ≡ halting (fetched (ring_state x) (device_command config x.regs))
  fetch-entry config =
      by-test (running_of (dma_of config x.regs) x.regs) (λ r. rw r
      (by-test (eqb (current_of x.regs corbrp) (current_of x.regs corbwp)) (λ e. rw e) λ e. rw e
      (by-test (fetch_of x).moved (λ m. rw (← read-there, m, read_word m)) (λ m. rw (← read-there, m))))) λ r. rw r

  module _ (f : File x.regs) (config : List ℕ) where
    -- Where HDA says where the next command is, the device does with it what HDA says: rests, fetches that very word and moves the read pointer, or has a memory
    -- error, of which HDA says all but the run bit.
    pub fetch-agrees : command_exception config x.regs ≡ None → device_fetch config x ≡ halting (hda.fetch_of config (ring_state x))
    unfolding hda.fetch_of
    fetch-agrees h = fetch-entry config ∙ ap (λ (n : Next). halting (fetched (ring_state x) n)) (command-agrees x.regs f.size f.range config h)

    -- Where no exception is named, exactly that.
    pub fetch-exact : fetch_exception config (ring_state x) ≡ None → device_fetch config x ≡ hda.fetch_of config (ring_state x)
    unfolding fetch_exception hda.fetch_of
    fetch-exact h =
        let k = neither (command_exception config x.regs) (unread x.memory (hda.next_command config x.regs)) h in
        fetch-agrees k.0 ∙ there (hda.next_command config x.regs) k.1
      where
        there : (n : Next) → unread x.memory n ≡ None → halting (fetched (ring_state x) n) ≡ fetched (ring_state x) n
        there Rest = λ u. refl
        there (Use i a) = by-test (leb (a + 4) (length x.memory)) (λ t. rw t (λ u. refl)) (λ t. rw t (never _ refl))
        there Open = λ u. refl

-- Behind the exceptions of where the next command is, one is named only at a memory error, of which HDA does not say all.
pub fetch-failed : (config : List ℕ) (s : State) → command_exception config s.regs ≡ None → is_none (fetch_exception config s) ≡ false
    → hda.fetch_of config s ≡ Failed (hda.memory_error_of s)
unfolding fetch_exception hda.fetch_of
fetch-failed config s h = rw h (failed (hda.next_command config s.regs))
  where
    failed : (n : Next) → is_none (unread s.memory n) ≡ false → fetched s n ≡ Failed (hda.memory_error_of s)
    failed Rest = λ u. absurd (false≢true (sym u))
    failed (Use i a) = by-test (leb (a + 4) (length s.memory)) (λ t. rw t (λ u. absurd (false≢true (sym u)))) (λ t. rw t (λ u. refl))
    failed Open = λ u. absurd (false≢true (sym u))

-- The device's run is made of these fetches.
pub fetch-follows : (fuel : ℕ) (config : List ℕ) (x : Rings) → running_of (dma_of config x.regs) x.regs ≡ true
    → fetches_of (suc fuel) x ≡ after_fetch x (device_fetch config x) (fetches_of fuel)
unfolding fetches_of
fetch-follows fuel config x runs =
    rw runs
    (by-test (eqb (current_of x.regs corbrp) (current_of x.regs corbwp)) (λ t. rw t) λ t. rw t
    (by-test (fetch_of x).moved (λ m. rw m) (λ m. rw m)))

-- ---- where a response goes
module _ (config regs : List ℕ) where
  -- Where no exception is named, the place of the device's next response is HDA's. (It has responses only with DMA on.)
  pub response-agrees : hda.dma_of config regs ≡ true → response_exception config regs ≡ None → device_response regs ≡ hda.next_response config regs
  unfolding response_exception hda.next_response
  response-agrees dma =
      rw (dma, run-bit (byte_at regs rirbctl))
      (by-test (bit 2 (get_or regs 0x5c 0)) (λ t. rw t (λ h.
      let k = regular (get_or regs 0x5e 0) (ltb (word_at 2 0x58 regs)) h in
      rw (sized-entries (get_or regs 0x5e 0) (λ (entries : ℕ). entry_of (word_at 8 0x50 regs) 8 entries (word_at 2 0x58 regs)) k.0, k.1))) λ t. rw t (λ h. refl))

  pub response-silent : is_none (response_exception config regs) ≡ false → hda.next_response config regs ≡ Open
  unfolding response_exception hda.next_response
  response-silent =
      by-test (hda.dma_of config regs && bit 2 (get_or regs 0x5c 0)) (λ t. rw t
      (by_value (get_or regs 0x5e 0 % 4) 3 (λ e. rw e (λ h. refl)) λ f.
      rw (sized-code (get_or regs 0x5e 0) f)
      (by-test (ltb (word_at 2 0x58 regs) (entries_of (get_or regs 0x5e 0))) (λ w. rw w (λ h. absurd (false≢true (sym h)))) (λ w. rw w (λ h. refl))))) λ t. rw t
      (λ h. absurd (false≢true (sym h)))

-- ---- when the interrupt status is set
-- A response that counts ends its batch exactly where HDA says: as many have come as the interrupt count asks for.
pub count-agrees : (x : Rings) → counted_of x ≡ cond (hda.interrupt_of x.regs x.link.responses false) (reported_of x) x
unfolding hda.interrupt_of
count-agrees x = by-test (leb (hda.batch_of (get_or x.regs 0x5a 0)) x.link.responses) (λ t. rw t) (λ t. rw t)

-- a batch has a response, so none has come where the count is 0
batch-some : (b : ℕ) → leb (hda.batch_of b) 0 ≡ false
batch-some b = by_value b 0 (λ e. rw e) λ f. rw f (lt-leb b 0 (omega (arith, eqb-false b 0 f)))

-- And an idle frame exactly where HDA says: where any response has come.
pub idle-agrees : (x : Rings) → idle_of x ≡ cond (hda.interrupt_of x.regs x.link.responses true) (reported_of x) x
unfolding hda.interrupt_of
idle-agrees x =
    by_value x.link.responses 0 (λ e. rw (e, batch-some (get_or x.regs 0x5a 0))) λ f.
    let some = eqb-false x.link.responses 0 f in
    rw (f, lt-ltb 0 x.link.responses (omega arith), or-true (leb (hda.batch_of (get_or x.regs 0x5a 0)) x.link.responses))

-- ---- what a response does
counted-state : (x : Rings) → ring_state (counted_of x) ≡ hda.count_of false (ring_state x)
counted-state x = rw (count-agrees x) (by-test (hda.interrupt_of x.regs x.link.responses false) (λ t. rw t) (λ t. rw t))

module _ (x : Rings) (codec : ℕ) (unsolicited : Bool) (value : ℕ) where
  abbrev second : ℕ
  second = codec + cond unsolicited 16 0

  -- the device's response, by its entry
  response-entry : ring_state (response_of x value second) ≡ losing (ring_state x) (stored (ring_state x) (hda.entry_bytes codec unsolicited value) (device_response x.regs))
  unfolding response_of write_of
  response-entry =
      by-test (has 2 (byte_at x.regs rirbctl)) (λ t. rw t
      (by-test (leb (entry_at (word_at 8 rirbbase x.regs) 8 (next_response x.regs) + 8) (length x.memory)) (λ m. rw m (counted-state _)) (λ m. rw m))) (λ t. rw t)

  module _ (config : List ℕ) where
    -- Where HDA says where a response goes, it goes there, moves the write pointer and counts, as HDA says; one that finds no place is HDA's overrun.
    pub response-by-hda : hda.dma_of config x.regs ≡ true → response_exception config x.regs ≡ None
        → ring_state (response_of x value second) ≡ losing (ring_state x) (hda.response_of config (ring_state x) codec unsolicited value)
    unfolding hda.response_of
    response-by-hda dma h =
        response-entry ∙ ap (λ (n : Next). losing (ring_state x) (stored (ring_state x) (hda.entry_bytes codec unsolicited value) n)) (response-agrees config x.regs dma h)

    -- Where no exception is named, exactly that.
    pub response-exact : hda.dma_of config x.regs ≡ true → store_exception config (ring_state x) ≡ None
        → hda.response_of config (ring_state x) codec unsolicited value ≡ some (ring_state (response_of x value second))
    unfolding store_exception hda.response_of
    response-exact dma h =
        let k = neither (response_exception config x.regs) (unwritten x.memory (hda.next_response config x.regs)) h in
        let place = response-agrees config x.regs dma k.0 in
        rw (← place) (there (ap (unwritten x.memory) place ∙ k.1)) ∙ ap (λ (s : State). some s) (sym response-entry)
      where
        there : unwritten x.memory (device_response x.regs) ≡ None
            → stored (ring_state x) (hda.entry_bytes codec unsolicited value) (device_response x.regs)
            ≡ some (losing (ring_state x) (stored (ring_state x) (hda.entry_bytes codec unsolicited value) (device_response x.regs)))
        there =
            by-test (has 2 (byte_at x.regs rirbctl)) (λ t. rw t
            (by-test (leb (entry_at (word_at 8 rirbbase x.regs) 8 (next_response x.regs) + 8) (length x.memory)) (λ m. rw m (λ u. refl)) (λ m. rw m (never _ refl))))
            (λ t. rw t (never _ refl))

    -- An exception is named only where HDA says nothing.
    pub store-silent : is_none (store_exception config (ring_state x)) ≡ false → hda.response_of config (ring_state x) codec unsolicited value ≡ none
    unfolding store_exception hda.response_of
    store-silent =
        by-test (is_none (response_exception config x.regs)) (λ t. rw t (lost (hda.next_response config x.regs)))
        (λ t. rw (response-silent config x.regs t) (λ h. refl))
      where
        lost : (n : Next) → is_none (unwritten x.memory n) ≡ false → stored (ring_state x) (hda.entry_bytes codec unsolicited value) n ≡ none
        lost Rest = λ u. refl
        lost (Use i a) = by-test (leb (a + 8) (length x.memory)) (λ t. rw t (λ u. absurd (false≢true (sym u)))) (λ t. rw t (λ u. refl))
        lost Open = λ u. refl

-- ---- what the status bits then say, in HDA's terms
-- a bit set, and bit 1 cleared
odd_set : (b : ℕ) → bit 1 (bit_or b 1) ≡ true
odd_set b = eq-eqb (bit_or b 1 / 1 % 2) 1 (omega (arith, or_step b 1))

run-cleared : (b : ℕ) → bit 2 (bit_and b 0xfd) ≡ false
run-cleared b = ne_eqb (bit_and b 0xfd / 2 % 2) 1 (omega (arith, and_step b 0xfd, and_step (b / 2) 0x7e))

-- A batch that ends sets the response interrupt's status.
pub report-status : (x : Rings) → rirbsts < length x.regs → bit 1 (byte_at (reported_of x).regs rirbsts) ≡ true
report-status x long = rw (get_or-set_same x.regs rirbsts (bit_or (byte_at x.regs rirbsts) 1) 0 long) (odd_set (byte_at x.regs rirbsts))

-- A command that memory does not have sets the memory error's status and clears RUN, so that nothing more is fetched.
pub halt-status : (x : Rings) → corbsts < length x.regs
    → (bit 1 (byte_at (halted_of x).regs corbsts) ≡ true) × (bit 2 (byte_at (halted_of x).regs corbctl) ≡ false)
halt-status x long =
    let l : List ℕ = with_bits corbsts 1 x.regs in
    let room : corbctl < length l = omega (arith, length-set x.regs corbsts (bit_or (byte_at x.regs corbsts) 1)) in (
      rw (get_or-set_other l corbctl corbsts (bit_and (byte_at l corbctl) 0xfd) 0 (omega arith), get_or-set_same x.regs corbsts (bit_or (byte_at x.regs corbsts) 1) 0 long)
          (odd_set (byte_at x.regs corbsts)),
      rw (get_or-set_same l corbctl (bit_and (byte_at l corbctl) 0xfd) 0 room) (run-cleared (byte_at l corbctl)),
    )
