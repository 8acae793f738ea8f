-- The waiting commands see guest memory through the command ring alone, and of the registers not the wall clock's. Assumes nothing.
use Prim.Native.Nat.{ℕ, zero, suc, ◌+◌, ◌*◌, ◌/◌, ◌%◌, ◌≤◌, ◌<◌}
use mathlib.Core.Path.{◌≡◌, sym, ap, ◌∙◌, subst}
use mathlib.Core.Bool.{Bool, true, false, cond, true≢false}
use mathlib.Core.List.{List, ◌++◌}
use mathlib.Core.Logic.{inl, inr}
use native.Mathlib.Omega.{arith}
use native.Mathlib.Nat.{mod-lt}
use lib.Dec.{eqb, leb}
use lib.Bits.{bit_and, bit_or}
use lib.ListN.{length, get_or, set, replicate, length-set}
use lib.Seq.{get_or-set_other}
use Rattle.word.specs.Value.{value_of, bytes_of}
use Rattle.word.specs.Place.{word_at, store_at}
use Rattle.word.proofs.Choices.{by_cond}
use Rattle.word.proofs.Place.{byte-elsewhere, length-store}
use Rattle.memory.specs.Memory.{Access, read_of, write_of}
use Rattle.codec.specs.declared.Codec.{Codec}
use Rattle.std.specs.Prelude.{Option, None, Some}
use Rattle.codec.specs.Codecs.{verb_of}
use Rattle.registers.specs.Places.{size, corbbase, corbwp, corbrp, corbctl, corbsts, corbsize, rirbbase, rirbwp, rintcnt, rirbctl, rirbsts, rirbsize, byte_at, has, with_bits, keep_bits}
use Rattle.rings.specs.declared.Link.{Link}
use Rattle.rings.specs.Rings.{Rings, rings_of, link_of, with_regs, entries_of, entry_at, overrun_of, reported_of, threshold_of, counted_of, next_response, written_of, response_of, answered_of, current_of, next_command, halted_of, executed_of, fetch_of, onward, again, fetches_of, idle_of, running_of, commands_of}
use Rattle.counts.specs.Counts.{Agree}
use Rattle.counts.proofs.Agree.{agree-word, agree-set, agree-store, agree-read, agree-write}
use Rattle.counts.proofs.Turns.{Timeless}

-- two register files that agree but for the wall clock, the first as `base` is up to the command ring's pointers
pub record FilesAlike (base r r' : List ℕ) : Type 0 where
  pub timeless : Agree Timeless r r'
  pub low : (k : ℕ) → k < 0x4a → get_or r k 0 ≡ get_or base k 0
  pub sized : length r ≡ size

module _ (base r r' : List ℕ) (a : FilesAlike base r r') where
  byte-alike : (k : ℕ) → 0x34 ≤ k → byte_at r k ≡ byte_at r' k
  byte-alike k h = a.timeless.same k (inr h)

  word-alike : (n k : ℕ) → 0x34 ≤ k → word_at n k r ≡ word_at n k r'
  word-alike n k h = agree-word Timeless r r' a.timeless n k (λ p lo hi. inr (omega arith))

  files-set : (k v : ℕ) → 0x4a ≤ k → k < size → FilesAlike base (set r k v) (set r' k v)
  files-set k v past small =
      record {
        timeless = agree-set Timeless r r' a.timeless k v (omega (arith, a.sized));
        low = λ p h. get_or-set_other r k p v 0 (λ z. omega arith) ∙ a.low p h;
        sized = length-set r k v ∙ a.sized;
      }

  files-store : (n k v : ℕ) → 0x4a ≤ k → k + n ≤ size → FilesAlike base (store_at n k v r) (store_at n k v r')
  files-store n k v past small =
      let fits : k + n ≤ length r = omega (arith, a.sized) in
      record {
        timeless = agree-store Timeless r r' a.timeless n k v fits;
        low = λ p h. byte-elsewhere n k v r fits p (inl (omega arith)) ∙ a.low p h;
        sized = length-store n k v r fits ∙ a.sized;
      }

  bits-with : (k mask : ℕ) → 0x4a ≤ k → k < size → FilesAlike base (with_bits k mask r) (with_bits k mask r')
  bits-with k mask past small = rw (← byte-alike k (omega arith)) (files-set k (bit_or (byte_at r k) mask) past small)

  bits-keep : (k mask : ℕ) → 0x4a ≤ k → k < size → FilesAlike base (keep_bits k mask r) (keep_bits k mask r')
  bits-keep k mask past small = rw (← byte-alike k (omega arith)) (files-set k (bit_and (byte_at r k) mask) past small)

module _ (P : ℕ → Type 0) (base : List ℕ) where
  pub record RingsAlike (x y : Rings) : Type 0 where
    pub files : FilesAlike base x.regs y.regs
    pub link : x.link ≡ y.link
    pub memory : Agree P x.memory y.memory

  both : (c c' : Bool) → c ≡ c' → (x x₁ y y₁ : Rings) → RingsAlike x x₁ → RingsAlike y y₁ → RingsAlike (cond c x y) (cond c' x₁ y₁)
  both true true e x x₁ y y₁ a b = a
  both false false e x x₁ y y₁ a b = b
  both true false e x x₁ y y₁ a b = absurd (true≢false e)
  both false true e x x₁ y y₁ a b = absurd (true≢false (sym e))

  overrun-alike : (x y : Rings) → RingsAlike x y → RingsAlike (overrun_of x) (overrun_of y)
  overrun-alike x y a = record { files = bits-with base _ _ a.files rirbsts 4 (omega arith) (omega arith); link = a.link; memory = a.memory }

  reported-alike : (x y : Rings) → RingsAlike x y → RingsAlike (reported_of x) (reported_of y)
  reported-alike x y a =
      record { files = bits-with base _ _ a.files rirbsts 1 (omega arith) (omega arith); link = ap (λ (l : Link). link_of l.codec 0) a.link; memory = a.memory }

  counted-alike : (x y : Rings) → RingsAlike x y → RingsAlike (counted_of x) (counted_of y)
  counted-alike x y a =
      let t : leb (threshold_of (byte_at x.regs rintcnt)) x.link.responses ≡ leb (threshold_of (byte_at y.regs rintcnt)) y.link.responses = rw (byte-alike base _ _ a.files rintcnt (omega arith), a.link) in
      both _ _ t (reported_of x) (reported_of y) x y (reported-alike x y a) a

  next-response : (x y : Rings) → RingsAlike x y → next_response x.regs ≡ next_response y.regs
  next-response x y a = rw (word-alike base _ _ a.files 2 rirbwp (omega arith), byte-alike base _ _ a.files rirbsize (omega arith))

  written-alike : (x y : Rings) (w w' : Access) → w.moved ≡ w'.moved → Agree P w.bytes w'.bytes → RingsAlike x y → RingsAlike (written_of x w) (written_of y w')
  written-alike x y w w' e m a =
      let stored : FilesAlike base (store_at 2 rirbwp (next_response x.regs) x.regs) (store_at 2 rirbwp (next_response y.regs) y.regs) = rw (← next-response x y a) (files-store base _ _ a.files 2 rirbwp (next_response x.regs) (omega arith) (omega arith)) in
      let x₁ : Rings = rings_of (store_at 2 rirbwp (next_response x.regs) x.regs) (link_of x.link.codec (x.link.responses + 1)) w.bytes in
      let y₁ : Rings = rings_of (store_at 2 rirbwp (next_response y.regs) y.regs) (link_of y.link.codec (y.link.responses + 1)) w'.bytes in
      both w.moved w'.moved e (counted_of x₁) (counted_of y₁) (overrun_of x) (overrun_of y)
      (counted-alike x₁ y₁ (record { files = stored; link = ap (λ (l : Link). link_of l.codec (l.responses + 1)) a.link; memory = m }))
      (overrun-alike x y a)

  response-alike : (x y : Rings) (value extended : ℕ) → RingsAlike x y → RingsAlike (response_of x value extended) (response_of y value extended)
  unfolding response_of
  response-alike x y value extended a =
      let bs : List ℕ = bytes_of 4 value ++ bytes_of 4 extended in
      let place : entry_at (word_at 8 rirbbase x.regs) 8 (next_response x.regs) ≡ entry_at (word_at 8 rirbbase y.regs) 8 (next_response y.regs) = rw (word-alike base _ _ a.files 8 rirbbase (omega arith), next-response x y a) in
      let w = agree-write P x.memory y.memory a.memory (entry_at (word_at 8 rirbbase x.regs) 8 (next_response x.regs)) bs in
      both _ _ (ap (has 2) (byte-alike base _ _ a.files rirbctl (omega arith))) _ _ (overrun_of x) (overrun_of y)
      (subst (λ (k : ℕ). RingsAlike (written_of x (write_of x.memory (entry_at (word_at 8 rirbbase x.regs) 8 (next_response x.regs)) bs)) (written_of y (write_of y.memory k bs))) place
      (written-alike x y _ _ w.0 w.1 a))
      (overrun-alike x y a)

  answered-alike : (x y : Rings) (codec : Codec) (r : Option ℕ) → RingsAlike x y → RingsAlike (answered_of x codec r) (answered_of y codec r)
  answered-alike x y codec None a = record { files = a.files; link = ap (λ (l : Link). link_of codec l.responses) a.link; memory = a.memory }
  answered-alike x y codec (Some v) a =
      response-alike _ _ v 0 (record { files = a.files; link = ap (λ (l : Link). link_of codec l.responses) a.link; memory = a.memory })

  next-command : (x y : Rings) → RingsAlike x y → next_command x.regs ≡ next_command y.regs
  next-command x y a = rw (word-alike base _ _ a.files 2 corbrp (omega arith), byte-alike base _ _ a.files corbsize (omega arith))

  executed-alike : (x y : Rings) (command : ℕ) → RingsAlike x y → RingsAlike (executed_of x command) (executed_of y command)
  executed-alike x y command a =
      subst (λ (l : Link). RingsAlike (executed_of x command) (answered_of (with_regs y (store_at 2 corbrp (next_command y.regs) y.regs)) (verb_of l.codec command).codec (verb_of l.codec command).reply)) a.link
      (answered-alike (with_regs x (store_at 2 corbrp (next_command x.regs) x.regs)) (with_regs y (store_at 2 corbrp (next_command y.regs) y.regs)) (verb_of x.link.codec command).codec (verb_of x.link.codec command).reply
      (record {
        files = rw (← next-command x y a) (files-store base _ _ a.files 2 corbrp (next_command x.regs) (omega arith) (omega arith));
        link = a.link;
        memory = a.memory;
      }))

  entries-few : (b : ℕ) → (0 < entries_of b) × (entries_of b ≤ 256)
  entries-few b =
      by_cond (λ (n : ℕ). (0 < n) × (n ≤ 256)) (eqb (b % 4) 0) 2 (cond (eqb (b % 4) 1) 16 256) (λ _. (omega arith, omega arith))
      (λ _. by_cond (λ (n : ℕ). (0 < n) × (n ≤ 256)) (eqb (b % 4) 1) 16 256 (λ _. (omega arith, omega arith)) (λ _. (omega arith, omega arith)))

  -- the command ring lies in the set
  module _ (ring : (p : ℕ) → word_at 8 corbbase base / 128 * 128 ≤ p → p < word_at 8 corbbase base / 128 * 128 + 1024 → P p) where
    fetch-alike : (x y : Rings) → RingsAlike x y → length base ≡ size → fetch_of x ≡ fetch_of y
    fetch-alike x y a sized =
        let first : word_at 8 corbbase x.regs ≡ word_at 8 corbbase base = agree-word (λ (k : ℕ). k < 0x4a) x.regs base (record { long = a.files.sized ∙ sym sized; same = a.files.low }) 8 corbbase (λ p lo hi. omega arith) in
        let few = entries-few (byte_at x.regs corbsize) in
        let small : next_command x.regs < 256 = omega (arith, mod-lt (current_of x.regs corbrp + 1) few.0, few.1) in
        let place : entry_at (word_at 8 corbbase x.regs) 4 (next_command x.regs) ≡ entry_at (word_at 8 corbbase y.regs) 4 (next_command y.regs) = rw (word-alike base _ _ a.files 8 corbbase (omega arith), next-command x y a) in
        agree-read P x.memory y.memory a.memory (entry_at (word_at 8 corbbase x.regs) 4 (next_command x.regs)) (replicate 4 0) (λ p lo hi. ring p (omega arith) (omega arith))
        ∙ ap (λ (k : ℕ). read_of y.memory k (replicate 4 0)) place

    halted-alike : (x y : Rings) → RingsAlike x y → RingsAlike (halted_of x) (halted_of y)
    halted-alike x y a =
        record { files = bits-keep base _ _ (bits-with base _ _ a.files corbsts 1 (omega arith) (omega arith)) corbctl 0xfd (omega arith) (omega arith); link = a.link; memory = a.memory }

    onward-alike : (b b' : Bool) → b ≡ b' → (x y : Rings) (f f' : Access) → f ≡ f' → (rest : Rings → Rings) → ((x₁ y₁ : Rings) → RingsAlike x₁ y₁ → RingsAlike (rest x₁) (rest y₁)) → RingsAlike x y
        → RingsAlike (onward b x f rest) (onward b' y f' rest)
    onward-alike true true e x y f f' ef rest more a =
        subst (λ (z : Access). RingsAlike (rest (executed_of x (value_of f.bytes))) (rest (executed_of y (value_of z.bytes)))) ef (more _ _ (executed-alike x y (value_of f.bytes) a))
    onward-alike false false e x y f f' ef rest more a = halted-alike x y a
    onward-alike true false e x y f f' ef rest more a = absurd (true≢false e)
    onward-alike false true e x y f f' ef rest more a = absurd (true≢false (sym e))

    again-alike : (b b' : Bool) → b ≡ b' → (x y : Rings) (rest : Rings → Rings) → ((x₁ y₁ : Rings) → RingsAlike x₁ y₁ → RingsAlike (rest x₁) (rest y₁)) → length base ≡ size → RingsAlike x y
        → RingsAlike (again b x rest) (again b' y rest)
    again-alike true true e x y rest more sized a = a
    again-alike false false e x y rest more sized a =
        let f = fetch-alike x y a sized in
        onward-alike (fetch_of x).moved (fetch_of y).moved (ap (λ (z : Access). z.moved) f) x y (fetch_of x) (fetch_of y) f rest more a
    again-alike true false e x y rest more sized a = absurd (true≢false e)
    again-alike false true e x y rest more sized a = absurd (true≢false (sym e))

    current-alike : (x y : Rings) (k : ℕ) → 0x34 ≤ k → RingsAlike x y → current_of x.regs k ≡ current_of y.regs k
    current-alike x y k h a = rw (word-alike base _ _ a.files 2 k h, byte-alike base _ _ a.files corbsize (omega arith))

    fetches-alike : (fuel : ℕ) (x y : Rings) → length base ≡ size → RingsAlike x y → RingsAlike (fetches_of fuel x) (fetches_of fuel y)
    unfolding fetches_of
    fetches-alike zero x y sized a = a
    fetches-alike (suc fuel) x y sized a =
        let t : eqb (current_of x.regs corbrp) (current_of x.regs corbwp) ≡ eqb (current_of y.regs corbrp) (current_of y.regs corbwp) = rw (current-alike x y corbrp (omega arith) a, current-alike x y corbwp (omega arith) a) in
        again-alike _ _ t x y (fetches_of fuel) (λ x₁ y₁ k. fetches-alike fuel x₁ y₁ sized k) sized a

    idle-alike : (x y : Rings) → RingsAlike x y → RingsAlike (idle_of x) (idle_of y)
    idle-alike x y a = both _ _ (ap (λ (l : Link). eqb l.responses 0) a.link) x y (reported_of x) (reported_of y) a (reported-alike x y a)

    pub commands-alike : (dma : Bool) (x y : Rings) → length base ≡ size → RingsAlike x y → RingsAlike (commands_of dma x) (commands_of dma y)
    unfolding commands_of
    commands-alike dma x y sized a =
        let n : entries_of (byte_at x.regs corbsize) ≡ entries_of (byte_at y.regs corbsize) = ap entries_of (byte-alike base _ _ a.files corbsize (omega arith)) in
        let t : running_of dma x.regs ≡ running_of dma y.regs = rw (byte-alike base _ _ a.files corbctl (omega arith), byte-alike base _ _ a.files (corbrp + 1) (omega arith)) in
        both _ _ t (idle_of (fetches_of (entries_of (byte_at x.regs corbsize)) x)) (idle_of (fetches_of (entries_of (byte_at y.regs corbsize)) y)) x y
        (subst (λ (k : ℕ). RingsAlike (idle_of (fetches_of (entries_of (byte_at x.regs corbsize)) x)) (idle_of (fetches_of k y))) n
        (idle-alike _ _ (fetches-alike (entries_of (byte_at x.regs corbsize)) x y sized a))) a
