-- A byte written to the immediate command's status does what HDA 1.0a says (specs/Immediate) in every state, but for the named exceptions (specs/Exceptions). Assumes
-- nothing.
use Prim.Native.Nat.{ℕ, suc, ◌+◌, ◌-◌, ◌*◌, ◌/◌, ◌%◌, ◌≤◌, ◌<◌}
use mathlib.Core.Path.{◌≡◌, refl, sym, ap, ◌∙◌}
use mathlib.Core.Bool.{Bool, true, false, cond, not, ◌&&◌, and-true, and-false}
use mathlib.Core.List.{List, ◌∷◌, ◌++◌, append_assoc}
use mathlib.Core.Option.{some}
use native.Mathlib.Omega.{arith}
use native.Mathlib.Nat.{div-div-eq-div-mul}
use lib.Bits.{bit_and, bit_or, and_high, and_mask, and_step, or_step, or_zero_r}
use lib.ListN.{length, get_or, set, take, drop, length-append, length-take, length-set}
use lib.Seq.{get_or-set_same, get_or-set_other, set-set, set_at, drop-cons, take-set-le, drop-set-lt}
use Rattle.word.specs.Value.{value_of, bytes_of}
use Rattle.word.specs.Place.{word_at, store_at}
use Rattle.word.proofs.Choices.{by-test, neither, by_bit, chosen}
use Rattle.word.proofs.Lists.{drop-take}
use Rattle.word.proofs.Value.{length-bytes}
use Rattle.codec.specs.declared.Codec.{Codec}
use Rattle.std.specs.Prelude.{Option as Reply, Some as Value, None as Nothing}
use Rattle.codec.specs.Codecs.{verb_of}
use Rattle.registers.specs.Places.{icis}
use Rattle.immediate.specs.Immediate.{immediately, immediate_allowed, replied_of, immediate_of}
use Rattle.rings_hda.specs.Hda.{bit}
use Rattle.rings_hda.specs.Steps.{File}
use Rattle.rings_hda.proofs.Agreement.{run-bit, low_bit}
use Rattle.link_hda.specs.Immediate.{is_valid, is_busy, status_of, answered_of, rings_run, written_of}
use Rattle.link_hda.specs.Exceptions.{None, immediate_exception}
use Rattle.link_hda.specs.Steps.{made_of}
use Rattle.link_hda.proofs.Exceptional.{never}

-- ---- the status
-- a byte without bit 0, and without bit 1
without-busy : (v : ℕ) → v < 256 → bit_and v 0xfe ≡ v / 2 * 2
without-busy v small = and_high v 7 1 ∙ omega arith

without-valid : (v : ℕ) → v < 256 → bit_and v 0xfd ≡ v / 4 * 4 + v % 2
without-valid v small = let four = div-div-eq-div-mul v 2 2 in omega (arith, and_step v 0xfd, and_high (v / 2) 6 1)

-- valid and busy as numbers
valid-part : (v : ℕ) → cond (is_valid v) 2 0 ≡ v / 2 % 2 * 2
valid-part v = by_bit (v / 2) (λ e. rw e) (λ e. rw e)

busy-part : (v : ℕ) → cond (is_busy v) 1 0 ≡ v % 2
busy-part v = by_bit (v / 1) (λ e. rw e (omega arith)) (λ e. rw e (omega arith))

even : (valid : Bool) → (cond valid 2 0 % 2 ≡ 0) × (cond valid 2 0 < 4)
even valid = chosen (λ n. (n % 2 ≡ 0) × (n < 4)) valid (refl, omega arith) (refl, omega arith)

below : (busy : Bool) → cond busy 1 0 < 2
below busy = chosen (λ n. n < 2) busy (omega arith) (omega arith)

-- valid cleared by a one; busy cleared, and set
valid-cleared : (v b : ℕ) → v < 256 → bit_and v (255 - bit_and b 2) ≡ status_of v (is_valid v && not (bit 2 b)) (is_busy v)
valid-cleared v b small =
    rw (and_high b 1 1)
    (by_bit (b / 2)
    (λ e. rw (e, and-false (is_valid v), busy-part v, without-valid v small) (omega arith))
    (λ e. rw (e, and-true (is_valid v), valid-part v, busy-part v, and_mask v 8) (omega arith)))

busy-cleared : (v : ℕ) (valid busy : Bool) → v < 256 → bit_and (status_of v valid busy) 0xfe ≡ status_of v valid false
busy-cleared v valid busy small =
    let e = even valid in
    let l = below busy in
    without-busy (status_of v valid busy) (omega arith) ∙ omega arith

busy-set : (v : ℕ) (valid busy : Bool) → bit_or (status_of v valid busy) 1 ≡ status_of v valid true
busy-set v valid busy =
    let e = even valid in
    let l = below busy in
    omega (arith, or_step (status_of v valid busy) 1, or_zero_r (status_of v valid busy / 2))

-- ---- the registers
-- a byte set behind a word
store-behind : (n at v a : ℕ) (l : List ℕ) → at + n < length l → set (store_at n at v l) (at + n) a ≡ take at l ++ bytes_of n v ++ (a ∷ drop (suc (at + n)) l)
unfolding store_at
store-behind n at v a l fits =
    rw (drop-cons l (at + n) 0, ← append_assoc (take at l) (bytes_of n v))
    (set_at (take at l ++ bytes_of n v) _ _ a (at + n) (omega (arith, length-append (take at l) (bytes_of n v), length-take at l, length-bytes n v)))

-- .. whatever stood there
store-over : (n at v a c : ℕ) (l : List ℕ) → at + n < length l → set (store_at n at v (set l (at + n) c)) (at + n) a ≡ set (store_at n at v l) (at + n) a
store-over n at v a c l fits =
    store-behind n at v a (set l (at + n) c) (simp length-set fits)
    ∙ rw (take-set-le at l (at + n) c (omega arith), drop-set-lt (suc (at + n)) l (at + n) c (omega arith)) (sym (store-behind n at v a l fits))

-- a word before a byte that is set
word-before : (n i at v : ℕ) (l : List ℕ) → i + n ≤ at → word_at n i (set l at v) ≡ word_at n i l
unfolding word_at
word-before n i at v l h = ap value_of (sym (drop-take i n (set l at v)) ∙ ap (drop i) (take-set-le (i + n) l at v h) ∙ drop-take i n l)

-- ---- the command
-- whether it may run does not go by its status
allowed_same : (regs : List ℕ) (s : ℕ) → immediate_allowed (set regs icis s) ≡ immediate_allowed regs
allowed_same regs s =
    rw (
      get_or-set_other regs icis 0x08 s 0 (omega arith),
      get_or-set_other regs icis 0x4c s 0 (omega arith),
      word-before 2 0x48 icis s regs (omega arith),
      word-before 2 0x4a icis s regs (omega arith),
    )

module _ (regs : List ℕ) (f : File regs) (written : ℕ) where
  abbrev status : ℕ
  status = get_or regs 0x68 0

  -- the status behind the write's one in valid
  abbrev kept : ℕ
  kept = status_of status (is_valid status && not (bit 2 written)) (is_busy status)

  room : icis < length regs
  room = let size = f.size in omega arith

  replied : (codec : Codec) (reply : Reply ℕ) → replied_of (set regs icis kept) codec reply ≡ answered_of regs codec written reply
  replied codec Nothing = rw (get_or-set_same regs icis kept 0 room, set-set regs icis kept _, busy-set status (is_valid status && not (bit 2 written)) (is_busy status))
  replied codec (Value v) = ap (λ (l : List ℕ). immediately l codec) (store-over 4 0x64 v 2 kept regs room)

  module _ (codec : Codec) where
    -- What the device does with the byte in every state: a command goes by reset and the command ring.
    pub immediate-made : immediate_of regs codec written ≡ made_of regs codec written
    unfolding immediate_of
    immediate-made =
        rw (valid-cleared status written (f.range 0x68), low_bit written, allowed_same regs kept, word-before 4 0x60 icis kept regs (omega arith))
        (by-test (bit 1 written) (λ t. rw t
        (by-test (immediate_allowed regs) (λ a. rw a (replied _ (verb_of codec (word_at 4 0x60 regs)).reply)) (λ a. rw a)))
        (λ t. rw (t, get_or-set_same regs icis kept 0 room, set-set regs icis kept _, busy-cleared status (is_valid status && not (bit 2 written)) (is_busy status) (f.range 0x68))))

    -- Where no exception is named, HDA says what the byte does, and the device does just that: all registers, and the codec.
    pub immediate-agrees : immediate_exception regs written ≡ None → written_of regs codec written ≡ some (immediate_of regs codec written)
    unfolding immediate_exception written_of
    immediate-agrees =
        rw immediate-made
        (by-test (bit 1 (get_or regs 0x08 0)) (λ r. rw r
        (by-test (bit 1 written) (λ t. rw t
        (by-test (is_busy status) (λ b. rw b (never _ refl)) λ b. rw b
        (by-test (rings_run regs) (λ g. rw g (never _ refl)) λ g.
        rw (g, low_bit (get_or regs 0x08 0), r, run-bit (get_or regs 0x4c 0), (neither (bit 2 (get_or regs 0x4c 0)) _ g).0) (λ h. refl))))
        λ t. rw t (λ h. refl))) λ r. rw r (never _ refl))
