-- A byte written as the table says leaves a regular file regular. Assumes nothing.
use Prim.Native.Nat.{ℕ, ◌-◌, ◌<◌}
use mathlib.Core.Path.{◌≡◌, refl, ap, ◌∙◌}
use mathlib.Core.Bool.{Bool, ◌&&◌}
use mathlib.Core.List.{List, []}
use native.Mathlib.Omega.{arith}
use borrow.Author.Tests.{eqb-true, eqb-false, ltb-true}
use lib.Bits.{bit_and, bit_or, and_zero_r, and_comm, and_le_l, or_lt}
use lib.Dec.{eqb, ltb}
use lib.ListN.{set, length-set}
use lib.Seq.{get_or-set_same, get_or-set_other}
use Rattle.word.proofs.Choices.{both, by_value}
use Rattle.word.proofs.Lists.{bytes-set}
use Rattle.registers.specs.Places.{size, byte_at}
use Rattle.registers_hda.specs.Table.{byte_after}
use Rattle.registers_hda.specs.Files.{written_at, cleared_at, reset_at, constant_at, Regular}
use Rattle.registers_hda.proofs.Bits.{and_assoc, and-or, and-without}
use Rattle.registers_hda.proofs.Places.{failing, holds}

-- a byte set with the constant bits that it should have
pub regular-set : {regs : List ℕ} → Regular regs → (a v : ℕ) → v < 256 → bit_and v (constant_at a) ≡ bit_and (reset_at a) (constant_at a) → Regular (set regs a v)
regular-set {regs} r a v small e =
    record {
      sized = length-set regs a v ∙ r.sized;
      bytes = bytes-set regs a v small r.bytes;
      constant = λ i few.
          by_value i a (λ s. rw (s, get_or-set_same regs a v 0 (omega (arith, r.sized))) e) λ t.
          rw (get_or-set_other regs a i v 0 (eqb-false i a t)) (r.constant i few);
    }

-- ---- masks
-- what a write leaves of the bits that no mask has
constant-kept : (w m k old new : ℕ) → w < 256 → m < 256 → k < 256 → bit_and k w ≡ 0 → bit_and k m ≡ 0 → bit_and (byte_after w m old new) k ≡ bit_and old k
constant-kept w m k old new hw hm hk ew em =
    let changed : ℕ = bit_or w (bit_and new m) in
    let less : changed < 256 = or_lt 8 w (bit_and new m) hw (omega (arith, and_comm new m, and_le_l m new)) in
    let none : bit_and k changed ≡ 0 =
    and_comm k changed
    ∙ and-or w (bit_and new m) k
    ∙ rw (and_comm w k, ew, and_assoc new m k, and_comm m k, em) (and_zero_r new) in
    and-or (bit_and new w) (bit_and old (255 - changed)) k
    ∙ rw (and_assoc new w k, and_comm w k, ew, and_zero_r new)
    (and_assoc old (255 - changed) k ∙ ap (bit_and old) (and_comm (255 - changed) k ∙ and-without k changed hk less none))

-- Constant bits are none of those that software writes or clears.
apart : ℕ → Bool
apart a = ltb (written_at a) 256 && (ltb (cleared_at a) 256 && (ltb (constant_at a) 256 && (eqb (bit_and (constant_at a) (written_at a)) 0 && eqb (bit_and (constant_at a) (cleared_at a)) 0)))

all_apart : failing apart size ≡ []
unfolding apart written_at cleared_at constant_at
all_apart = refl

byte_small : (w m old new : ℕ) → old < 256 → new < 256 → byte_after w m old new < 256
byte_small w m old new ho hn =
    or_lt 8 (bit_and new w) _ (omega (arith, and_le_l new w)) (omega (arith, and_le_l old (255 - bit_or w (bit_and new m))))

pub regular-after : {regs : List ℕ} → Regular regs → (a b : ℕ) → a < size → b < 256 → Regular (set regs a (byte_after (written_at a) (cleared_at a) (byte_at regs a) b))
unfolding apart
regular-after {regs} r a b few small =
    let w = both (ltb (written_at a) 256) _ (holds apart size a few (rw all_apart refl)) in
    let m = both (ltb (cleared_at a) 256) _ w.1 in
    let k = both (ltb (constant_at a) 256) _ m.1 in
    let e = both (eqb (bit_and (constant_at a) (written_at a)) 0) _ k.1 in
    regular-set r a _ (byte_small (written_at a) (cleared_at a) (byte_at regs a) b (r.bytes a) small)
    (constant-kept (written_at a) (cleared_at a) (constant_at a) (byte_at regs a) b (ltb-true _ _ w.0) (ltb-true _ _ m.0) (ltb-true _ _ k.0) (eqb-true _ _ e.0) (eqb-true _ _ e.1)
    ∙ r.constant a few)
