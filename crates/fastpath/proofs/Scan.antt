-- The streams' control bytes compared one by one: the scan over the numbers, and every stream of a quiet write. Assumes nothing.
use Prim.Native.Nat.{ℕ, zero, suc, ◌+◌, ◌<◌, ◌≤◌}
use mathlib.Core.Path.{◌≡◌, refl}
use mathlib.Core.Bool.{true, false}
use mathlib.Core.List.{List}
use mathlib.Core.Logic.{⊎_elim}
use native.Mathlib.Omega.{arith}
use native.Mathlib.Nat.{eq-or-lt_of_le}
use Rattle.std.specs.List.{list_all, range_with_len}
use Rattle.word.proofs.Choices.{left, right}
use Rattle.registers.specs.Places.{ctl, byte_at}
use Rattle.fastpath.specs.Quick.{stays_of, stay_from}

-- what the scan over the numbers gives
pub stay_list : (old regs : List ℕ) (n i : ℕ)
    → list_all (λ (k : ℕ). stays_of (byte_at old (ctl k)) (byte_at regs (ctl k))) (range_with_len i n) ≡ stay_from n i old regs
unfolding stay_from
stay_list old regs zero i = refl
stay_list old regs (suc n) i = rw (stay_list old regs n (i + 1)) refl

-- the streams from `i` on, one by one
pub stay-each : (old regs : List ℕ) (n i : ℕ) → stay_from n i old regs ≡ true → (j : ℕ) → i ≤ j → j < i + n → stays_of (byte_at old (ctl j)) (byte_at regs (ctl j)) ≡ true
unfolding stay_from
stay-each old regs zero i e j from to = absurd (omega arith)
stay-each old regs (suc n) i e j from to =
    ⊎_elim
    (λ (is : i ≡ j). rw is at (left (stays_of (byte_at old (ctl i)) (byte_at regs (ctl i))) _ e))
    (λ (after : i < j). stay-each old regs n (i + 1) (right (stays_of (byte_at old (ctl i)) (byte_at regs (ctl i))) _ e) j (omega arith) (omega arith))
    (eq-or-lt_of_le from)
