-- The queues' flags tested one by one: the scan over the numbers, and every queue. Assumes nothing.
use Prim.Native.Nat.{ℕ, zero, suc, ◌+◌, ◌≤◌, ◌<◌}
use mathlib.Core.Path.{◌≡◌, refl}
use mathlib.Core.Bool.{true}
use mathlib.Core.List.{List}
use mathlib.Core.Logic.{⊎_elim}
use native.Mathlib.Omega.{arith}
use native.Mathlib.Nat.{eq-or-lt_of_le}
use Rattle.std.specs.List.{list_all, range_with_len}
use Rattle.word.proofs.Choices.{left, right}
use Rattle.record.specs.Loads.{is_flag_at}
use Rattle.host_record.specs.Hosts.{queue_place, queues_flagged}

-- what the scan over the numbers gives
pub flagged_list : (b : List ℕ) (n i : ℕ) → list_all (λ (k : ℕ). is_flag_at (queue_place k) b) (range_with_len i n) ≡ queues_flagged n i b
unfolding queues_flagged
flagged_list b zero i = refl
flagged_list b (suc n) i = rw (flagged_list b n (i + 1)) refl

-- the queues from `i` on, one by one, and back
module _ (b : List ℕ) where
  pub flagged-each : (n i : ℕ) → queues_flagged n i b ≡ true → (k : ℕ) → i ≤ k → k < i + n → is_flag_at (queue_place k) b ≡ true
  unfolding queues_flagged
  flagged-each zero i e k from to = absurd (omega arith)
  flagged-each (suc n) i e k from to =
      ⊎_elim
      (λ (same : i ≡ k). rw same at (left (is_flag_at (queue_place i) b) _ e))
      (λ (after : i < k). flagged-each n (i + 1) (right (is_flag_at (queue_place i) b) _ e) k (omega arith) (omega arith))
      (eq-or-lt_of_le from)

  pub flagged-all : (n i : ℕ) → ((k : ℕ) → i ≤ k → k < i + n → is_flag_at (queue_place k) b ≡ true) → queues_flagged n i b ≡ true
  unfolding queues_flagged
  flagged-all zero i h = refl
  flagged-all (suc n) i h = rw (h i (omega arith) (omega arith), flagged-all n (i + 1) (λ k from to. h k (omega arith) (omega arith)))
