-- A `for` over numbers up to `count`, with the turns that are left: its turn and its end. Assumes nothing.
use Rattle.std.proofs.Common.{ℕ, suc, ◌≡◌, ◌+◌, ◌-◌, ◌≤◌, ◌<◌, arith}
use Rattle.word.specs.Each.{each_of, always}

module _ {A : Type 0} (f : ℕ → A → A) (count i : ℕ) (x : A) where
  pub each_turn : i < count → each_of always f (count - i) i x ≡ each_of always f (count - (i + 1)) (i + 1) (f i x)
  unfolding each_of
  each_turn h =
      let e : count - i ≡ suc (count - (i + 1)) = omega arith in
      rw e

  pub each_done : count ≤ i → each_of always f (count - i) i x ≡ x
  unfolding each_of
  each_done h =
      let e : count - i ≡ 0 = omega arith in
      rw e
