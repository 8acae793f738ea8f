-- One thing done for each number in order, up to the first after which a test fails.
use Rattle.std.specs.Prelude.{ℕ, zero, suc, ◌+◌, Bool, true, false}

abbrev pub further {ℓ} : {A : Type ℓ} → Bool → A → (A → A) → A
further true y rest = rest y
further false y rest = y

-- `n` numbers from `i` on
unfoldable pub each_of {ℓ} : {A : Type ℓ} → (A → Bool) → (ℕ → A → A) → ℕ → ℕ → A → A
each_of on f zero i x = x
each_of on f (suc n) i x = further (on (f i x)) (f i x) (each_of on f n (i + 1))

-- and with no test
abbrev pub always {ℓ} : {A : Type ℓ} → A → Bool
always x = true
