-- Laws of the noise: one byte more, and all of them. Assumes nothing.
use Rattle.std.proofs.Common.{◌≡◌, ℕ, zero, suc, ◌+◌, ◌-◌, ◌/◌, ◌<◌, ◌≤◌, List, [], ◌∷◌, ◌++◌, length, take, set, sym, ap, ◌∙◌, append_assoc, append-nil, add-one, arith, take_all, take-suc-set}
use Rattle.rehearse.specs.Noise.{next_of, noise_of}

pub noise-none : (memory : List ℕ) (power : ℕ) → take 0 memory ++ noise_of (length memory - 0) power ≡ noise_of (length memory) power
noise-none memory power =
    let all : length memory - 0 ≡ length memory = omega arith in
    ap (λ (n : ℕ). noise_of n power) all

module _ (memory : List ℕ) (i power : ℕ) (whole : List ℕ) (so_far : take i memory ++ noise_of (length memory - i) power ≡ whole) where
  pub noise-more : (v : ℕ) → v ≡ next_of power → i < length memory → (n : ℕ) → n ≡ length memory - (i + 1)
      → take (i + 1) (set memory i (v / 8388608)) ++ noise_of n v ≡ whole
  unfolding noise_of
  noise-more v e h n en =
      let left : length memory - i ≡ suc n = omega (arith, en) in
      let next : noise_of (length memory - i) power ≡ (next_of power / 8388608) ∷ noise_of n (next_of power) = rw left in
      ap (λ (k : ℕ). take k (set memory i (v / 8388608)) ++ noise_of n v) (add-one i)
      ∙ ap (λ (l : List ℕ). l ++ noise_of n v) (take-suc-set memory i (v / 8388608) h)
      ∙ append_assoc (take i memory) _ _
      ∙ ap (λ (w : ℕ). take i memory ++ ((w / 8388608) ∷ noise_of n w)) e
      ∙ ap (λ (l : List ℕ). take i memory ++ l) (sym next)
      ∙ so_far

  pub noise-all : length memory ≤ i → memory ≡ whole
  unfolding noise_of
  noise-all h =
      let none : length memory - i ≡ zero = omega arith in
      let end : noise_of (length memory - i) power ≡ [] = rw none in
      sym (append-nil memory)
      ∙ ap (λ (l : List ℕ). l ++ []) (sym (take_all i memory h))
      ∙ ap (λ (l : List ℕ). take i memory ++ l) (sym end)
      ∙ so_far
