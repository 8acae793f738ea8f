-- What a push and a retirement do to the lent bytes and to the view. Assumes nothing.
use Prim.Native.Nat.{ℕ, ◌+◌, ◌-◌, ◌*◌, ◌^◌, ◌<◌, ◌≤◌, suc}
use mathlib.Core.Path.{◌≡◌, sym, ap, ◌∙◌}
use mathlib.Core.List.{List, [], ◌∷◌, ◌++◌}
use native.Mathlib.Omega.{arith}
use lib.ListN.{length, drop}
use Rattle.word.proofs.Place.{length-store, word-store, store-before, store-after}
use Rattle.word.proofs.Shifts.{shift_none, length_shift, shift-there, shift-after}
use Rattle.positions.specs.Positions.{positions_of, push_of, retire_of}
use Rattle.positions.proofs.View.{positions-suc, positions-take, drop-positions}

module _ (n v : ℕ) (l : List ℕ) (fits : 8 * n + 8 ≤ length l) where
  pub length_push : length (push_of n v l) ≡ length l
  unfolding push_of
  length_push = length-store 8 (8 * n) v l fits

  -- a push appends
  pub push-appends : v < 2 ^ 64 → positions_of (suc n) (push_of n v l) ≡ positions_of n l ++ (v ∷ [])
  unfolding push_of
  push-appends h =
      positions-suc n (push_of n v l)
      ∙ ap (λ (x : ℕ). positions_of n (push_of n v l) ++ (x ∷ [])) (word-store 8 (8 * n) v l fits h)
      ∙ ap (λ (xs : List ℕ). xs ++ (v ∷ [])) (positions-take n (push_of n v l) l (store-before 8 (8 * n) v l fits (8 * n) (omega arith)))

  -- .. and keeps what stands past the position
  pub push-keeps-rest : drop (8 * n + 8) (push_of n v l) ≡ drop (8 * n + 8) l
  unfolding push_of
  push-keeps-rest = store-after 8 (8 * n) v l fits (8 * n + 8) (omega arith)

-- nothing retires
pub retire-none : (n : ℕ) (l : List ℕ) → retire_of 0 n l ≡ l
unfolding retire_of
retire-none n l = shift_none (8 * (n - 0)) l

module _ (k n : ℕ) (l : List ℕ) (few : k ≤ n) (fits : 8 * n ≤ length l) where
  room : 8 * k + 8 * (n - k) ≤ length l
  room = omega arith

  pub length-retire : length (retire_of k n l) ≡ length l
  unfolding retire_of
  length-retire = length_shift (8 * k) (8 * (n - k)) l room

  pub retire-drops : positions_of (n - k) (retire_of k n l) ≡ drop k (positions_of n l)
  unfolding retire_of
  retire-drops =
      positions-take (n - k) (retire_of k n l) (drop (8 * k) l) (shift-there (8 * k) (8 * (n - k)) l room) ∙ sym (drop-positions k n l few)

  pub retire-keeps-rest : (i : ℕ) → 8 * (n - k) ≤ i → drop i (retire_of k n l) ≡ drop i l
  unfolding retire_of
  retire-keeps-rest = shift-after (8 * k) (8 * (n - k)) l room
