-- The bytes as positions. Assumes nothing.
use Prim.Native.Nat.{ℕ, zero, suc, ◌+◌, ◌-◌, ◌*◌, ◌<◌, ◌≤◌}
use mathlib.Core.Path.{◌≡◌, refl, sym, ap, ◌∙◌}
use mathlib.Core.List.{List, [], ◌∷◌, ◌++◌}
use native.Mathlib.Omega.{arith}
use lib.ListN.{length, take, drop, get_or}
use lib.Seq.{take-take, drop-drop}
use Rattle.word.specs.Value.{value_of}
use Rattle.word.specs.Place.{word_at}
use Rattle.word.proofs.Lists.{drop-take}
use Rattle.positions.specs.Positions.{positions_of}

pub length-positions : (n : ℕ) (l : List ℕ) → length (positions_of n l) ≡ n
unfolding positions_of
length-positions zero l = refl
length-positions (suc n) l = ap suc (length-positions n (drop 8 l))

-- past the first position
later : (i : ℕ) (l : List ℕ) → drop (8 * i) (drop 8 l) ≡ drop (8 * suc i) l
later i l =
    let e : 8 + 8 * i ≡ 8 * suc i = omega arith in
    drop-drop (8 * i) 8 l ∙ ap (λ (k : ℕ). drop k l) e

-- place `i` of the view is the word there
pub get_d-positions : (n : ℕ) (l : List ℕ) (i : ℕ) → i < n → get_or (positions_of n l) i 0 ≡ word_at 8 (8 * i) l
unfolding positions_of word_at
get_d-positions zero l i h = absurd (omega arith)
get_d-positions (suc n) l zero h = refl
get_d-positions (suc n) l (suc i) h = get_d-positions n (drop 8 l) i (omega arith) ∙ ap (λ (x : List ℕ). value_of (take 8 x)) (later i l)

-- one position more
pub positions-suc : (n : ℕ) (l : List ℕ) → positions_of (suc n) l ≡ positions_of n l ++ (word_at 8 (8 * n) l ∷ [])
unfolding positions_of word_at
positions-suc zero l = refl
positions-suc (suc n) l =
    ap (λ (xs : List ℕ). value_of (take 8 l) ∷ xs)
    (positions-suc n (drop 8 l) ∙ ap (λ (x : List ℕ). positions_of n (drop 8 l) ++ (value_of (take 8 x) ∷ [])) (later n l))

own : (n : ℕ) (l : List ℕ) → positions_of n (take (8 * n) l) ≡ positions_of n l
unfolding positions_of
own zero l = refl
own (suc n) l =
    let e : 8 * suc n ≡ 8 + 8 * n = omega arith in
    ap (λ (k : ℕ). value_of (take 8 (take k l)) ∷ positions_of n (drop 8 (take k l))) e
    ∙ ap (λ (x : List ℕ). value_of x ∷ positions_of n (drop 8 (take (8 + 8 * n) l))) (take-take 8 (8 + 8 * n) l (omega arith))
    ∙ ap (λ (x : List ℕ). value_of (take 8 l) ∷ positions_of n x) (drop-take 8 (8 * n) l)
    ∙ ap (λ (xs : List ℕ). value_of (take 8 l) ∷ xs) (own n (drop 8 l))

-- the view reads the first 8 * n bytes and no more
pub positions-take : (n : ℕ) (l m : List ℕ) → take (8 * n) l ≡ take (8 * n) m → positions_of n l ≡ positions_of n m
positions-take n l m e = sym (own n l) ∙ ap (positions_of n) e ∙ own n m

-- the view without its first `k` positions
pub drop-positions : (k n : ℕ) (l : List ℕ) → k ≤ n → drop k (positions_of n l) ≡ positions_of (n - k) (drop (8 * k) l)
unfolding positions_of
drop-positions zero n l h =
    let e : n ≡ n - 0 = omega arith in
    ap (λ (j : ℕ). positions_of j l) e
drop-positions (suc k) zero l h = absurd (omega arith)
drop-positions (suc k) (suc n) l h =
    let e : n - k ≡ suc n - suc k = omega arith in
    drop-positions k n (drop 8 l) (omega arith)
    ∙ ap (positions_of (n - k)) (later k l)
    ∙ ap (λ (j : ℕ). positions_of j (drop (8 * suc k) l)) e
