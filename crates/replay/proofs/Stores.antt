-- One element more at the front of a list, with the index as the code counts it. Assumes nothing.
use Rattle.std.proofs.Common.{◌≡◌, ℕ, ◌+◌, ◌<◌, List, [], ◌∷◌, ◌++◌, length, take, set, ap, ◌∙◌, add-one, take-suc-set}

-- up to a store and with it
pub stored : (l : List ℕ) (i v : ℕ) → i < length l → take (i + 1) (set l i v) ≡ take i l ++ (v ∷ [])
stored l i v h = ap (λ (k : ℕ). take k (set l i v)) (add-one i) ∙ take-suc-set l i v h
