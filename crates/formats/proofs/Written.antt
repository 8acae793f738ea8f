-- Laws of the known bytes of a writer: what is written twice, and what is not written at all; and of the lines in their order.
-- Assumes nothing.
use Rattle.std.proofs.Common.{◌≡◌, ℕ, ◌+◌, List, [], ◌++◌, None, Some, sym, append_assoc, append-nil, add-one}
use Rattle.std.specs.declared.option.Option.{Option}
use Rattle.std.specs.Io.KnownBytes.{Appends}
use Rattle.formats.specs.Line.{shown_of, shown_below}

pub appends-none : (a : Option (List ℕ)) → Appends a a []
appends-none None = tt
appends-none (Some xs) = sym (append-nil xs)

pub appends-more : (a b c : Option (List ℕ)) (x y : List ℕ) → Appends a b x → Appends b c y → Appends a c (x ++ y)
appends-more None b c x y h k = tt
appends-more (Some xs) None c x y h k = absurd h
appends-more (Some xs) (Some ys) None x y h k = absurd k
appends-more (Some xs) (Some ys) (Some zs) x y h k = rw (k, h) (append_assoc xs x y)

pub below-none : (a : Option (List ℕ)) → Appends a a (shown_below 0)
unfolding shown_below
below-none a = appends-none a

pub below-more : (a b c : Option (List ℕ)) (word n : ℕ) → word + 1 ≡ n → Appends a b (shown_below word) → Appends b c (shown_of word) → Appends a c (shown_below n)
unfolding shown_below
below-more a b c word n e h k = rw (← e, add-one word) (appends-more a b c _ _ h k)
