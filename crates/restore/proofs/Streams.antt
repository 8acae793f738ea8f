-- A stream as it is put in force, with its own list or an empty one: it pends no more, is as valid, and is not crowded. Assumes nothing.
use Prim.Native.Nat.{ℕ, ◌*◌, ◌≤◌}
use mathlib.Core.Path.{◌≡◌, refl}
use mathlib.Core.Bool.{Bool, true, ◌||◌}
use mathlib.Core.List.{List}
use native.Mathlib.Omega.{arith}
use lib.ListN.{take}
use Rattle.word.proofs.Choices.{by_cond, by-either}
use Rattle.positions.specs.Positions.{positions_of, rises_of}
use Rattle.positions.proofs.View.{positions-take}
use Rattle.stream.specs.declared.Stream.{Stream}
use Rattle.stream.specs.Streams.{valid_of, uncrowded_of, emptied_of}
use Rattle.stream.proofs.Validity.{valid-parts, parts-valid}
use Rattle.restore.specs.Restores.{kept_of}

-- with an empty list
emptied-valid : (t : Stream) (l : List ℕ) → valid_of t l ≡ true → valid_of (emptied_of t) l ≡ true
unfolding positions_of rises_of
emptied-valid t l valid =
    let v = valid-parts t l valid in
    parts-valid (emptied_of t) l (record { few = omega arith; rises = refl; listed = v.listed; heard = v.heard; time = v.time })

emptied-uncrowded : (t : Stream) (l : List ℕ) → uncrowded_of (emptied_of t) l ≡ true
unfolding positions_of
emptied-uncrowded t l = refl

module _ (strict : Bool) (t : Stream) (l : List ℕ) where
  abbrev stays : Bool
  stays = strict || uncrowded_of t l

  pub kept-few : (kept_of strict t l).pending ≤ t.pending
  kept-few = by_cond (λ (u : Stream). u.pending ≤ t.pending) stays t (emptied_of t) (λ _. omega arith) (λ _. omega arith)

  pub kept-valid : valid_of t l ≡ true → valid_of (kept_of strict t l) l ≡ true
  kept-valid valid = by_cond (λ (u : Stream). valid_of u l ≡ true) stays t (emptied_of t) (λ _. valid) (λ _. emptied-valid t l valid)

  -- where crowded lists were refused it was not crowded before
  pub kept-uncrowded : (strict ≡ true → uncrowded_of t l ≡ true) → uncrowded_of (kept_of strict t l) l ≡ true
  kept-uncrowded refused =
      by_cond (λ (u : Stream). uncrowded_of u l ≡ true) stays t (emptied_of t) (by-either strict (uncrowded_of t l) refused (λ free. free)) (λ _. emptied-uncrowded t l)

-- nothing else of it changes
pub record Alike (u t : Stream) : Type 0 where
  pub descriptor : u.descriptor ≡ t.descriptor
  pub offset : u.offset ≡ t.offset
  pub submitted : u.submitted ≡ t.submitted
  pub consumed : u.consumed ≡ t.consumed
  pub fraction : u.fraction ≡ t.fraction

pub kept-alike : (strict : Bool) (t : Stream) (l : List ℕ) → Alike (kept_of strict t l) t
kept-alike strict t l =
    by_cond (λ (u : Stream). Alike u t) (stays strict t l) t (emptied_of t) (λ _. record { descriptor = refl; offset = refl; submitted = refl; consumed = refl; fraction = refl })
    (λ _. record { descriptor = refl; offset = refl; submitted = refl; consumed = refl; fraction = refl })

-- only the bytes of the positions count
module _ (t : Stream) (k l : List ℕ) (same : take (8 * t.pending) k ≡ take (8 * t.pending) l) where
  pub valid_same : valid_of t k ≡ valid_of t l
  unfolding valid_of
  valid_same = rw (positions-take t.pending k l same)

  pub uncrowded-same : uncrowded_of t k ≡ uncrowded_of t l
  uncrowded-same = rw (positions-take t.pending k l same)

  pub kept_same : (strict : Bool) → kept_of strict t k ≡ kept_of strict t l
  kept_same strict = rw uncrowded-same
