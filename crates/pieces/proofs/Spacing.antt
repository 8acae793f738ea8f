-- Pending positions are 4 bytes or more apart, since a descriptor has 4 bytes or more, and stay so by each piece and each position update. Nothing is assumed of the counts modulo 4. Assumes nothing.
use Prim.Native.Nat.{ℕ, zero, suc, ◌+◌, ◌≤◌}
use mathlib.Core.Path.{◌≡◌, refl}
use mathlib.Core.Bool.{true}
use mathlib.Core.List.{List, [], ◌∷◌, ◌++◌}
use native.Mathlib.Omega.{arith}
use borrow.Author.Tests.{leb-true, le-leb}
use lib.Dec.{leb}
use lib.ListN.{length, drop}
use Rattle.word.proofs.Choices.{left, right}
use Rattle.positions.specs.Positions.{positions_of, spaced_from, spaced_of}
use Rattle.positions.proofs.Change.{retire-drops}
use Rattle.stream.specs.declared.Stream.{Stream}
use Rattle.stream.specs.declared.Cyclic.{Cyclic}
use Rattle.plan.specs.declared.End.{End}
use Rattle.plan.specs.declared.End.TheVariants.{Inside, Plain, Flagged}
use Rattle.stream.specs.Streams.{places, list_size, fresh_of, uncrowded_of}
use Rattle.pieces.specs.Pieces.{State, moved_of}
use Rattle.stream.specs.Update.{retired_of, update_of}
use Rattle.pieces.proofs.Turns.{Moves}
use Rattle.stream.proofs.Validity.{retired-few}
use Rattle.pieces.proofs.Positions.{view_of, moved-positions}

-- the same positions, with no less room behind the last
keep-from : (p offset hi offset' hi' : ℕ) (ps : List ℕ) → offset' + hi ≤ offset + hi' → spaced_from p offset hi ps ≡ true → spaced_from p offset' hi' ps ≡ true
unfolding spaced_from
keep-from p offset hi offset' hi' [] h f = le-leb (p + offset') hi' (omega (arith, leb-true (p + offset) hi f))
keep-from p offset hi offset' hi' (q ∷ ps) h f = rw (left (leb (p + 4) q) _ f) (keep-from q offset hi offset' hi' ps h (right (leb (p + 4) q) _ f))

spaced-keep : (offset hi offset' hi' : ℕ) (ps : List ℕ) → offset' + hi ≤ offset + hi' → spaced_of offset hi ps ≡ true → spaced_of offset' hi' ps ≡ true
spaced-keep offset hi offset' hi' [] h f = refl
spaced-keep offset hi offset' hi' (p ∷ ps) h f = keep-from p offset hi offset' hi' ps h f

-- one more, 4 bytes or more past the last
append-from : (p offset hi hi' : ℕ) (ps : List ℕ) → hi + 4 ≤ offset + hi' → spaced_from p offset hi ps ≡ true → spaced_from p 0 hi' (ps ++ (hi' ∷ [])) ≡ true
unfolding spaced_from
append-from p offset hi hi' [] h f = rw (le-leb (p + 4) hi' (omega (arith, leb-true (p + offset) hi f)), le-leb (hi' + 0) hi' (omega arith))
append-from p offset hi hi' (q ∷ ps) h f = rw (left (leb (p + 4) q) _ f) (append-from q offset hi hi' ps h (right (leb (p + 4) q) _ f))

spaced-append : (offset hi hi' : ℕ) (ps : List ℕ) → hi + 4 ≤ offset + hi' → spaced_of offset hi ps ≡ true → spaced_of 0 hi' (ps ++ (hi' ∷ [])) ≡ true
unfolding spaced_from
spaced-append offset hi hi' [] h f = le-leb (hi' + 0) hi' (omega arith)
spaced-append offset hi hi' (p ∷ ps) h f = append-from p offset hi hi' ps h f

-- without the first ones
spaced-tail : (p offset hi : ℕ) (ps : List ℕ) → spaced_of offset hi (p ∷ ps) ≡ true → spaced_of offset hi ps ≡ true
unfolding spaced_from
spaced-tail p offset hi [] f = refl
spaced-tail p offset hi (q ∷ ps) f = right (leb (p + 4) q) _ f

spaced-drop : (k offset hi : ℕ) (ps : List ℕ) → spaced_of offset hi ps ≡ true → spaced_of offset hi (drop k ps) ≡ true
spaced-drop zero offset hi ps f = f
spaced-drop (suc k) offset hi [] f = refl
spaced-drop (suc k) offset hi (p ∷ ps) f = spaced-drop k offset hi ps (spaced-tail p offset hi ps f)

pub fresh-spaced : (list : List ℕ) → uncrowded_of fresh_of list ≡ true
unfolding fresh_of positions_of
fresh-spaced list = refl

pub update-spaced : (s : Stream) (list : List ℕ) (latency : ℕ) → s.pending ≤ places → list_size ≤ length list → uncrowded_of s list ≡ true
    → let u = update_of s list latency in uncrowded_of u.updated.stream u.list ≡ true
unfolding update_of
update-spaced s list latency few long f =
    rw (retire-drops (retired_of s list latency) s.pending list (retired-few s list latency) (omega arith))
    (spaced-drop (retired_of s list latency) s.offset s.submitted (positions_of s.pending list) f)

module _ (g : Cyclic) (count : ℕ) where
  -- one piece, by how it ends
  pub moved-spaced : (x : State) (at n : ℕ) (end : End) → Moves g count x at n end → list_size ≤ length x.list → uncrowded_of x.stream x.list ≡ true
      → let y = moved_of g x at n end in uncrowded_of y.stream y.list ≡ true
  moved-spaced x at n Inside k long f =
      let s = x.stream in
      spaced-keep s.offset s.submitted (s.offset + n) (s.submitted + n) (view_of x) (omega arith) f
  moved-spaced x at n Plain k long f =
      let s = x.stream in
      spaced-keep s.offset s.submitted 0 (s.submitted + n) (view_of x) (omega arith) f
  moved-spaced x at n Flagged k long f =
      let s = x.stream in
      rw (moved-positions s x.list g.lvi n Flagged k.room k.submitted long)
      (spaced-append s.offset s.submitted (s.submitted + n) (view_of x) (omega (arith, k.ends, k.frame)) f)
