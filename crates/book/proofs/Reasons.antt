-- A buffer that a transfer does not take, and a plan that moves nothing, have one of document 01's reasons or meet the limit; and only these have. Assumes nothing.
use Prim.Native.Nat.{ℕ, zero, suc, ◌+◌, ◌-◌, ◌%◌, ◌<◌}
use mathlib.Core.Path.{◌≡◌, refl, sym, ◌∙◌}
use mathlib.Core.Bool.{Bool, true, false, not, ◌&&◌, ◌||◌, and-false, true≢false}
use mathlib.Core.List.{List, [], ◌∷◌}
use native.Mathlib.Omega.{arith}
use borrow.Author.Tests.{not-false, ltb-true, ltb-false, leb-true, leb-false, le-leb, lt-leb, lt-ltb, le-ltb}
use lib.Dec.{eqb, leb, ltb}
use lib.ListN.{length, get_or}
use Rattle.word.proofs.Choices.{by-test, by_cond, neither}
use Rattle.memory.specs.Memory.{entry_at, descriptor_of}
use Rattle.stream.specs.declared.Stream.{Stream}
use Rattle.stream.specs.declared.Cyclic.{Cyclic}
use Rattle.plan.specs.declared.End.{End}
use Rattle.plan.specs.declared.End.TheVariants.{Inside, Plain, Flagged}
use Rattle.stream.specs.Streams.{places, max_count}
use Rattle.plan.specs.Plans.{Plan, failed, full, ready_of, end_of, placed_of, entry_of, fetched_of, plan_of}
use Rattle.std.specs.Prelude.{None, Ok, Err}
use Rattle.book.specs.Buffers.{Attempt, entry_place, entry_address, entry_length, entry_flagged, piece_bytes, ends_entry}
use Rattle.book.specs.Book.{limit}
use Rattle.book.specs.Reasons.{reasons_of, any_of, is_reason, is_limit}
use Rattle.book.specs.Events.{Given}

-- the cyclic buffer by the registers that the book has
abbrev pub buffer_of : Given → Cyclic
buffer_of v = record { capture = v.capture; bdl = v.base; lvi = v.last; cbl = v.cyclic }

-- whether a piece ends its descriptor, and a flagged one
abbrev pub ends_of : End → Bool
ends_of Inside = false
ends_of Plain = true
ends_of Flagged = true

abbrev pub flagged_of : End → Bool
flagged_of Inside = false
flagged_of Plain = false
flagged_of Flagged = true

abbrev pub moves : Plan → Bool
moves (Err stop) = false
moves (Ok move) = true

-- with few pending the limit does not hold
pub below-limit : (a : Attempt) (index offset submitted pending : ℕ) → pending < limit → is_limit a index offset submitted pending ≡ false
unfolding is_limit
below-limit a index offset submitted pending few = rw (lt-leb limit pending few, and-false (entry_flagged a index), and-false (ends_entry a index offset submitted))

-- no reason holds
record Clear (a : Attempt) (index offset submitted : ℕ) : Type 0 where
  some : eqb a.cyclic 0 ≡ false
  whole : eqb (a.cyclic % 4) 0 ≡ true
  byte : ltb 255 a.last ≡ false
  listed : ltb a.last index ≡ false
  there : ltb (length a.memory) (entry_place a index + 16) ≡ false
  long : eqb (entry_length a index) 0 ≡ false
  even : eqb (entry_length a index % 4) 0 ≡ true
  inside : leb (entry_length a index) offset ≡ false
  held : ltb (length a.memory) (entry_address a index + (offset + piece_bytes a index offset submitted)) ≡ false
  counted : ltb 0xffff_ffff_ffff_ffff (submitted + piece_bytes a index offset submitted) ≡ false

-- none of several tests holds: so not the one with this number
none_of : (ts : List Bool) → any_of ts ≡ false → (k : ℕ) → get_or ts k false ≡ false
none_of [] e k = refl
none_of (t ∷ ts) e zero = (neither t (any_of ts) e).0
none_of (t ∷ ts) e (suc k) = none_of ts (neither t (any_of ts) e).1 k

clear : (a : Attempt) (index offset submitted : ℕ) → is_reason a index offset submitted ≡ false → Clear a index offset submitted
unfolding is_reason
clear a index offset submitted e =
    let none = none_of (reasons_of a index offset submitted) e in
    record {
      some = none 0;
      whole = not-false _ (none 1);
      byte = none 2;
      listed = none 3;
      there = none 4;
      long = none 5;
      even = not-false _ (none 6);
      inside = none 7;
      held = none 8;
      counted = none 9;
    }

-- what a test that fails says of the other way round
at_most : (m n : ℕ) → ltb n m ≡ false → leb m n ≡ true
at_most m n e = le-leb m n (ltb-false n m e)

below : (m n : ℕ) → leb n m ≡ false → ltb m n ≡ true
below m n e = lt-ltb m n (leb-false n m e)

module _ (v : Given) (s : Stream) (m : List ℕ) (left : ℕ) where
  -- where a transfer stands that has `left` bytes to move
  abbrev pub attempt : Attempt
  attempt = record { base = v.base; cyclic = v.cyclic; last = v.last; left = left; memory = m }

  clear-ready : Clear attempt s.descriptor s.offset s.submitted → ready_of (buffer_of v) ≡ true
  unfolding ready_of
  clear-ready c = rw (c.some, c.whole, at_most v.last 255 c.byte)

  module _ (unlimited : is_limit attempt s.descriptor s.offset s.submitted s.pending ≡ false) where
    -- a flagged end finds a place
    clear-end : moves (end_of s (entry_at m (entry_place attempt s.descriptor)) (piece_bytes attempt s.descriptor s.offset s.submitted)) ≡ true
    unfolding end_of entry_at is_limit
    clear-end =
        let P : Plan → Type 0 = λ p. moves p ≡ true in
        by_cond P (eqb (s.offset + piece_bytes attempt s.descriptor s.offset s.submitted) (entry_length attempt s.descriptor)) _ _
        (λ ends. by_cond P (entry_flagged attempt s.descriptor) _ _
        (λ flagged. by_cond P (ltb s.pending places) _ _ (λ _. refl)
        (λ none. let limited : is_limit attempt s.descriptor s.offset s.submitted s.pending ≡ true = rw (ends, flagged, le-leb limit s.pending (ltb-false s.pending places none)) in
        absurd (true≢false (sym limited ∙ unlimited))))
        (λ _. refl))
        (λ _. refl)

    clear-moves : Clear attempt s.descriptor s.offset s.submitted → moves (plan_of (buffer_of v) s m left) ≡ true
    unfolding plan_of descriptor_of entry_of placed_of entry_at
    clear-moves c =
        rw (
          c.listed,
          at_most (entry_place attempt s.descriptor + 16) (length m) c.there,
          c.long,
          c.even,
          below s.offset (entry_length attempt s.descriptor) c.inside,
          at_most (entry_address attempt s.descriptor + (s.offset + piece_bytes attempt s.descriptor s.offset s.submitted)) (length m) c.held,
          at_most (s.submitted + piece_bytes attempt s.descriptor s.offset s.submitted) max_count c.counted,
        ) clear-end

  -- by contradiction: where nothing speaks against it the buffer is taken, and the piece moves
  abbrev pub Reasoned : Type 0
  Reasoned = is_reason attempt s.descriptor s.offset s.submitted || is_limit attempt s.descriptor s.offset s.submitted s.pending ≡ true

  reasoned : (Clear attempt s.descriptor s.offset s.submitted → is_limit attempt s.descriptor s.offset s.submitted s.pending ≡ false → ⊥) → Reasoned
  reasoned none =
      by-test (is_reason attempt s.descriptor s.offset s.submitted || is_limit attempt s.descriptor s.offset s.submitted s.pending) (λ e. e)
      (λ e. let n = neither (is_reason attempt s.descriptor s.offset s.submitted) (is_limit attempt s.descriptor s.offset s.submitted s.pending) e in absurd (none (clear attempt s.descriptor s.offset s.submitted n.0) n.1))

  pub unready-reasoned : ready_of (buffer_of v) ≡ false → Reasoned
  unready-reasoned e = reasoned (λ c _. true≢false (sym (clear-ready c) ∙ e))

  pub unmoved-reasoned : moves (plan_of (buffer_of v) s m left) ≡ false → Reasoned
  unmoved-reasoned e = reasoned (λ c unlimited. true≢false (sym (clear-moves unlimited c) ∙ e))

  -- ---- a plan: its tests one after the other, and then how the piece ends
  record Passed : Type 0 where
    listed : ltb v.last s.descriptor ≡ false
    there : leb (entry_place attempt s.descriptor + 16) (length m) ≡ true
    long : eqb (entry_length attempt s.descriptor) 0 ≡ false
    even : eqb (entry_length attempt s.descriptor % 4) 0 ≡ true
    inside : ltb s.offset (entry_length attempt s.descriptor) ≡ true
    held : leb (entry_address attempt s.descriptor + (s.offset + piece_bytes attempt s.descriptor s.offset s.submitted)) (length m) ≡ true
    counted : leb (s.submitted + piece_bytes attempt s.descriptor s.offset s.submitted) max_count ≡ true

  plan-by : (P : Plan → Type 0) → P failed
      → (Passed → P (end_of s (entry_at m (entry_place attempt s.descriptor)) (piece_bytes attempt s.descriptor s.offset s.submitted))) → P (plan_of (buffer_of v) s m left)
  unfolding plan_of descriptor_of entry_at entry_of placed_of
  plan-by P stops ends =
      let n = piece_bytes attempt s.descriptor s.offset s.submitted in
      let size = length m in
      by_cond P (ltb v.last s.descriptor) failed _ (λ _. stops)
      (λ listed. by_cond (λ f. P (fetched_of (buffer_of v) s size left f)) (leb (entry_place attempt s.descriptor + 16) size) _ None
      (λ there. by_cond P (eqb (entry_length attempt s.descriptor) 0) failed _ (λ _. stops)
      (λ long. by_cond P (eqb (entry_length attempt s.descriptor % 4) 0) _ failed
      (λ even. by_cond P (ltb s.offset (entry_length attempt s.descriptor)) _ failed
      (λ inside. by_cond P (leb (entry_address attempt s.descriptor + (s.offset + n)) size) _ failed
      (λ held. by_cond P (leb (s.submitted + n) max_count) _ failed
      (λ counted. ends (record { listed = listed; there = there; long = long; even = even; inside = inside; held = held; counted = counted }))
      (λ _. stops)) (λ _. stops)) (λ _. stops)) (λ _. stops))) (λ _. stops))

  -- ---- what a piece that moves is: its bytes, whether it ends its descriptor, and whether that end is flagged
  abbrev pub Says : Plan → Type 0
  Says (Err stop) = Unit {0}
  Says (Ok move) =
      let ended = ends_entry attempt s.descriptor s.offset s.submitted in
      (move.n ≡ piece_bytes attempt s.descriptor s.offset s.submitted) × (ended ≡ ends_of move.end) × (ended && entry_flagged attempt s.descriptor ≡ flagged_of move.end)

  pub plan-says : Says (plan_of (buffer_of v) s m left)
  unfolding entry_at end_of
  plan-says =
      plan-by Says tt
      (λ _. by_cond Says (ends_entry attempt s.descriptor s.offset s.submitted) _ _
      (λ ends. by_cond Says (entry_flagged attempt s.descriptor) _ _
      (λ flagged. by_cond Says (ltb s.pending places) _ full (λ _. (refl, ends, rw (ends, flagged))) (λ _. tt))
      (λ plain. (refl, ends, rw (ends, plain))))
      (λ inside. (refl, inside, rw inside)))

  -- ---- and the other way round: where the buffer is taken and the piece moves, nothing speaks against it
  abbrev Reason : Bool
  Reason = is_reason attempt s.descriptor s.offset s.submitted || is_limit attempt s.descriptor s.offset s.submitted s.pending

  abbrev Quiet : Plan → Type 0
  Quiet p = moves p ≡ true → Reason ≡ false

  stops : Quiet failed
  stops e = absurd (true≢false (sym e))

  taken-quiet : eqb v.cyclic 0 ≡ false → eqb (v.cyclic % 4) 0 ≡ true → leb v.last 255 ≡ true → Quiet (plan_of (buffer_of v) s m left)
  unfolding entry_at end_of is_reason is_limit
  taken-quiet some whole byte =
      let n = piece_bytes attempt s.descriptor s.offset s.submitted in
      let size = length m in
      plan-by Quiet stops
      (λ c.
      let free : is_reason attempt s.descriptor s.offset s.submitted ≡ false =
      rw (
        some,
        whole,
        le-ltb 255 v.last (leb-true v.last 255 byte),
        c.listed,
        le-ltb size (entry_place attempt s.descriptor + 16) (leb-true (entry_place attempt s.descriptor + 16) size c.there),
        c.long,
        c.even,
        lt-leb (entry_length attempt s.descriptor) s.offset (ltb-true s.offset (entry_length attempt s.descriptor) c.inside),
        le-ltb size (entry_address attempt s.descriptor + (s.offset + n)) (leb-true (entry_address attempt s.descriptor + (s.offset + n)) size c.held),
        le-ltb max_count (s.submitted + n) (leb-true (s.submitted + n) max_count c.counted),
      ) in
      by_cond Quiet (eqb (s.offset + n) (entry_length attempt s.descriptor)) _ _
      (λ ends. by_cond Quiet (entry_flagged attempt s.descriptor) _ _
      (λ flagged. by_cond Quiet (ltb s.pending places) _ full
      (λ room _. rw (free, ends, flagged, lt-leb limit s.pending (omega (arith, ltb-true s.pending places room)))) (λ _ e. absurd (true≢false (sym e))))
      (λ plain _. rw (free, ends, plain)))
      (λ inside _. rw (free, inside)))

  ready-quiet : ready_of (buffer_of v) ≡ true → Quiet (plan_of (buffer_of v) s m left)
  unfolding ready_of
  ready-quiet =
      let P : Bool → Type 0 = λ b. b ≡ true → Quiet (plan_of (buffer_of v) s m left) in
      by_cond P (eqb v.cyclic 0) false _ (λ _ e. absurd (true≢false (sym e)))
      (λ some. by_cond P (eqb (v.cyclic % 4) 0) (leb v.last 255) false (λ whole byte. taken-quiet some whole byte) (λ _ e. absurd (true≢false (sym e))))

  -- the reasons are exactly the device's
  pub reasons-exact : Reason ≡ not (ready_of (buffer_of v) && moves (plan_of (buffer_of v) s m left))
  reasons-exact =
      by-test (ready_of (buffer_of v))
      (λ ready. by-test (moves (plan_of (buffer_of v) s m left)) (λ moved. rw (ready, moved) (ready-quiet ready moved)) (λ stopped. rw (ready, stopped) (unmoved-reasoned stopped)))
      (λ unready. rw unready (unready-reasoned unready))
