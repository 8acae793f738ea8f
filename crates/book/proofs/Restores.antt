-- A restore that is accepted puts counts and positions of the state in force, in the book as in the device, none of a list that it empties. Assumes nothing.
use Prim.Native.Nat.{ℕ, zero, suc, ◌+◌, ◌*◌, ◌≤◌, ◌<◌}
use mathlib.Core.Path.{◌≡◌, refl, ap, subst, ◌∙◌}
use mathlib.Core.Bool.{Bool, true, false, cond}
use mathlib.Core.List.{List, [], ◌∷◌}
use native.Mathlib.Omega.{arith}
use native.Mathlib.Nat.{zero-add}
use borrow.Author.Tests.{eqb-true, eqb-false}
use lib.Dec.{eqb}
use lib.ListN.{length, get_or}
use Rattle.word.specs.Parts.{part_of}
use Rattle.word.proofs.Choices.{by-test, by_cond, by_both}
use Rattle.positions.specs.Positions.{positions_of}
use Rattle.stream.specs.declared.Stream.{Stream}
use Rattle.stream.specs.Streams.{list_size, fresh_of, uncrowded_of}
use Rattle.stream.specs.Box.{streams}
use Rattle.host.specs.declared.Host.{Host}
use Rattle.device.specs.declared.Hda.{Hda}
use Rattle.device.specs.Machines.{check_of, answer_of, finish_of}
use Rattle.record.specs.Rows.{row_of}
use Rattle.record.proofs.Places.{row_at}
use Rattle.parse.proofs.Theorems.{TakenStream, taken-streams}
use Rattle.restore.specs.Restores.{stream_of, list_of, kept_of, restored_stream, restored_lists, restored_device, Restored, accepted_of, number_of, restore_step, restore_of}
use Rattle.restore.proofs.Outcomes.{taken-fits}
use Rattle.restore.proofs.Streams.{kept-alike}
use Rattle.restore.proofs.Lists.{length-restored, restored-stream, restored-uncrowded, restored-list}
use Rattle.restore.proofs.Theorems.{number-taken}
use Rattle.book.specs.Book.{Book, Event, restored_with, note}
use Rattle.book.specs.Events.{only_if, restored_event}
use Rattle.book.proofs.Ghosts.{Ghost, ghost, is_full, sees}
use Rattle.book.proofs.Tied.{Tied, tied-opening}
use Rattle.book.proofs.Machines.{Held, part-size}

length-row : {A : Type 0} (f : ℕ → A) (n i : ℕ) → length (row_of f n i) ≡ n
unfolding row_of
length-row f zero i = refl
length-row f (suc n) i = ap suc (length-row f n (i + 1))

-- the positions of a stream that is put in force: its own, or none of a crowded list
left-positions : (strict : Bool) (t : Stream) (l : List ℕ) → (strict ≡ true → uncrowded_of t l ≡ true)
    → positions_of (kept_of strict t l).pending l ≡ cond (uncrowded_of t l) (positions_of t.pending l) []
unfolding positions_of
left-positions true t l refused = rw (refused refl)
left-positions false t l refused = by-test (uncrowded_of t l) (λ free. rw free) (λ close. rw close)

module _ (strict : Bool) (s : List ℕ) (d : Hda) (h : Host) (l : List ℕ) where
  accepted-count : length (accepted_of strict s d h l).answer.hda.streams ≡ streams
  unfolding finish_of answer_of restored_device
  accepted-count = length-row (restored_stream strict s) streams 0

  -- what holds of an accepted restore holds of the call
  by-accepted : (P : Restored → Type 0) (q : ℕ) → check_of d h l q ≡ 0 → number_of strict s d h ≡ 0 → P (accepted_of strict s d h l) → P (restore_of strict s d h l q)
  unfolding restore_of restore_step
  by-accepted P q check number p =
      by_cond P (eqb (check_of d h l q) 0) _ _
      (λ _. by_cond P (eqb (number_of strict s d h) 0) (accepted_of strict s d h l) _ (λ _. p) (λ e. absurd (eqb-false (number_of strict s d h) 0 e number)))
      (λ e. absurd (eqb-false (check_of d h l q) 0 e check))

  -- a device that an accepted restore put in force has its streams
  pub restored-count : (q : ℕ) → check_of d h l q ≡ 0 → number_of strict s d h ≡ 0 → length (restore_of strict s d h l q).answer.hda.streams ≡ streams
  restored-count q check number = by-accepted (λ (r : Restored). length r.answer.hda.streams ≡ streams) q check number accepted-count

  -- its counts and positions are those that the book is told of
  module _ (i : ℕ) (few : i < streams) (space : list_size * streams ≤ length l) where
    abbrev Told : Stream → List ℕ → Book → Type 0
    Told t part b = restored_with t.submitted t.consumed (positions_of t.pending part) t.descriptor t.offset ≡ note (restored_event s i) b

    accepted-stream : get_or (accepted_of strict s d h l).answer.hda.streams i fresh_of ≡ restored_stream strict s i
    unfolding finish_of answer_of restored_device
    accepted-stream = row_at fresh_of (restored_stream strict s) streams 0 i few ∙ ap (restored_stream strict s) (zero-add i)

    -- a stream of a state that is taken
    module _ (number : number_of strict s d h ≡ 0) where
      own : TakenStream strict s i
      own = (taken-streams strict s d.microphone d.config (number-taken strict s d h number)).1 i few

      accepted-told : (b : Book) → Told (restored_stream strict s i) (part_of list_size i (restored_lists strict s l)) b
      unfolding note
      accepted-told b =
          let fits = taken-fits strict s d.microphone d.config (number-taken strict s d h number) in
          let same = kept-alike strict (stream_of s i) (list_of s i) in
          rw (
            restored-list strict s fits l space i few,
            left-positions strict (stream_of s i) (list_of s i) own.uncrowded,
            same.submitted,
            same.consumed,
            same.descriptor,
            same.offset,
          )

      accepted-uncrowded : uncrowded_of (restored_stream strict s i) (part_of list_size i (restored_lists strict s l)) ≡ true
      accepted-uncrowded =
          let fits = taken-fits strict s d.microphone d.config (number-taken strict s d h number) in
          restored-uncrowded strict s fits l space i few own.uncrowded

    pub restored-starts : (b : Book) (q : ℕ) → check_of d h l q ≡ 0 → number_of strict s d h ≡ 0
        → let r = restore_of strict s d h l q in Told (get_or r.answer.hda.streams i fresh_of) (part_of list_size i r.lists) b
    restored-starts b q check number =
        by-accepted (λ (r : Restored). Told (get_or r.answer.hda.streams i fresh_of) (part_of list_size i r.lists) b) q check number (rw accepted-stream (accepted-told number b))

    pub restored-free : (q : ℕ) → check_of d h l q ≡ 0 → number_of strict s d h ≡ 0
        → let r = restore_of strict s d h l q in uncrowded_of (get_or r.answer.hda.streams i fresh_of) (part_of list_size i r.lists) ≡ true
    restored-free q check number =
        by-accepted (λ (r : Restored). uncrowded_of (get_or r.answer.hda.streams i fresh_of) (part_of list_size i r.lists) ≡ true) q check number (rw accepted-stream (accepted-uncrowded number))

  module _ (F : Type 0) (i : ℕ) (few : i < streams) (a : Ghost) (held : Held F i d.streams l a) where
    accepted-held : (F → ⊥) → number_of strict s d h ≡ 0
        → let r = accepted_of strict s d h l in Held F i r.answer.hda.streams r.lists (sees (restored_event s i ∷ []) a)
    unfolding finish_of answer_of restored_device
    accepted-held none number =
        let fits = taken-fits strict s d.microphone d.config (number-taken strict s d h number) in
        let t : Stream = restored_stream strict s i in
        let space : list_size * streams ≤ length (restored_lists strict s l) = omega (arith, held.space, length-restored strict s fits l held.space) in
        let part = part_of list_size i (restored_lists strict s l) in
        let ps = positions_of t.pending part in
        let P : Book → Type 0 = λ b. Tied F t part (ghost b (is_full b.pending a.full) a.groundless) in
        record {
          count = length-row (restored_stream strict s) streams 0;
          space = space;
          own = rw (accepted-stream i few held.space)
              (subst P (accepted-told i few held.space number a.book)
              (tied-opening F t part ps (is_full ps a.full) (part-size i (restored_lists strict s l) few space)
              (restored-stream strict s fits l held.space i few (own i few held.space number).valid) refl (accepted-uncrowded i few held.space number)
              (λ f. absurd (none f)) (λ f. absurd (none f)) a.groundless held.own.founded));
        }

    pub restore-held : (q : ℕ) → (F → check_of d h l q ≡ 0 → number_of strict s d h ≡ 0 → ⊥)
        → let r = restore_of strict s d h l q in
        Held F i r.answer.hda.streams r.lists (sees (only_if (eqb (check_of d h l q) 0) (only_if (eqb (number_of strict s d h) 0) (restored_event s i ∷ []))) a)
    unfolding restore_of restore_step answer_of
    restore-held q none =
        let P : Restored → List Event → Type 0 = λ r es. Held F i r.answer.hda.streams r.lists (sees es a) in
        by_both P (eqb (check_of d h l q) 0) _ _ _ []
        (λ e. by_both P (eqb (number_of strict s d h) 0) (accepted_of strict s d h l) _ (restored_event s i ∷ []) []
        (λ z. accepted-held (λ f. none f (eqb-true (check_of d h l q) 0 e) (eqb-true (number_of strict s d h) 0 z)) (eqb-true (number_of strict s d h) 0 z))
        (λ _. held))
        (λ _. held)
