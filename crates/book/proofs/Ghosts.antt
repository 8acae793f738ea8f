-- The book beside whether 4,352 positions have ever stood pending, and whether a transfer has ever failed for no reason or at the limit: what all three are after a list of events. Assumes nothing.
use Prim.Native.Nat.{ℕ, ◌<◌}
use mathlib.Core.Path.{◌≡◌, refl}
use mathlib.Core.Bool.{Bool, false, not, ◌&&◌, ◌||◌}
use mathlib.Core.List.{List, [], ◌∷◌, ◌++◌}
use borrow.Author.Tests.{not-false, leb-false, lt-leb}
use lib.Dec.{leb}
use lib.ListN.{length}
use Rattle.word.proofs.Choices.{both, neither}
use Rattle.book.specs.Book.{Book, Event, reset, restored, moved, updated, failed, refused, limit, note, notes}
use Rattle.book.specs.Reasons.{is_founded, is_unlimited, Tested, Failures}
use Rattle.book.specs.Claim.{Few}

pub record Ghost : Type 0 where
  pub book : Book
  pub full : Bool
  pub groundless : Bool

abbrev pub ghost : Book → Bool → Bool → Ghost
ghost b full groundless = record { book = b; full = full; groundless = groundless }

abbrev pub is_full : List ℕ → Bool → Bool
is_full pending full = leb limit (length pending) || full

-- a transfer that fails for no reason, or at the limit
abbrev pub is_groundless : Event → Book → Bool
is_groundless reset b = false
is_groundless (restored submitted consumed positions index offset) b = false
is_groundless (moved a) b = false
is_groundless (updated latency) b = false
is_groundless (failed a) b = not (is_founded a b && is_unlimited a b)
is_groundless refused b = false

abbrev pub see : Event → Ghost → Ghost
see e a = ghost (note e a.book) (is_full (note e a.book).pending a.full) (is_groundless e a.book || a.groundless)

abbrev pub sees : List Event → Ghost → Ghost
sees [] a = a
sees (e ∷ es) a = sees es (see e a)

pub sees-append : (es fs : List Event) (a : Ghost) → sees (es ++ fs) a ≡ sees fs (sees es a)
sees-append [] fs a = refl
sees-append (e ∷ es) fs a = sees-append es fs (see e a)

pub sees-book : (es : List Event) (a : Ghost) → (sees es a).book ≡ notes es a.book
unfolding notes
sees-book [] a = refl
sees-book (e ∷ es) a = sees-book es (see e a)

-- few pending, and few before
pub none-full : (ps : List ℕ) (full : Bool) → length ps < limit → full ≡ false → is_full ps full ≡ false
none-full ps full few e = rw (lt-leb limit (length ps) few) e

ever : (es : List Event) (a : Ghost) → (sees es a).full ≡ false → a.full ≡ false
ever [] a h = h
ever (e ∷ es) a h = (neither (leb limit (length (note e a.book).pending)) a.full (ever es (see e a) h)).1

pub few-seen : (es : List Event) (a : Ghost) → length a.book.pending < limit → (sees es a).full ≡ false → Few es a.book
few-seen [] a few h = few
few-seen (e ∷ es) a few h =
    let now = (neither (leb limit (length (note e a.book).pending)) a.full (ever es (see e a) h)).0 in
    (few, few-seen es (see e a) (leb-false limit (length (note e a.book).pending) now) h)

-- no failure without its reason, and none before
always : (es : List Event) (a : Ghost) → (sees es a).groundless ≡ false → a.groundless ≡ false
always [] a h = h
always (e ∷ es) a h = (neither (is_groundless e a.book) a.groundless (always es (see e a) h)).1

tested : (e : Event) (b : Book) → is_groundless e b ≡ false → Tested is_founded e b × Tested is_unlimited e b
tested reset b h = (tt, tt)
tested (restored submitted consumed positions index offset) b h = (tt, tt)
tested (moved a) b h = (tt, tt)
tested (updated latency) b h = (tt, tt)
tested (failed a) b h = both (is_founded a b) (is_unlimited a b) (not-false (is_founded a b && is_unlimited a b) h)
tested refused b h = (tt, tt)

pub failures-seen : (es : List Event) (a : Ghost) → (sees es a).groundless ≡ false → Failures is_founded es a.book × Failures is_unlimited es a.book
failures-seen [] a h = (tt, tt)
failures-seen (e ∷ es) a h =
    let now = tested e a.book (neither (is_groundless e a.book) a.groundless (always es (see e a) h)).0 in
    let later = failures-seen es (see e a) h in
    ((now.0, later.0), (now.1, later.1))
