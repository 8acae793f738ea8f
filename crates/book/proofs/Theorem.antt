-- Demand 3 whole: both starts, and what ties every stream to the book after any list of calls. Assumes nothing.
use Prim.Native.Nat.{ℕ, ◌+◌, ◌*◌, ◌≤◌, ◌<◌}
use mathlib.Core.Path.{◌≡◌, refl, ap, subst, ◌∙◌}
use mathlib.Core.Bool.{Bool, true, false}
use mathlib.Core.List.{List, ◌++◌}
use native.Mathlib.Omega.{arith}
use lib.ListN.{length, take, length-replicate, get_or-replicate}
use Rattle.word.specs.Parts.{part_of}
use Rattle.positions.specs.Positions.{positions_of}
use Rattle.stream.specs.Streams as stream
use Rattle.stream.specs.Box.{streams}
use Rattle.stream.specs.Streams.{list_size, uncrowded_of}
use Rattle.stream.proofs.Validity.{valid-parts, fresh-valid}
use Rattle.pieces.proofs.Spacing.{fresh-spaced}
use Rattle.queue.specs.Queues.{capacity}
use Rattle.host.specs.declared.Host.{Host}
use Rattle.device.specs.declared.Hda.{Hda}
use Rattle.device.specs.Devices.{fresh_of, stream_at}
use Rattle.device.specs.Machines.{Machine}
use Rattle.device.proofs.Checks.{passed}
use Rattle.record.specs.Typed.{TypedDevice}
use Rattle.snapshot.specs.Saves.{save_of}
use Rattle.restore.specs.Restores.{number_of}
use Rattle.restore.specs.Returns.{Formats, Restorable}
use Rattle.restore.proofs.Theorems.{restored-valid}
use Rattle.restore.proofs.Returns.{saved-uncrowded}
use Rattle.calls.specs.Calls as calls
use Rattle.calls.specs.Calls.{after}
use Rattle.book.specs.Book as book
use Rattle.book.specs.Book.{Book, note}
use Rattle.book.specs.Events.{restored_event}
use Rattle.book.specs.Lists.{Step, run, all_events, pending_of, opening_of, book_of}
use Rattle.book.specs.Claim.{Rises, Starts, new, restored, made, Accepts, Opens, Agrees, NoRestore, Few, Spaced}
use Rattle.book.proofs.Ghosts.{Ghost, ghost, sees, sees-book, few-seen, failures-seen}
use Rattle.book.proofs.Orders.{rises-all, four-apart}
use Rattle.book.proofs.Tied.{Tied, tied-opening}
use Rattle.book.proofs.Machines.{Held, part-size}
use Rattle.book.proofs.Restores.{restored-count, restored-starts, restored-free}
use Rattle.book.proofs.Calls.{run-held}

fresh-ahead : (stream.fresh_of).submitted ≤ (stream.fresh_of).consumed + 16384
unfolding stream.fresh_of
fresh-ahead = omega arith

abbrev pub opened : ℕ → Machine → Ghost
opened i x = ghost (opening_of i x) false false

module _ (F : Type 0) (i : ℕ) (few : i < streams) where
  abbrev pub Begins : Machine → Type 0
  Begins x = Held F i x.hda.streams x.lists (opened i x)

  begins : (x : Machine) → length x.hda.streams ≡ streams → list_size * streams ≤ length x.lists
      → stream.valid_of (stream_at x.hda i) (part_of list_size i x.lists) ≡ true → uncrowded_of (stream_at x.hda i) (part_of list_size i x.lists) ≡ true
      → (F → (stream_at x.hda i).submitted ≤ (stream_at x.hda i).consumed + 16384) → Begins x
  begins x count space valid spaced ahead =
      record {
        count = count;
        space = space;
        own = tied-opening F (stream_at x.hda i) (part_of list_size i x.lists) (pending_of i x) false (part-size i x.lists few space) valid refl spaced ahead (λ _. refl) false refl;
      }

  -- a new device's streams
  pub fresh_at : (microphone : Bool) → stream_at (fresh_of microphone) i ≡ stream.fresh_of
  unfolding fresh_of
  fresh_at microphone = get_or-replicate streams i stream.fresh_of stream.fresh_of few

  pub fresh-count : (microphone : Bool) → length (fresh_of microphone).streams ≡ streams
  unfolding fresh_of
  fresh-count microphone = length-replicate streams stream.fresh_of

  pub new-begins : (microphone : Bool) (h : Host) (lists queues memory : List ℕ) → list_size * streams ≤ length lists → Begins (made microphone h lists queues memory)
  new-begins microphone h lists queues memory long =
      begins (made microphone h lists queues memory) (fresh-count microphone) long (rw (fresh_at microphone) (fresh-valid (part_of list_size i lists)))
      (rw (fresh_at microphone) (fresh-spaced (part_of list_size i lists))) (λ _. rw (fresh_at microphone) fresh-ahead)

-- a restored one's
pub restored-begins : (i : ℕ) (few : i < streams) (strict : Bool) (s : List ℕ) (x : Machine) → Accepts strict s x → Begins ⊥ i few (after (calls.restore strict s) x)
unfolding after
restored-begins i few strict s x e =
    let y = after (calls.restore strict s) x in
    let q = length x.queues in
    let p = passed y.hda y.host y.lists q (restored-valid strict s x.hda x.host x.lists q e.0) in
    begins ⊥ i few y (restored-count strict s x.hda x.host x.lists q e.0 e.1) p.lists (p.streams i few)
    (restored-free strict s x.hda x.host x.lists i few (passed x.hda x.host x.lists q e.0).lists q e.0 e.1) (λ f. absurd f)

started : (i : ℕ) (few : i < streams) (x : Machine) → Starts x → Begins ⊥ i few x
started i few x (new microphone h lists queues memory long wide) = new-begins ⊥ i few microphone h lists queues memory long
started i few x (restored strict s y e) = restored-begins i few strict s y e

-- the book's start
pub fresh-opens : (i : ℕ) → i < streams → (microphone : Bool) (h : Host) (lists queues memory : List ℕ) → opening_of i (made microphone h lists queues memory) ≡ book.made
unfolding stream.fresh_of positions_of
fresh-opens i few microphone h lists queues memory = rw (fresh_at ⊥ i few microphone)

pub resumed-opens : (i : ℕ) → i < streams → (strict : Bool) (s : List ℕ) (x : Machine) → Accepts strict s x → (b : Book)
    → opening_of i (after (calls.restore strict s) x) ≡ note (restored_event s i) b
unfolding after
resumed-opens i few strict s x e b =
    let q = length x.queues in
    restored-starts strict s x.hda x.host x.lists i few (passed x.hda x.host x.lists q e.0).lists b q e.0 e.1

pub opens : (i : ℕ) → i < streams → Opens i
opens i few = record { fresh = fresh-opens i few; resumed = resumed-opens i few }

pub agrees : (i : ℕ) → i < streams → (cs : List Step) (x : Machine) → Starts x → Agrees i cs x
unfolding book_of
agrees i few cs x start =
    let es = all_events i cs x in
    let t = (run-held ⊥ i few cs x (opened i x) (λ f. absurd f) (started i few x start)).own in
    let same : (sees es (opened i x)).book ≡ book_of i cs x = sees-book es (opened i x) in
    let v = valid-parts _ _ t.valid in
    record {
      submitted = t.submitted ∙ ap (λ (b : Book). b.submitted) same;
      consumed = t.consumed ∙ ap (λ (b : Book). b.consumed) same;
      pending = t.pending ∙ ap (λ (b : Book). b.pending) same;
      index = t.index ∙ ap (λ (b : Book). b.index) same;
      offset = t.offset ∙ ap (λ (b : Book). b.offset) same;
      heard = v.heard;
      rises = rises-all _ (pending_of i (run cs x)) _ v.heard v.rises;
      exact = subst (λ (b : Book). b.ends ≡ b.retired ++ b.pending) same t.exact;
      founded = (failures-seen es (opened i x) t.founded).0;
    }

-- the retired positions rise strictly and none is above consumed
pub past : (i : ℕ) → i < streams → (cs : List Step) (x : Machine) → Starts x → Rises 0 (book_of i cs x).retired (book_of i cs x).consumed
unfolding book_of
past i few cs x start =
    let es = all_events i cs x in
    let t = (run-held ⊥ i few cs x (opened i x) (λ f. absurd f) (started i few x start)).own in
    subst (λ (b : Book). Rises 0 b.retired b.consumed) (sees-book es (opened i x)) t.past

-- positions are 4 apart, no list is crowded, and the limit stops no transfer
pub spaced : (i : ℕ) → i < streams → (cs : List Step) (x : Machine) → Starts x → Spaced i cs x
spaced i few cs x start =
    let t = (run-held ⊥ i few cs x (opened i x) (λ f. absurd f) (started i few x start)).own in
    record {
      apart = four-apart _ _ (pending_of i (run cs x)) t.spaced;
      uncrowded = t.spaced;
      never = (failures-seen (all_events i cs x) (opened i x) t.founded).1;
    }

-- so what the device saves is taken again
pub saves : (cs : List Step) (x : Machine) → Starts x → TypedDevice (run cs x).hda → (h₀ : Host) (q₀ : ℕ) (into : List ℕ)
    → let r = save_of (run cs x).hda h₀ (run cs x).lists q₀ into in r.saved.number ≡ 0 → (d : Hda) (h : Host) → number_of true (take r.saved.count r.into) d h ≡ 20 → ⊥
saves cs x start typed h₀ q₀ into z d h =
    saved-uncrowded (run cs x).hda h₀ (run cs x).lists q₀ typed (λ i few. (spaced i few cs x start).uncrowded) into z true d h

pub restorable : (cs : List Step) (x : Machine) → Starts x → Formats (run cs x).hda → Restorable true (run cs x).hda (run cs x).lists
restorable cs x start formats = record { formats = formats; uncrowded = λ _ i few. (spaced i few cs x start).uncrowded }

-- with no restore
module _ (i : ℕ) (few : i < streams) (cs : List Step) (microphone : Bool) (h : Host) (lists queues memory : List ℕ) (long : list_size * streams ≤ length lists)
    (wide : capacity * streams ≤ length queues) (none : NoRestore cs (made microphone h lists queues memory)) where
  abbrev first : Machine
  first = made microphone h lists queues memory

  alone : Tied (Unit {0}) (stream_at (run cs first).hda i) (part_of list_size i (run cs first).lists) (sees (all_events i cs first) (opened i first))
  alone = (run-held (Unit {0}) i few cs first (opened i first) (λ _. none) (new-begins (Unit {0}) i few microphone h lists queues memory long)).own

  -- none is pending at the start
  begun : length (opening_of i first).pending < book.limit
  begun = let none = ap (λ (b : Book). length b.pending) (fresh-opens i few microphone h lists queues memory) in omega (arith, none)

  pub few-ever : Few (all_events i cs first) (opening_of i first)
  few-ever = few-seen (all_events i cs first) (opened i first) begun (alone.never tt)

  pub near : let s = stream_at (run cs first).hda i in s.submitted ≤ s.consumed + 16384
  near = alone.ahead tt
