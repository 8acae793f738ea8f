-- Demand 3 on bytes, from demand 3's own steps: every call on bytes is the call on the machine in them. Assumes nothing.
use Prim.Native.Nat.{ℕ, ◌+◌, ◌*◌, ◌/◌, ◌%◌, ◌^◌, ◌≤◌, ◌<◌}
use mathlib.Core.Path.{◌≡◌, refl, sym, ap, subst, ◌∙◌}
use mathlib.Core.Bool.{Bool, true, false, cond, true≢false}
use mathlib.Core.List.{List, [], ◌∷◌, ◌++◌}
use native.Mathlib.Omega.{arith}
use borrow.Author.Tests.{eqb-false, eq-eqb, le-ltb}
use lib.Dec.{eqb}
use lib.ListN.{length, take, length-replicate, get_or-replicate}
use Rattle.word.specs.Value.{Bytes}
use Rattle.word.specs.Place.{word_at}
use Rattle.word.specs.Parts.{part_of}
use Rattle.codec.proofs.WellFormed.{fresh-well-formed}
use Rattle.stream.specs.declared.Stream.{Stream}
use Rattle.stream.specs.Streams as stream
use Rattle.stream.specs.Streams.{list_size}
use Rattle.stream.specs.Box.{streams}
use Rattle.stream.proofs.Validity.{valid-parts}
use Rattle.queue.specs.Queues.{capacity}
use Rattle.registers.specs.Places.{lpib, cbl}
use Rattle.registers.proofs.Files.{file-reset}
use Rattle.turn.specs.Engines.{position_of}
use Rattle.pci.proofs.Facts.{length-fresh}
use Rattle.device.specs.Devices as devices
use Rattle.device.specs.Devices.{fresh_of}
use Rattle.device.specs.Machines.{Machine, short_of}
use Rattle.host.proofs.Checks.{checked}
use Rattle.device.proofs.Checks.{room, passed, passes}
use Rattle.device.proofs.Facts.{fresh-valid}
use Rattle.calls.proofs.Pci.{fresh-word}
use Rattle.restore.specs.Restores.{number_of}
use Rattle.restore.proofs.Theorems.{restored-valid}
use Rattle.restore.proofs.Returns.{saved-uncrowded}
use Rattle.hda.specs.Calls as hda
use Rattle.record.specs.Layout.{device_size}
use Rattle.record.specs.Devices.{device_bytes}
use Rattle.record.specs.Loads.{block_at, device_at}
use Rattle.record.specs.Typed.{TypedStream, TypedDevice}
use Rattle.record.proofs.Theorems.{stream-loaded, device-stored, device-record}
use Rattle.host_record.specs.Hosts.{host_at}
use Rattle.reply.specs.Replies.{reply_of, is_machine}
use Rattle.reply.proofs.Records.{machine-device, machine-host}
use Rattle.port_device.specs.Calls.{Lent, machine_at, none, Made, new_of}
use Rattle.port_device.specs.Calls as ports
use Rattle.calls.specs.Calls as calls
use Rattle.book.specs.Book as book
use Rattle.book.specs.Book.{Book, reset, note, notes}
use Rattle.book.specs.Reasons.{is_founded, is_unlimited, Failures}
use Rattle.book.specs.Events as events
use Rattle.book.specs.Events.{restored_event}
use Rattle.book.specs.Lists.{opening_of}
use Rattle.book.specs.Claim.{Rises, Few, Accepts}
use Rattle.book.specs.Corollaries.{Once, Shows, Serves}
use Rattle.book.specs.Claim as book-claim
use Rattle.book.proofs.Ghosts.{Ghost, see, sees, sees-append, sees-book, few-seen, failures-seen}
use Rattle.book.proofs.Orders.{rises-all, rises-same, four-apart}
use Rattle.book.proofs.Tied.{Tied, tied-reset}
use Rattle.book.proofs.Machines.{Held, part-size}
use Rattle.book.proofs.Calls.{after-held}
use Rattle.book.proofs.Consequences.{once-each}
use Rattle.book.proofs.Shown as shown
use Rattle.book.proofs.Theorem.{opened, new-begins, restored-begins, fresh_at, fresh-count, fresh-opens, resumed-opens}
use Rattle.lent_book.specs.Typed.{TypedMachine}
use Rattle.lent_calls.specs.Calls.{Call, new, host_new, on, call_of, with_device, after}
use Rattle.lent_book.specs.Lists.{Typed, Step, handed, run, stream_in, pending_in, opening_in, new_reply, events_of, all_events, book_of}
use Rattle.lent_book.specs.Claim.{Accepted, Lends, Starts, made, restored, Opens, Agrees, NoRestore, Spaced}
use Rattle.lent_book.specs.Corollaries.{registers_in, ShowsIn}
use Rattle.lent_book.proofs.Typed.{after-typed, after-sound}
use Rattle.lent_book.proofs.Numbers.{accepted, accepting, crowded, written}
use Rattle.lent_book.proofs.Records.{Ready, bytes_ready, stored-ready, machine-typed, Meets, left_meets, left-stays}

-- ---- what stands in the bytes
same-stream : (i : ℕ) → i < streams → (x : Lent) → devices.stream_at (device_at x.device) i ≡ stream_in i x
same-stream i own x = stream-loaded x.device i own

opening-in : (i : ℕ) → i < streams → (x : Lent) → opening_in i x ≡ opening_of i (machine_at x)
opening-in i own x = rw (same-stream i own x)

-- ---- a new device
fresh-stream : TypedStream stream.fresh_of
unfolding stream.fresh_of
fresh-stream =
    record { descriptor = omega arith; offset = omega arith; submitted = omega arith; consumed = omega arith; fraction = omega arith; pending = omega arith }

fresh-typed : (microphone : Bool) → TypedDevice (fresh_of microphone)
unfolding fresh_of
fresh-typed microphone =
    record {
      sized = record { config = length-fresh; regs = file-reset.sized; codec = fresh-well-formed };
      ticks = omega arith;
      fraction = omega arith;
      responses = omega arith;
      count = length-replicate streams stream.fresh_of;
      each = λ i few. rw (get_or-replicate streams i stream.fresh_of stream.fresh_of few) fresh-stream;
    }

fresh-regs : (microphone : Bool) → Bytes (fresh_of microphone).regs
unfolding fresh_of
fresh-regs microphone = file-reset.bytes

fresh-ready : (microphone : Bool) → Ready (device_bytes (fresh_of microphone))
fresh-ready microphone =
    let d = fresh_of microphone in
    let t = fresh-typed microphone in
    record { there = device-record d t; typed = rw (device-stored d t) t; regs = rw (device-stored d t) (fresh-regs microphone) }

-- hda_new: done, or refused with a number
by-new : (microphone : Bool) (device : List ℕ) (lists queues : ℕ) (P : Made → Type 0) → (short_of lists queues ≡ false → P (ports.made 0 (device_bytes (fresh_of microphone))))
    → ((n : ℕ) → eqb n 0 ≡ false → P (ports.made n device)) → P (new_of microphone device lists queues)
unfolding new_of hda.new_of
by-new microphone device lists queues P done refused = go (short_of lists queues) (eqb (length device) device_size) refl
  where
    outcome : Bool → Bool → Made
    outcome short fits =
        cond (eqb (cond short 10 0) 0)
        (cond fits (ports.made (reply_of 0 false false 0) (device_bytes (fresh_of microphone))) (ports.made (reply_of 9 false false 0) device))
        (ports.made (reply_of (cond short 10 0) false false 0) device)

    go : (short fits : Bool) → short_of lists queues ≡ short → P (outcome short fits)
    go true fits e = refused 10 refl
    go false true e = done e
    go false false e = refused 9 refl

-- it is done where there is room
new-begun : (microphone : Bool) (x : Lent) → length x.device ≡ device_size → list_size * streams ≤ length x.lists → capacity * streams ≤ length x.queues → new_reply microphone x ≡ 0
unfolding new_of hda.new_of
new-begun microphone x size long wide = go (short_of (length x.lists) (length x.queues)) (eqb (length x.device) device_size) enough (eq-eqb (length x.device) device_size size)
  where
    enough : short_of (length x.lists) (length x.queues) ≡ false
    enough = rw (le-ltb (length x.lists) (list_size * streams) long, le-ltb (length x.queues) (capacity * streams) wide)

    outcome : Bool → Bool → Made
    outcome short fits =
        cond (eqb (cond short 10 0) 0)
        (cond fits (ports.made (reply_of 0 false false 0) (device_bytes (fresh_of microphone))) (ports.made (reply_of 9 false false 0) x.device))
        (ports.made (reply_of (cond short 10 0) false false 0) x.device)

    go : (short fits : Bool) → short ≡ false → fits ≡ true → (outcome short fits).reply ≡ 0
    go true fits e f = absurd (true≢false e)
    go false true e f = refl
    go false false e f = absurd (true≢false (sym f))

-- what hda_new leaves where it answers 0
abbrev Fresh : Bool → List ℕ → List ℕ → Type 0
Fresh microphone device lists = (device ≡ device_bytes (fresh_of microphone)) × (list_size * streams ≤ length lists)

new-done : (microphone : Bool) (x : Lent) → new_reply microphone x ≡ 0 → Fresh microphone (after (new microphone) x).device x.lists
unfolding after
new-done microphone x =
    by-new microphone x.device (length x.lists) (length x.queues) (λ (m : Made). m.reply ≡ 0 → Fresh microphone m.device x.lists)
    (λ short _. (refl, (room (length x.lists) (length x.queues) short).0)) (λ n e z. absurd (eqb-false n 0 e z))

-- the machine in what it leaves
new-machine : (microphone : Bool) (x : Lent) → new_reply microphone x ≡ 0
    → machine_at (after (new microphone) x) ≡ book-claim.made microphone (host_at x.host) x.lists x.queues x.memory
unfolding after
new-machine microphone x e =
    let d = fresh_of microphone in
    rw ((new-done microphone x e).0, device-stored d (fresh-typed microphone))

-- an accepted restore leaves a valid device
restored-sound : (strict : Bool) (s : List ℕ) (x : Machine) → Accepts strict s x → let y = calls.after (calls.restore strict s) x in devices.valid_of y.hda y.lists ≡ true
unfolding calls.after
restored-sound strict s x e =
    let y = calls.after (calls.restore strict s) x in
    (passed y.hda y.host y.lists (length x.queues) (restored-valid strict s x.hda x.host x.lists (length x.queues) e.0)).device

-- ---- a list
module _ (F : Type 0) (i : ℕ) (own : i < streams) where
  -- a device's record whose stream i is tied to the book
  record Stood (a : Ghost) (x : Lent) : Type 0 where
    ready : Ready x.device
    sound : devices.valid_of (device_at x.device) x.lists ≡ true
    held : Held F i (device_at x.device).streams x.lists a

  stays : (a : Ghost) (x y : Lent) → y.device ≡ x.device → y.lists ≡ x.lists → Stood a x → Stood a y
  stays a x y ed el s = record { ready = rw ed s.ready; sound = rw (ed, el) s.sound; held = rw (ed, el) s.held }

  -- a function of a call
  module _ (c : calls.Call) (x : Lent) (a : Ghost) (host : Bytes x.host) (queues : Bytes x.queues) (memory : Bytes x.memory) (typed : calls.Typed c)
      (none : F → (strict : Bool) (s : List ℕ) → c ≡ calls.restore strict s → Accepted strict s x → ⊥) (s : Stood a x) where
    left-stood : (b : Bool) → is_machine x.device x.host ≡ b → Stood (sees (cond b (events.events_of i c (machine_at x)) []) a) (after (on c) x)
    left-stood true e =
        let t = machine-typed x s.ready (machine-host x.device x.host e) host queues memory in
        let y = calls.after c (machine_at x) in
        let m = left_meets x e t c typed in
        let a' = sees (events.events_of i c (machine_at x)) a in
        let h : Held F i y.hda.streams y.lists a' =
        after-held F i own c (machine_at x) a (λ f strict state same accepts. none f strict state same (accepting strict state x e accepts)) t.host.count s.held in
        record {
          ready = stored-ready (after (on c) x).device m.there y (ap (λ (z : Machine). z.hda) m.same) (after-typed c typed (machine_at x) t);
          sound = subst (λ (z : Machine). devices.valid_of z.hda z.lists ≡ true) (sym m.same) (after-sound c typed (machine_at x) t s.sound);
          held = subst (λ (z : Machine). Held F i z.hda.streams z.lists a') (sym m.same) h;
        }
    left-stood false e = let k = left-stays x e c in stays a x (after (on c) x) k.device k.lists s

  -- hda_new, in the midst of a list too
  new-held : (microphone : Bool) (lists : List ℕ) (a : Ghost) → list_size * streams ≤ length lists → (F → a.full ≡ false) → a.groundless ≡ false → Held F i (fresh_of microphone).streams lists (see reset a)
  new-held microphone lists a long never founded =
      record {
        count = fresh-count F i own microphone;
        space = long;
        own = rw (fresh_at F i own microphone) (tied-reset F (part_of list_size i lists) a (part-size i lists own long) never founded);
      }

  new-stood : (microphone : Bool) (x : Lent) (a : Ghost) → Stood a x → Stood (sees (events_of i (new microphone) x) a) (after (new microphone) x)
  unfolding events_of after
  new-stood microphone x a s =
      by-new microphone x.device (length x.lists) (length x.queues)
      (λ (m : Made). Stood (sees (cond (eqb m.reply 0) (reset ∷ []) []) a) (with_device x m.device))
      (λ short. record {
        ready = fresh-ready microphone;
        sound = rw (device-stored (fresh_of microphone) (fresh-typed microphone)) (fresh-valid microphone fresh-word x.lists);
        held = rw (device-stored (fresh_of microphone) (fresh-typed microphone))
            (new-held microphone x.lists a (room (length x.lists) (length x.queues) short).0 s.held.own.never s.held.own.founded);
      })
      (λ n e. rw e (stays a x (with_device x x.device) refl refl s))

  host-stood : (x : Lent) (a : Ghost) → Stood a x → Stood (sees (events_of i host_new x) a) (after host_new x)
  unfolding after events_of
  host-stood x a s = stays a x (after host_new x) refl refl s

  on-stood : (c : calls.Call) (x : Lent) (a : Ghost) → Bytes x.host → Bytes x.queues → Bytes x.memory → calls.Typed c
      → (F → (strict : Bool) (s : List ℕ) → on c ≡ on (calls.restore strict s) → Accepted strict s x → ⊥) → Stood a x → Stood (sees (events_of i (on c) x) a) (after (on c) x)
  unfolding events_of after
  on-stood c x a host queues memory typed none s =
      left-stood c x a host queues memory typed (λ f strict state same. none f strict state (ap (λ (k : calls.Call). on k) same)) s (is_machine x.device x.host) refl

  step-stood : (c : Call) (x : Lent) (a : Ghost) → Bytes x.host → Bytes x.queues → Bytes x.memory → Typed c → (F → (strict : Bool) (s : List ℕ) → c ≡ on (calls.restore strict s) → Accepted strict s x → ⊥)
      → Stood a x → Stood (sees (events_of i c x) a) (after c x)
  step-stood (new microphone) x a host queues memory typed none s = new-stood microphone x a s
  step-stood host_new x a host queues memory typed none s = host-stood x a s
  step-stood (on c) x a host queues memory typed none s = on-stood c x a host queues memory typed none s

  run-stood : (cs : List Step) (x : Lent) (a : Ghost) → (F → NoRestore cs x) → Stood a x → Stood (sees (all_events i cs x) a) (run cs x)
  unfolding run all_events
  run-stood [] x a none s = s
  run-stood (c ∷ cs) x a none s =
      let y = handed c x in
      let es = events_of i c.call y in
      rw (sees-append es (all_events i cs (after c.call y)) a)
      (run-stood cs (after c.call y) (sees es a) (λ f. (none f).1)
      (step-stood c.call y a c.hosts c.queued c.bytes c.typed (λ f. (none f).0) (stays a x y refl refl s)))

  -- ---- the starts
  new-begins-bytes : (microphone : Bool) (x : Lent) → new_reply microphone x ≡ 0 → let y = after (new microphone) x in Stood (opened i (machine_at y)) y
  new-begins-bytes microphone x e =
      let y = after (new microphone) x in
      let d = new-done microphone x e in
      record {
        ready = rw d.0 (fresh-ready microphone);
        sound = subst (λ (z : Machine). devices.valid_of z.hda z.lists ≡ true) (sym (new-machine microphone x e)) (fresh-valid microphone fresh-word x.lists);
        held = subst (λ (z : Machine). Held F i z.hda.streams z.lists (opened i z)) (sym (new-machine microphone x e))
            (new-begins F i own microphone (host_at x.host) x.lists x.queues x.memory d.1);
      }

-- an accepted restore of either kind
module _ (strict : Bool) (s : List ℕ) (x : Lent) (typed : Bytes s) (h : Lends x) (z : Accepted strict s x) where
  e : (is_machine x.device x.host ≡ true) × Accepts strict s (machine_at x)
  e = accepted strict s x z

  abbrev resumes : Lent
  resumes = after (on (calls.restore strict s)) x

  found : TypedMachine (machine_at x)
  found =
      let b = bytes_ready x.device (machine-device x.device x.host e.0) h.device in
      machine-typed x b (machine-host x.device x.host e.0) h.host h.queues h.memory

  resumed-meets : Meets resumes (calls.after (calls.restore strict s) (machine_at x))
  unfolding after
  resumed-meets = left_meets x e.0 found (calls.restore strict s) typed

  resumed-stood : (i : ℕ) (own : i < streams) → Stood ⊥ i own (opened i (machine_at resumes)) resumes
  resumed-stood i own =
      let m = resumed-meets in
      let y = calls.after (calls.restore strict s) (machine_at x) in
      record {
        ready = stored-ready resumes.device m.there y (ap (λ (z : Machine). z.hda) m.same) (after-typed (calls.restore strict s) typed (machine_at x) found);
        sound = subst (λ (z : Machine). devices.valid_of z.hda z.lists ≡ true) (sym m.same) (restored-sound strict s (machine_at x) e.1);
        held = subst (λ (z : Machine). Held ⊥ i z.hda.streams z.lists (opened i z)) (sym m.same) (restored-begins i own strict s (machine_at x) e.1);
      }

  pub resumed-bytes : (i : ℕ) → i < streams → (b : Book) → opening_in i resumes ≡ note (restored_event s i) b
  resumed-bytes i own b = opening-in i own resumes ∙ ap (opening_of i) resumed-meets.same ∙ resumed-opens i own strict s (machine_at x) e.1 b

fresh-bytes : (i : ℕ) → i < streams → (microphone : Bool) (x : Lent) → new_reply microphone x ≡ 0 → opening_in i (after (new microphone) x) ≡ book.made
fresh-bytes i own microphone x e =
    opening-in i own (after (new microphone) x) ∙ ap (opening_of i) (new-machine microphone x e) ∙ fresh-opens i own microphone (host_at x.host) x.lists x.queues x.memory

pub opens : (i : ℕ) → i < streams → Opens i
opens i own = record { begins = new-begun; fresh = fresh-bytes i own; resumed = λ strict s x typed h e. resumed-bytes strict s x typed h e i own }

started : (i : ℕ) (own : i < streams) (x : Lent) → Starts x → Stood ⊥ i own (opened i (machine_at x)) x
started i own x (made microphone y e) = new-begins-bytes ⊥ i own microphone y e
started i own x (restored strict s y typed h e) = resumed-stood strict s y typed h e i own

-- ---- the claim
-- tied by what stands in the bytes
tied : (i : ℕ) (own : i < streams) (x : Lent) (F : Type 0) (a : Ghost) → Stood F i own a x → Tied F (stream_in i x) (part_of list_size i x.lists) a
tied i own x F a s = rw (same-stream i own x) at s.held.own

pub agrees : (i : ℕ) → i < streams → (cs : List Step) (x : Lent) → Starts x → Agrees i cs x
unfolding book_of
agrees i own cs x start =
    let es = all_events i cs x in
    let a = opened i (machine_at x) in
    let s = run-stood ⊥ i own cs x a (λ f. absurd f) (started i own x start) in
    let t = tied i own (run cs x) ⊥ (sees es a) s in
    let same : (sees es a).book ≡ book_of i cs x = sees-book es a ∙ ap (notes es) (sym (opening-in i own x)) in
    let v = valid-parts _ _ t.valid in
    record {
      readable = s.ready.there;
      passes = λ host queues memory e.
          let h = checked (host_at host) (length queues) e in
          passes (device_at (run cs x).device) (host_at host) (run cs x).lists (length queues) s.held.space h.room s.sound h.valid;
      submitted = t.submitted ∙ ap (λ (b : Book). b.submitted) same;
      consumed = t.consumed ∙ ap (λ (b : Book). b.consumed) same;
      pending = t.pending ∙ ap (λ (b : Book). b.pending) same;
      index = t.index ∙ ap (λ (b : Book). b.index) same;
      offset = t.offset ∙ ap (λ (b : Book). b.offset) same;
      heard = v.heard;
      rises = rises-all _ (pending_in i (run cs x)) _ v.heard v.rises;
      exact = subst (λ (b : Book). b.ends ≡ b.retired ++ b.pending) same t.exact;
      founded = subst (Failures is_founded es) (sym (opening-in i own x)) (failures-seen es a t.founded).0;
    }

-- the retired positions rise strictly and none is above consumed
past : (i : ℕ) → i < streams → (cs : List Step) (x : Lent) → Starts x → Rises 0 (book_of i cs x).retired (book_of i cs x).consumed
unfolding book_of
past i own cs x start =
    let es = all_events i cs x in
    let a = opened i (machine_at x) in
    let t = tied i own (run cs x) ⊥ (sees es a) (run-stood ⊥ i own cs x a (λ f. absurd f) (started i own x start)) in
    subst (λ (b : Book). Rises 0 b.retired b.consumed) (sees-book es a ∙ ap (notes es) (sym (opening-in i own x))) t.past

pub once : (i : ℕ) → i < streams → (cs : List Step) (x : Lent) → Starts x → Once (book_of i cs x)
once i own cs x start =
    let a = agrees i own cs x start in
    once-each (book_of i cs x) (past i own cs x start) (rises-same a.consumed a.pending a.submitted a.rises) a.exact

-- positions are 4 apart, no list is crowded, and the limit stops no transfer
pub spaced : (i : ℕ) → i < streams → (cs : List Step) (x : Lent) → Starts x → Spaced i cs x
spaced i own cs x start =
    let es = all_events i cs x in
    let a = opened i (machine_at x) in
    let t = tied i own (run cs x) ⊥ (sees es a) (run-stood ⊥ i own cs x a (λ f. absurd f) (started i own x start)) in
    record {
      apart = four-apart _ _ (pending_in i (run cs x)) t.spaced;
      uncrowded = t.spaced;
      never = subst (Failures is_unlimited es) (sym (opening-in i own x)) (failures-seen es a t.founded).1;
    }

-- so nothing that is saved is refused with 20
pub saves : (cs : List Step) (x : Lent) → Starts x → (c : Step) (into : List ℕ) → let r = call_of (on (calls.save into)) (handed c (run cs x)) in
    r.reply % 256 ≡ 0 → (y : Lent) → (call_of (on (calls.restore true (take (r.reply / 2 ^ 32) r.into))) y).reply % 256 ≡ 20 → ⊥
saves cs x start c into low y z =
    let first : 0 < streams = omega arith in
    let s = run-stood ⊥ 0 first cs x (opened 0 (machine_at x)) (λ f. absurd f) (started 0 first x start) in
    let here = handed c (run cs x) in
    let w = written into here low in
    saved-uncrowded (device_at here.device) (host_at here.host) here.lists (length here.queues) s.ready.typed
    (λ i own. ap (λ (t : Stream). stream.uncrowded_of t (part_of list_size i here.lists)) (same-stream i own here) ∙ (spaced i own cs x start).uncrowded) into w.done true
    (device_at y.device) (host_at y.host) (subst (λ (b : List ℕ). number_of true b (device_at y.device) (host_at y.host) ≡ 20) (rw (w.count, w.bytes)) (crowded true _ y z))

-- with no restore
module _ (i : ℕ) (own : i < streams) (cs : List Step) (microphone : Bool) (x : Lent) (e : new_reply microphone x ≡ 0) (none : NoRestore cs (after (new microphone) x)) where
  abbrev first : Lent
  first = after (new microphone) x

  abbrev begun : Ghost
  begun = opened i (machine_at first)

  alone : Tied (Unit {0}) (stream_in i (run cs first)) (part_of list_size i (run cs first).lists) (sees (all_events i cs first) begun)
  alone =
      tied i own (run cs first) (Unit {0}) (sees (all_events i cs first) begun)
      (run-stood (Unit {0}) i own cs first begun (λ _. none) (new-begins-bytes (Unit {0}) i own microphone x e))

  -- none is pending at the start
  few : Few (all_events i cs first) (opening_of i (machine_at first))
  few =
      let empty = ap (λ (b : Book). length b.pending) (sym (opening-in i own first) ∙ fresh-bytes i own microphone x e) in
      few-seen (all_events i cs first) begun (omega (arith, empty)) (alone.never tt)

  pub few-ever : Few (all_events i cs first) (opening_in i first)
  few-ever = subst (Few (all_events i cs first)) (sym (opening-in i own first)) few

  pub near : let s = stream_in i (run cs first) in s.submitted ≤ s.consumed + 16384
  near = alone.ahead tt

-- ---- the position register
registers-in : (b : List ℕ) → (device_at b).regs ≡ block_at 262 b
unfolding device_at
registers-in b = refl

shows_in : (i : ℕ) → i < streams → (x : Lent) → Shows i (device_at x.device) → ShowsIn i x
shows_in i own x s =
    let P : Stream → List ℕ → Type 0 = λ t regs. word_at 4 (lpib i) regs ≡ position_of t.consumed (word_at 4 (cbl i) regs) in
    let d = device_at x.device in
    subst (λ (t : Stream). P t (registers_in x)) (same-stream i own x) (subst (P (devices.stream_at d i)) (registers-in x.device) s)

-- an advance that served stream i leaves its register by its count
module _ (i : ℕ) (own : i < streams) (nanos : ℕ) (x : Lent) (ready : Ready x.device) (host : Bytes x.host) (queues : Bytes x.queues) (memory : Bytes x.memory) where
  served-shows : (b : Bool) → is_machine x.device x.host ≡ b → Serves (cond b (events.events_of i (calls.advance nanos) (machine_at x)) []) → ShowsIn i (after (on (calls.advance nanos)) x)
  served-shows true e serves =
      let c = calls.advance nanos in
      let t = machine-typed x ready (machine-host x.device x.host e) host queues memory in
      let m = left_meets x e t c tt in
      shows_in i own (after (on c) x)
      (subst (λ (z : Machine). Shows i z.hda) (sym m.same)
      (shown.advanced i own nanos (machine_at x) (record { sized = t.device.sized.regs; bytes = t.regs; count = t.device.count }) serves))
  served-shows false e none = absurd none

  advance-serves : Serves (events_of i (on (calls.advance nanos)) x) → ShowsIn i (after (on (calls.advance nanos)) x)
  unfolding events_of
  advance-serves serves = served-shows (is_machine x.device x.host) refl serves

  advance-shows : (c : Call) → c ≡ on (calls.advance nanos) → Serves (events_of i c x) → ShowsIn i (after c x)
  advance-shows c same = rw same advance-serves

pub advanced : (i : ℕ) → i < streams → (cs : List Step) (x : Lent) → Starts x → (c : Step) (nanos : ℕ) → c.call ≡ on (calls.advance nanos)
    → Serves (events_of i c.call (handed c (run cs x))) → ShowsIn i (after c.call (handed c (run cs x)))
advanced i own cs x start c nanos same serves =
    let s = run-stood ⊥ i own cs x (opened i (machine_at x)) (λ f. absurd f) (started i own x start) in
    advance-shows i own nanos (handed c (run cs x)) s.ready c.hosts c.queued c.bytes c.call same serves
