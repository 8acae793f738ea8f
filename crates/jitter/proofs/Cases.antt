-- The outcome of each function, from what its tests and calls leave. Assumes nothing.
use Prim.Native.Nat.{ℕ, ◌+◌, ◌-◌, ◌*◌, ◌/◌, ◌≤◌, ◌<◌, min, max}
use mathlib.Core.Path.{◌≡◌, refl, sym, ap, ◌∙◌, subst}
use mathlib.Core.Bool.{Bool, true, false}
use mathlib.Core.List.{List, ◌++◌}
use native.Mathlib.Omega.{arith}
use borrow.Author.Tests.{leb-true, leb-false}
use lib.Dec.{leb}
use lib.ListN.{length, get_or, set, take, drop}
use lib.Seq.{get_or-set_same, get_or-set_other}
use Rattle.word.specs.Value.{Bytes}
use Rattle.word.specs.Place.{word_at}
use Rattle.word.proofs.Choices.{by-test}
use Rattle.word.proofs.Lists.{copied-whole, length_part, bytes_take, bytes_drop}
use Rattle.clock.specs.Frames.{accrue_of, whole_frames_of}
use Rattle.std.specs.Prelude.{Option, None, Some}
use Rattle.format.specs.Format.{format_of}
use Rattle.stream.specs.declared.Stream.{Stream}
use Rattle.stream.specs.Box.{streams, captures}
use Rattle.host.specs.declared.Host.{Host}
use Rattle.host.specs.Hosts.{host, queue_at}
use Rattle.registers.specs.Places.{fmt}
use Rattle.registers.proofs.Files.{File}
use Rattle.device.specs.declared.Hda.{Hda}
use Rattle.device.specs.Devices as devices
use Rattle.device.specs.Machines.{Done, Machine, machine}
use Rattle.record.specs.Layout.{device_size}
use Rattle.record.specs.Loads.{stream_at, device_at}
use Rattle.record.proofs.Theorems.{stream-loaded}
use Rattle.advance.specs.declared.Advanced.{Advanced}
use Rattle.advance.specs.Advance.{done_in, advance_of}
use Rattle.calls.proofs.Devices.{Stands, check-stands}
use Rattle.counts.specs.Counts.{frames_by, movable_by, movable_of, Copied}
use Rattle.jitter.specs.declared.Spread.{Spread}
use Rattle.jitter.specs.Bounds.{without_switches, switched_off, lowest_of, highest_of}
use Rattle.jitter.specs.Steps.{seen_of, pending_of, CaseNeeds, Lasting, Counted, CountedAt, Widened, SpreadOf}
use Rattle.jitter.proofs.Scratch.{copy, copy-stands, copy-copied}
use Rattle.jitter.proofs.Walks.{movable-rises, SameMovable, case, walk_first, walk-next}

-- ---- frames
pub frames-none : (fraction nanos : ℕ) (f k : Option ℕ) → f ≡ k → f ≡ None → 0 ≡ frames_by fraction nanos k
frames-none fraction nanos f k e z = rw (← e, z)

pub frames-rated : (fraction nanos : ℕ) (f k : Option ℕ) (rate time frames : ℕ) → f ≡ k → f ≡ Some rate → time ≡ accrue_of rate nanos fraction → frames ≡ whole_frames_of time
    → frames ≡ frames_by fraction nanos k
frames-rated fraction nanos f k rate time frames e z et ef = rw (← e, z) (ef ∙ ap whole_frames_of et)

pub movable-all : (capture : Bool) (queued frames due : ℕ) → capture ≡ true → frames ≡ due → frames ≡ movable_by capture queued due
movable-all capture queued frames due c e = rw c e

pub movable-room : (capture : Bool) (queued frames due room least : ℕ) → capture ≡ false → frames ≡ due → room ≡ 2048 - queued → least ≡ min frames (room / 4) → least ≡ movable_by capture queued due
movable-room capture queued frames due room least c e r l = rw c (omega arith)

-- the registers as the record has them
pub own-regs : (device : List ℕ) → (device_at device).regs ≡ take 256 (drop 262 device)
unfolding device_at
own-regs device = refl

-- one stream more whose frames to move are as many
pub lasting-turn : (d : Hda) (h : Host) (nanos end end' i queued word fraction : ℕ) (capture : Bool) → nanos ≤ end' → end' ≤ end
    → movable_by capture queued (frames_by fraction nanos (format_of word)) ≡ movable_by capture queued (frames_by fraction end' (format_of word))
    → capture ≡ captures i → queued ≡ (queue_at h i).length → word ≡ word_at 2 (fmt i) d.regs → fraction ≡ (devices.stream_at d i).fraction
    → ((j : ℕ) → j < i → movable_of d h j nanos ≡ movable_of d h j end) → (j : ℕ) → j < i + 1 → movable_of d h j nanos ≡ movable_of d h j end'
unfolding movable_of
lasting-turn d h nanos end end' i queued word fraction capture low high own ec eq ew ef before j less =
    by-test (leb i j)
    (λ t. let same : j ≡ i = omega (arith, leb-true i j t) in rw same (rw (ec, eq, ew, ef) at own))
    (λ t.
    let c = captures j in
    let q = (queue_at h j).length in
    let f = (devices.stream_at d j).fraction in
    let k = format_of (word_at 2 (fmt j) d.regs) in
    omega (arith, movable-rises c q f nanos end' k low, movable-rises c q f end' end k high, before j (omega (arith, leb-false i j t))))

-- ---- counts
-- numbers put one by one into a row
pub row-turn : (f : ℕ → ℕ) (found : List ℕ) (i v : ℕ) → i < streams → length found ≡ streams → v ≡ f i → ((j : ℕ) → j < i → get_or found j 0 ≡ f j)
    → (j : ℕ) → j < i + 1 → get_or (set found i v) j 0 ≡ f j
row-turn f found i v few long e before j h =
    by-test (leb i j)
    (λ t. let same : j ≡ i = omega (arith, leb-true i j t) in rw same (get_or-set_same found i v 0 (omega arith) ∙ e))
    (λ t. let other = leb-false i j t in get_or-set_other found i j v 0 (λ z. omega arith) ∙ before j (omega arith))

pub count-loaded : (d : List ℕ) (i : ℕ) (s : Stream) → i < streams → s ≡ stream_at (680 + 34 * i) d → s.submitted ≡ (devices.stream_at (device_at d) i).submitted
count-loaded d i s few e = ap (λ (k : Stream). k.submitted) (e ∙ sym (stream-loaded d i few))

-- ---- cases
-- a record copied over as many bytes
pub record-copied : (device into copy : List ℕ) → length device ≡ device_size → length into ≡ device_size → copy ≡ take (length device) device ++ drop (length device) into → copy ≡ device
record-copied device into copy e z k = copied-whole device into copy (omega arith) k

-- what `advance` leaves in the copy
pub run-done : (a : Advanced) (device copy copy' lists queues memory lists' queues' memory' r : List ℕ) (h : Host) (nanos : ℕ) → copy ≡ device
    → done_in a copy' lists' queues' memory' ≡ advance_of nanos (machine (device_at copy) h lists queues memory) → Counted r (device_at copy')
    → Counted r (advance_of nanos (machine (device_at device) h lists queues memory)).answer.hda
run-done a device copy copy' lists queues memory lists' queues' memory' r h nanos ec e k =
    subst (λ (d : Hda). Counted r d) (ap (λ (z : Done). z.answer.hda) (e ∙ ap (λ (b : List ℕ). advance_of nanos (machine (device_at b) h lists queues memory)) ec)) k

off-same : (h : Host) → h.playback ≡ false → h.capture ≡ false → without_switches h ≡ h
off-same h p c = ap (λ (b : Bool). host b false h.downstream h.queues) (sym p) ∙ ap (λ (b : Bool). host h.playback b h.downstream h.queues) (sym c)

module _ (device lists queues memory : List ℕ) (h : Host) (bytes : Bytes device) (hosted : length h.queues ≡ streams) (lists' queues' memory' : List ℕ)
    (needs : CaseNeeds (machine (device_at device) h lists queues memory) device lists' queues' memory') where
  abbrev whole : Machine
  whole = machine (device_at device) h lists queues memory

  off : switched_off whole ≡ whole
  off = ap (λ (k : Host). machine (device_at device) k lists queues memory) (off-same h needs.playback needs.capture)

  own : Stands whole
  own =
      let file : File (device_at device).regs = rw (own-regs device) record { sized = length_part 256 262 device (omega (arith, needs.sized)); bytes = bytes_take 256 (drop 262 device) (bytes_drop 262 device bytes) } in
      check-stands whole needs.passes file

  stands : Stands (switched_off whole)
  stands = subst Stands (sym off) own

  -- one case on scratch that was filled gives the counts of the machine itself
  pub case-done : (l q m r : List ℕ) (nanos : ℕ) → l ≡ pending_of (device_at device) lists lists' → q ≡ queues → m ≡ seen_of (device_at device).regs memory memory'
      → Counted r (advance_of nanos (machine (device_at device) h l q m)).answer.hda → CountedAt r whole nanos
  case-done l q m r nanos el eq em k =
      let y = copy whole lists' memory' own needs.lists in
      let over : machine (device_at device) h l q m ≡ y = rw (el, eq, em) in
      let given : Copied (switched_off whole) y = subst (λ (z : Machine). Copied z y) (sym off) (copy-copied whole lists' memory' own needs.lists needs.memory) in
      record {
        each = λ i few.
            k.each i few
            ∙ ap (λ (z : Machine). (devices.stream_at (advance_of nanos z).answer.hda i).submitted) over
            ∙ case whole hosted stands y (copy-stands whole lists' memory' own needs.lists) given nanos i;
      }

  lasting : (nanos longest end : ℕ) → Lasting (device_at device) h nanos longest end → SameMovable (switched_off whole) nanos end
  lasting nanos longest end l = subst (λ (z : Machine). SameMovable z nanos end) (sym off) l.same

  -- the walk's first run, and one run more
  pub spread-first : (shortest longest end : ℕ) (r : Spread) (found : List ℕ) → Lasting (device_at device) h shortest longest end → CountedAt found whole shortest → r.lowest ≡ found → r.highest ≡ found
      → SpreadOf r whole shortest end
  spread-first shortest longest end r found l k el eh =
      record {
        lowest = λ i few. rw el (k.each i few ∙ sym (walk_first whole hosted stands i shortest end l.low (lasting shortest longest end l)).0);
        highest = λ i few. rw eh (k.each i few ∙ sym (walk_first whole hosted stands i shortest end l.low (lasting shortest longest end l)).1);
      }

  pub spread-next : (shortest longest last end : ℕ) (a r : Spread) (found : List ℕ) → shortest ≤ last → SpreadOf a whole shortest last → Lasting (device_at device) h (last + 1) longest end
      → CountedAt found whole (last + 1) → Widened r a found → SpreadOf r whole shortest end
  spread-next shortest longest last end a r found order s l k w =
      record {
        lowest = λ i few. w.lowest i few ∙ ap (λ (v : ℕ). min v (get_or found i 0)) (s.lowest i few) ∙ ap (min (lowest_of whole i shortest last)) (k.each i few)
            ∙ sym (walk-next whole hosted stands i shortest last end order (omega (arith, l.low)) (lasting (last + 1) longest end l)).0;
        highest = λ i few. w.highest i few ∙ ap (λ (v : ℕ). max v (get_or found i 0)) (s.highest i few) ∙ ap (max (highest_of whole i shortest last)) (k.each i few)
            ∙ sym (walk-next whole hosted stands i shortest last end order (omega (arith, l.low)) (lasting (last + 1) longest end l)).1;
      }

pub needs-kept : (x : Machine) (b l q m l' q' m' : List ℕ) → CaseNeeds x b l q m → length l' ≡ length l → length q' ≡ length q → length m' ≡ length m → CaseNeeds x b l' q' m'
needs-kept x b l q m l' q' m' n el eq em =
    record {
      sized = n.sized;
      device = n.device;
      passes = n.passes;
      playback = n.playback;
      capture = n.capture;
      lists = el ∙ n.lists;
      queues = eq ∙ n.queues;
      memory = em ∙ n.memory;
    }
