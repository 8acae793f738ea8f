-- Scratch with the windows put in agrees with what it stands for on all that the counts see, whatever else stands in it; and the machine over it is a copy that passes the check. Assumes nothing.
use Prim.Native.Nat.{ℕ, zero, suc, ◌+◌, ◌-◌, ◌*◌, ◌≤◌, ◌<◌, min}
use mathlib.Core.Path.{◌≡◌, refl, sym, ◌∙◌}
use mathlib.Core.Bool.{true}
use mathlib.Core.List.{List}
use mathlib.Core.Logic.{inl, inr}
use native.Mathlib.Omega.{arith}
use borrow.Author.Tests.{ltb-true, ltb-false, leb-true, leb-false}
use lib.Dec.{ltb, leb}
use lib.ListN.{length, take, drop, get_or, get_or-eq_default}
use lib.Seq.{get_or-take, get_or-drop, take-take}
use Rattle.word.specs.Place.{put_at}
use Rattle.word.specs.Parts.{part_of}
use Rattle.word.specs.Each.{always, each_of}
use Rattle.word.proofs.Choices.{by-test}
use Rattle.word.proofs.Lists.{length_part}
use Rattle.word.proofs.Puts.{length-put, put-byte-elsewhere}
use Rattle.stream.specs.declared.Stream.{Stream}
use Rattle.stream.specs.Box.{streams}
use Rattle.stream.specs.Streams.{places, list_size, valid_of}
use Rattle.stream.proofs.Validity.{valid-parts}
use Rattle.queue.specs.Queues.{capacity}
use Rattle.device.specs.declared.Hda.{Hda}
use Rattle.device.specs.Devices.{stream_at}
use Rattle.device.specs.Machines.{Machine, machine}
use Rattle.device.proofs.Checks.{device-parts, parts-device}
use Rattle.calls.proofs.Devices.{Stands, part-size}
use Rattle.counts.specs.Counts.{list_at, list_window, ring_at, ring_window, Seen, listed, commanded, Agree, Pending, Copied}
use Rattle.counts.proofs.Agree.{put-byte-there, agree-part}
use Rattle.counts.proofs.Lists.{pending-positions}
use Rattle.jitter.specs.Steps.{window_of, windows_of, seen_of, pending_of}

-- at a place, the byte of m
abbrev Right : List ℕ → ℕ → List ℕ → Type 0
Right m p l = get_or m p 0 ≡ get_or l p 0

-- one window: as long, right inside, and as right as before elsewhere
module _ (m : List ℕ) (at n : ℕ) (l : List ℕ) (same : length l ≡ length m) where
  abbrev a : ℕ
  a = min at (length m)

  abbrev k : ℕ
  k = min n (length m - a)

  abbrev bs : List ℕ
  bs = take k (drop a m)

  sized : length bs ≡ k
  sized = length_part k a m (omega arith)

  fits : a + length bs ≤ length l
  fits = omega (arith, sized)

  window-long : length (window_of m at n l) ≡ length m
  unfolding window_of
  window-long = length-put a bs l fits ∙ same

  put_right : (p : ℕ) → a ≤ p → p < a + k → Right m p (put_at a bs l)
  put_right p low high =
      let e : a + (p - a) ≡ p = omega arith in
      let there = put-byte-there a bs l fits (p - a) (omega (arith, sized)) ∙ get_or-take k (drop a m) (p - a) 0 (omega arith) ∙ get_or-drop a m (p - a) 0 in
      sym (rw e at there)

  window-right : (p : ℕ) → at ≤ p → p < at + n → Right m p (window_of m at n l)
  unfolding window_of
  window-right p low high =
      by-test (ltb p (length m))
      (λ t. let h : p < length m = ltb-true p (length m) t in put_right p (omega arith) (omega arith))
      (λ t. let h : length m ≤ p = ltb-false p (length m) t in
      get_or-eq_default m 0 h ∙ sym (get_or-eq_default (put_at a bs l) 0 {n = p} (omega (arith, length-put a bs l fits))))

  window-keeps : (p : ℕ) → Right m p l → Right m p (window_of m at n l)
  unfolding window_of
  window-keeps p right =
      by-test (ltb p a)
      (λ t. right ∙ sym (put-byte-elsewhere a bs l fits p (inl (ltb-true p a t))))
      (λ t. by-test (leb (a + k) p)
      (λ u. let past : a + length bs ≤ p = omega (arith, sized, leb-true (a + k) p u) in right ∙ sym (put-byte-elsewhere a bs l fits p (inr past)))
      (λ u. put_right p (ltb-false p a t) (leb-false (a + k) p u)))

-- one for each stream
module _ (m : List ℕ) (at size : ℕ → ℕ) where
  abbrev step : ℕ → List ℕ → List ℕ
  step i = window_of m (at i) (size i)

  each_long : (n i : ℕ) (l : List ℕ) → length l ≡ length m → length (each_of always step n i l) ≡ length m
  unfolding each_of
  each_long zero i l same = same
  each_long (suc n) i l same = each_long n (i + 1) (step i l) (window-long m (at i) (size i) l same)

  each_keeps : (p n i : ℕ) (l : List ℕ) → length l ≡ length m → Right m p l → Right m p (each_of always step n i l)
  unfolding each_of
  each_keeps p zero i l same right = right
  each_keeps p (suc n) i l same right = each_keeps p n (i + 1) (step i l) (window-long m (at i) (size i) l same) (window-keeps m (at i) (size i) l same p right)

  each_right : (p j n i : ℕ) (l : List ℕ) → length l ≡ length m → i ≤ j → j < i + n → at j ≤ p → p < at j + size j → Right m p (each_of always step n i l)
  unfolding each_of
  each_right p j zero i l same low high from to = absurd (omega arith)
  each_right p j (suc n) i l same low high from to =
      let long = window-long m (at i) (size i) l same in
      by-test (leb j i)
      (λ t. let e : j ≡ i = omega (arith, leb-true j i t) in
      each_keeps p n (i + 1) (step i l) long (window-right m (at i) (size i) l same p (rw e at from) (rw e at to)))
      (λ t. each_right p j n (i + 1) (step i l) long (omega (arith, leb-false j i t)) (omega arith) from to)

  pub windows-long : (l : List ℕ) → length l ≡ length m → length (windows_of at size m l) ≡ length m
  windows-long l same = each_long streams 0 l same

  pub windows-right : (l : List ℕ) → length l ≡ length m → (i : ℕ) → i < streams → (p : ℕ) → at i ≤ p → p < at i + size i → Right m p (windows_of at size m l)
  windows-right l same i few p low high = each_right p i streams 0 l same (omega arith) (omega arith) low high

-- guest memory
pub seen-agree : (regs m l : List ℕ) → length l ≡ length m → Agree (Seen regs) m (seen_of regs m l)
unfolding seen_of
seen-agree regs m l same =
    let long = windows-long m (list_at regs) (λ (i : ℕ). list_window) l same in
    record { long = sym (window-long m (ring_at regs) ring_window _ long); same = go long }
  where
    lists : List ℕ
    lists = windows_of (list_at regs) (λ (i : ℕ). list_window) m l

    go : length lists ≡ length m → (p : ℕ) → Seen regs p → Right m p (window_of m (ring_at regs) ring_window lists)
    go long p (listed i few low high) = window-keeps m (ring_at regs) ring_window lists long p (windows-right m (list_at regs) (λ (i : ℕ). list_window) l same i few p low high)
    go long p (commanded low high) = window-right m (ring_at regs) ring_window lists long p low high

-- the lists
module _ (d : Hda) (lists l : List ℕ) (same : length l ≡ length lists) where
  pub pending-long : length (pending_of d lists l) ≡ length lists
  unfolding pending_of
  pending-long = windows-long lists (λ (i : ℕ). list_size * i) (λ (i : ℕ). 8 * (stream_at d i).pending) l same

  pending-right : (i : ℕ) → i < streams → (p : ℕ) → list_size * i ≤ p → p < list_size * i + 8 * (stream_at d i).pending → Right lists p (pending_of d lists l)
  unfolding pending_of
  pending-right i few p low high = windows-right lists (λ (i : ℕ). list_size * i) (λ (i : ℕ). 8 * (stream_at d i).pending) l same i few p low high

  pub pending-copied : list_size * streams ≤ length lists → (i : ℕ) → i < streams → (stream_at d i).pending ≤ places
      → Pending (stream_at d i).pending (part_of list_size i lists) (part_of list_size i (pending_of d lists l))
  pending-copied room i few small =
      let n = 8 * (stream_at d i).pending in
      record {
        few = small;
        long = part-size lists room i few;
        long' = part-size (pending_of d lists l) (omega (arith, pending-long)) i few;
        same = take-take n list_size (drop (list_size * i) lists) (omega arith) ∙ part ∙ sym (take-take n list_size (drop (list_size * i) (pending_of d lists l)) (omega arith));
      }
    where
      Window : ℕ → Type 0
      Window p = (list_size * i ≤ p) × (p < list_size * i + 8 * (stream_at d i).pending)

      right : (p : ℕ) → Window p → Right lists p (pending_of d lists l)
      right p (low, high) = pending-right i few p low high

      part : take (8 * (stream_at d i).pending) (drop (list_size * i) lists) ≡ take (8 * (stream_at d i).pending) (drop (list_size * i) (pending_of d lists l))
      part = agree-part Window lists (pending_of d lists l) (record { long = sym pending-long; same = right }) (8 * (stream_at d i).pending) (list_size * i) (λ p low high. (low, high))

-- a machine with the same positions pending passes the check too
valid-alike : (s : Stream) (l l' : List ℕ) → Pending s.pending l l' → valid_of s l ≡ true → valid_of s l' ≡ true
unfolding valid_of
valid-alike s l l' p v = rw (pending-positions s.pending l l' p) at v

pub alike-stands : (x : Machine) (lists queues memory : List ℕ) → Stands x → list_size * streams ≤ length lists → capacity * streams ≤ length queues
    → ((i : ℕ) → i < streams → Pending (stream_at x.hda i).pending (part_of list_size i x.lists) (part_of list_size i lists)) → Stands (machine x.hda x.host lists queues memory)
alike-stands x lists queues memory s long wide same =
    let v = device-parts x.hda x.lists s.holds.device in
    record {
      lists = long;
      queues = wide;
      holds = record {
        file = s.holds.file;
        device = parts-device x.hda lists (record {
          time = v.time;
          responses = v.responses;
          identified = v.identified;
          streams = λ i few. valid-alike (stream_at x.hda i) (part_of list_size i x.lists) (part_of list_size i lists) (same i few) (v.streams i few);
        });
        host = s.holds.host;
      };
    }

-- the machine over the scratch
module _ (x : Machine) (lists memory : List ℕ) (s : Stands x) (same : length lists ≡ length x.lists) where
  abbrev pub copy : Machine
  copy = machine x.hda x.host (pending_of x.hda x.lists lists) x.queues (seen_of x.hda.regs x.memory memory)

  copy_lists : (i : ℕ) → i < streams → Pending (stream_at x.hda i).pending (part_of list_size i x.lists) (part_of list_size i copy.lists)
  copy_lists i few =
      pending-copied x.hda x.lists lists same s.lists i few (valid-parts (stream_at x.hda i) (part_of list_size i x.lists) ((device-parts x.hda x.lists s.holds.device).streams i few)).few

  pub copy-copied : length memory ≡ length x.memory → Copied x copy
  copy-copied as_long = record { hda = refl; host = refl; lists = copy_lists; queues = λ i few. refl; memory = seen-agree x.hda.regs x.memory memory as_long }

  pub copy-stands : Stands copy
  copy-stands = alike-stands x copy.lists x.queues copy.memory s (omega (arith, pending-long x.hda x.lists lists same, s.lists)) s.queues copy_lists
