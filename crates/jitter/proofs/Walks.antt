-- The answer: what T-13 asks of it, and the walk over runs of times with as many frames to move, one call of `advance` for each. Assumes nothing.
use Prim.Native.Nat.{ℕ, suc, ◌+◌, ◌-◌, ◌≤◌, ◌<◌, min, max}
use mathlib.Core.Path.{◌≡◌, refl, sym}
use mathlib.Core.Bool.{Bool, true, false}
use native.Mathlib.Nat.{mul-le-mul_right}
use native.Mathlib.Omega.{arith}
use lib.ListN.{length}
use Rattle.word.specs.Place.{word_at}
use Rattle.word.specs.Parts.{part_of}
use Rattle.clock.proofs.Theorems.{accrue-whole}
use Rattle.std.specs.Prelude.{Option, None, Some}
use Rattle.format.specs.Format.{format_of}
use Rattle.stream.specs.Streams.{list_size}
use Rattle.stream.specs.Box.{streams, captures}
use Rattle.stream.proofs.Validity.{valid-parts}
use Rattle.host.specs.declared.Host.{Host}
use Rattle.host.specs.Hosts.{queue_at}
use Rattle.registers.specs.Places.{fmt}
use Rattle.device.specs.declared.Hda.{Hda}
use Rattle.device.specs.Devices.{stream_at}
use Rattle.device.specs.Machines.{Machine}
use Rattle.device.proofs.Checks.{device-parts}
use Rattle.advance.specs.Advance.{advance_of}
use Rattle.calls.proofs.Devices.{Stands, part-size}
use Rattle.counts.specs.Counts.{frames_by, movable_by, movable_of, Pending, Copied}
use Rattle.counts.proofs.Agree.{agree_refl}
use Rattle.counts.proofs.Lists.{pending-refl}
use Rattle.counts.proofs.Advance.{advance-alike}
use Rattle.jitter.specs.Bounds.{switched_off, count_of, lowest_of, highest_of, Bounds}
use Rattle.jitter.proofs.Ranges.{least-bound, greatest-bound, least-reached, greatest-reached, least_first, greatest-first, least-next, greatest-next}

-- ---- every time between ends within the two counts, and both are reached
pub bounds : (x : Machine) (i shortest longest : ℕ) → shortest ≤ longest → Bounds x i shortest longest (lowest_of x i shortest longest) (highest_of x i shortest longest)
unfolding lowest_of highest_of
bounds x i shortest longest order =
    let f = count_of x i in
    let n = longest - shortest in
    record {
      within = λ t lo hi.
          let e : shortest + (t - shortest) ≡ t = omega arith in
          (rw e at (least-bound f shortest n (t - shortest) (omega arith)), rw e at (greatest-bound f shortest n (t - shortest) (omega arith)));
      lowest = let (k, few, e) = least-reached f shortest n in (shortest + k, omega arith, omega arith, e);
      highest = let (k, few, e) = greatest-reached f shortest n in (shortest + k, omega arith, omega arith, e);
    }

-- ---- frames to move rise with time, so that a run whose ends have as many has as many throughout
frames-rise : (fraction t u : ℕ) (f : Option ℕ) → t ≤ u → frames_by fraction t f ≤ frames_by fraction u f
frames-rise fraction t u None h = omega arith
frames-rise fraction t u (Some rate) h = omega (arith, accrue-whole rate t fraction, accrue-whole rate u fraction, mul-le-mul_right rate h)

rises : (capture : Bool) (queued n m : ℕ) → n ≤ m → movable_by capture queued n ≤ movable_by capture queued m
rises true queued n m h = h
rises false queued n m h = omega arith

pub movable-rises : (capture : Bool) (queued fraction t u : ℕ) (f : Option ℕ) → t ≤ u → movable_by capture queued (frames_by fraction t f) ≤ movable_by capture queued (frames_by fraction u f)
movable-rises capture queued fraction t u f h = rises capture queued (frames_by fraction t f) (frames_by fraction u f) (frames-rise fraction t u f h)

stream-rises : (d : Hda) (h : Host) (i t u : ℕ) → t ≤ u → movable_of d h i t ≤ movable_of d h i u
unfolding movable_of
stream-rises d h i t u less = movable-rises (captures i) (queue_at h i).length (stream_at d i).fraction t u (format_of (word_at 2 (fmt i) d.regs)) less

abbrev pub SameMovable : Machine → ℕ → ℕ → Type 0
SameMovable x t u = (i : ℕ) → i < streams → movable_of x.hda x.host i t ≡ movable_of x.hda x.host i u

-- a machine is a copy of itself
pub own-lists : (x : Machine) → Stands x → (i : ℕ) → i < streams → let l = part_of list_size i x.lists in Pending (stream_at x.hda i).pending l l
own-lists x s i few =
    let l = part_of list_size i x.lists in
    pending-refl (stream_at x.hda i).pending l (valid-parts (stream_at x.hda i) l ((device-parts x.hda x.lists s.holds.device).streams i few)).few (part-size x.lists s.lists i few)

module _ (x : Machine) (hosted : length x.host.queues ≡ streams) (s : Stands (switched_off x)) where
  -- one call of `advance` on a copy gives the count
  pub case : (y : Machine) → Stands y → Copied (switched_off x) y → (t i : ℕ) → (stream_at (advance_of t y).answer.hda i).submitted ≡ count_of x i t
  unfolding count_of
  case y s' c t i = sym (advance-alike (switched_off x) y t t hosted s s' c (λ j few. refl) i)

  -- and it gives the counts of the whole run
  flat : (i t u v : ℕ) → t ≤ u → u ≤ v → SameMovable (switched_off x) t v → count_of x i u ≡ count_of x i t
  unfolding count_of
  flat i t u v low high same =
      let y = switched_off x in
      sym (advance-alike y y t u hosted s s
      (record { hda = refl; host = refl; lists = own-lists y s; queues = λ j few. refl; memory = agree_refl _ _ })
      (λ j few. omega (arith, stream-rises y.hda y.host j t u low, stream-rises y.hda y.host j u v high, same j few)) i)

  -- the walk: its first run, and one run more
  pub walk_first : (i shortest end : ℕ) → shortest ≤ end → SameMovable (switched_off x) shortest end
      → (lowest_of x i shortest end ≡ count_of x i shortest) × (highest_of x i shortest end ≡ count_of x i shortest)
  unfolding lowest_of highest_of
  walk_first i shortest end order same =
      let run : (k : ℕ) → k ≤ end - shortest → count_of x i (shortest + k) ≡ count_of x i shortest = λ k h. flat i shortest (shortest + k) end (omega arith) (omega arith) same in
      (least_first (count_of x i) shortest (end - shortest) (count_of x i shortest) run, greatest-first (count_of x i) shortest (end - shortest) (count_of x i shortest) run)

  pub walk-next : (i shortest last end : ℕ) → shortest ≤ last → last < end → SameMovable (switched_off x) (last + 1) end
      → (lowest_of x i shortest end ≡ min (lowest_of x i shortest last) (count_of x i (last + 1))) × (highest_of x i shortest end ≡ max (highest_of x i shortest last) (count_of x i (last + 1)))
  unfolding lowest_of highest_of
  walk-next i shortest last end order more same =
      let f = count_of x i in
      let run : (k : ℕ) → last - shortest < k → k ≤ last - shortest + suc (end - (last + 1)) → f (shortest + k) ≡ f (last + 1) = λ k h l. flat i (last + 1) (shortest + k) end (omega arith) (omega arith) same in
      let e : last - shortest + suc (end - (last + 1)) ≡ end - shortest = omega arith in
      (rw e at (least-next f shortest (last - shortest) (end - (last + 1)) (f (last + 1)) run), rw e at (greatest-next f shortest (last - shortest) (end - (last + 1)) (f (last + 1)) run))

-- lists and queues beyond the streams' parts change no count
pub same-counts : (x y : Machine) → length x.host.queues ≡ streams → Stands (switched_off x) → Stands (switched_off y) → Copied (switched_off x) (switched_off y) → (i t : ℕ) → count_of x i t ≡ count_of y i t
unfolding count_of
same-counts x y hosted s s' c i t = advance-alike (switched_off x) (switched_off y) t t hosted s s' c (λ j few. refl) i
