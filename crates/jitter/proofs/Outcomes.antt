-- What the call comes to: each refusal in order, and the answer from the streams' own parts of the lent spaces. Assumes nothing.
use Prim.Native.Nat.{ℕ, zero, suc, ◌+◌, ◌-◌, ◌*◌, ◌≤◌, ◌<◌}
use mathlib.Core.Path.{◌≡◌, refl, sym, ap, ◌∙◌}
use mathlib.Core.Bool.{true, false, ◌||◌}
use mathlib.Core.List.{List}
use native.Mathlib.Omega.{arith}
use borrow.Author.Tests.{ne_eqb, lt-ltb, le-ltb, ltb-false}
use lib.Dec.{eqb, ltb}
use lib.ListN.{length, take, drop, get_or}
use lib.Seq.{length-take-le, take-take}
use Rattle.word.specs.Value.{Bytes}
use Rattle.word.specs.Place.{store_at}
use Rattle.word.specs.Parts.{part_of}
use Rattle.word.specs.Each.{always, each_of}
use Rattle.word.proofs.Choices.{neither}
use Rattle.word.proofs.Lists.{length_part, bytes_take, bytes_drop, drop-take}
use Rattle.stream.specs.Box.{streams}
use Rattle.stream.specs.Streams.{list_size}
use Rattle.queue.specs.Queues.{capacity}
use Rattle.host.specs.declared.Host.{Host}
use Rattle.host.specs.Hosts as hosts
use Rattle.registers.proofs.Files.{File}
use Rattle.device.specs.Devices.{stream_at}
use Rattle.device.specs.Machines as machines
use Rattle.device.specs.Machines.{Machine, machine, check_machine}
use Rattle.device.proofs.Checks.{room, passed}
use Rattle.record.specs.Loads.{device_at}
use Rattle.calls.proofs.Devices.{Stands, check-stands, stands-check}
use Rattle.counts.specs.Counts.{Pending, Copied}
use Rattle.counts.proofs.Agree.{agree_refl}
use Rattle.jitter.specs.declared.Spread.{Spread}
use Rattle.jitter.specs.Bounds.{without_switches, switched_off, count_of, lowest_of, highest_of}
use Rattle.jitter.specs.Calls.{Scratch, scratch, cleared_of, row_size, result_size, short_of, number_of, rows_of, result_of, bounding_of, bounded_of, bounds_of}
use Rattle.jitter.specs.Steps.{CaseNeeds, SpreadNeeds, SpreadOf}
use Rattle.jitter.proofs.Ranges.{least-same, greatest-same}
use Rattle.jitter.proofs.Walks.{own-lists, same-counts}
use Rattle.jitter.proofs.Scratch.{alike-stands}
use Rattle.jitter.proofs.Cases.{own-regs}

-- ---- the numbers in order
module _ (shortest longest : ℕ) (x : Machine) (s : Scratch) (into : List ℕ) where
  pub refused-check : (n : ℕ) → n ≡ check_machine x → (n ≡ 0 → ⊥) → bounding_of (bounded_of n x.hda 0) s into ≡ bounds_of shortest longest x s into
  unfolding bounds_of number_of
  refused-check n e some =
      let off : eqb (check_machine x) 0 ≡ false = ne_eqb (check_machine x) 0 (λ z. some (e ∙ z)) in
      rw (e, off) (rw off refl)

  pub refused-times : check_machine x ≡ 0 → longest < shortest → bounding_of (bounded_of 21 x.hda 0) s into ≡ bounds_of shortest longest x s into
  unfolding bounds_of number_of
  refused-times passes less = rw (passes, lt-ltb longest shortest less)

  pub refused-space : check_machine x ≡ 0 → shortest ≤ longest → short_of x s (length into) ≡ true → bounding_of (bounded_of 14 x.hda 0) s into ≡ bounds_of shortest longest x s into
  unfolding bounds_of number_of
  refused-space passes order short = rw (passes, le-ltb longest shortest order, short)

  pub accepted : check_machine x ≡ 0 → shortest ≤ longest → short_of x s (length into) ≡ false → (s' : Scratch) (into' : List ℕ) → s' ≡ cleared_of s → into' ≡ result_of x shortest longest into
      → bounding_of (bounded_of 0 x.hda result_size) s' into' ≡ bounds_of shortest longest x s into
  unfolding bounds_of number_of
  accepted passes order enough s' into' es ei = rw (passes, le-ltb longest shortest order, enough, es, ei)

-- space that is not short
pub enough : (x : Machine) (s : Scratch) (into : ℕ) → short_of x s into ≡ false
    → (list_size * streams ≤ length s.lists) × (capacity * streams ≤ length s.queues) × (length x.memory ≤ length s.memory) × (result_size ≤ into)
enough x s into e =
    let (spaces, others) = neither (machines.short_of (length s.lists) (length s.queues)) (ltb (length s.memory) (length x.memory) || ltb into result_size) e in
    let (guest, result) = neither (ltb (length s.memory) (length x.memory)) (ltb into result_size) others in
    let own = room (length s.lists) (length s.queues) spaces in
    (own.0, own.1, ltb-false (length s.memory) (length x.memory) guest, ltb-false into result_size result)

-- zeros go by lengths alone
pub cleared-same : (l q m l' q' m' : List ℕ) → length l ≡ length l' → length q ≡ length q' → length m ≡ length m' → cleared_of (scratch l q m) ≡ cleared_of (scratch l' q' m')
cleared-same l q m l' q' m' el eq em = rw (el, eq, em)

-- ---- the result's bytes
module _ (low high low' high' : ℕ → ℕ) (lows : (i : ℕ) → i < streams → low i ≡ low' i) (highs : (i : ℕ) → i < streams → high i ≡ high' i) where
  abbrev row : (ℕ → ℕ) → (ℕ → ℕ) → ℕ → List ℕ → List ℕ
  row f g i l = store_at 8 (row_size * i + 8) (g i) (store_at 8 (row_size * i) (f i) l)

  rows-from : (n i : ℕ) (l : List ℕ) → i + n ≡ streams → each_of always (row low high) n i l ≡ each_of always (row low' high') n i l
  unfolding each_of
  rows-from zero i l e = refl
  rows-from (suc n) i l e = rows-from n (i + 1) (row low high i l) (omega arith) ∙ ap (each_of always (row low' high') n (i + 1)) (rw (lows i (omega arith), highs i (omega arith)))

  rows_same : (l : List ℕ) → rows_of low high l ≡ rows_of low' high' l
  rows_same l = rows-from streams 0 l refl

pub result-put : (r : Spread) (x : Machine) (shortest longest : ℕ) (into : List ℕ) → SpreadOf r x shortest longest
    → rows_of (λ (i : ℕ). get_or r.lowest i 0) (λ (i : ℕ). get_or r.highest i 0) into ≡ result_of x shortest longest into
unfolding result_of
result-put r x shortest longest into s = rows_same _ _ _ _ s.lowest s.highest into

-- ---- the streams' own parts of the lent spaces
pub needs-long : (x : Machine) (b l q m : List ℕ) → SpreadNeeds x b l q m → (list_size * streams ≤ length x.lists) × (capacity * streams ≤ length x.queues)
needs-long x b l q m n = let p = passed x.hda x.host x.lists (length x.queues) n.passes in (p.lists, p.queues)

own-part : (size i n : ℕ) (l : List ℕ) → size * i + size ≤ n → part_of size i (take n l) ≡ part_of size i l
own-part size i n l h =
    let e : size * i + (n - size * i) ≡ n = omega arith in
    ap (take size) (rw e at (drop-take (size * i) (n - size * i) l)) ∙ take-take size (n - size * i) (drop (size * i) l) (omega arith)

off-valid : (h : Host) → hosts.valid_of h ≡ true → hosts.valid_of (without_switches h) ≡ true
unfolding hosts.valid_of
off-valid h v = v

module _ (device lists queues memory : List ℕ) (h : Host) (bytes : Bytes device) (hosted : length h.queues ≡ streams) (lists' queues' memory' : List ℕ)
    (needs : SpreadNeeds (machine (device_at device) h lists queues memory) device lists' queues' memory') where
  abbrev x : Machine
  x = machine (device_at device) h lists queues memory

  abbrev cut : Machine
  cut = machine (device_at device) (without_switches h) (take (list_size * streams) lists) (take (capacity * streams) queues) memory

  stands : Stands x
  stands =
      let file : File (device_at device).regs = rw (own-regs device) record { sized = length_part 256 262 device (omega (arith, needs.sized)); bytes = bytes_take 256 (drop 262 device) (bytes_drop 262 device bytes) } in
      check-stands x needs.passes file

  off : Stands (switched_off x)
  off = record { lists = stands.lists; queues = stands.queues; holds = record { file = stands.holds.file; device = stands.holds.device; host = off-valid h stands.holds.host } }

  lists-cut : (i : ℕ) → i < streams → Pending (stream_at x.hda i).pending (part_of list_size i lists) (part_of list_size i cut.lists)
  lists-cut i few = rw (own-part list_size i (list_size * streams) lists (omega arith)) (own-lists x stands i few)

  copied : Copied (switched_off x) (switched_off cut)
  copied =
      record {
        hda = refl;
        host = refl;
        lists = lists-cut;
        queues = λ i few. sym (own-part capacity i (capacity * streams) queues (omega arith));
        memory = agree_refl _ memory;
      }

  stands-cut : Stands cut
  stands-cut = alike-stands (switched_off x) cut.lists cut.queues memory off (omega (arith, length-take-le (list_size * streams) lists stands.lists)) (omega (arith, length-take-le (capacity * streams) queues stands.queues)) lists-cut

  pub case-needs : (l q m : List ℕ) → length l ≡ list_size * streams → length q ≡ capacity * streams → length m ≡ length memory → CaseNeeds cut device l q m
  case-needs l q m el eq em =
      record {
        sized = needs.sized;
        device = needs.device;
        passes = stands-check cut stands-cut;
        playback = refl;
        capture = refl;
        lists = el ∙ sym (length-take-le (list_size * streams) lists stands.lists);
        queues = eq ∙ sym (length-take-le (capacity * streams) queues stands.queues);
        memory = em;
      }

  pub spread-whole : (r : Spread) (shortest longest : ℕ) → SpreadOf r cut shortest longest → SpreadOf r x shortest longest
  unfolding lowest_of highest_of
  spread-whole r shortest longest s =
      let same : (i t : ℕ) → count_of cut i t ≡ count_of x i t = λ i t. sym (same-counts x cut hosted off stands-cut copied i t) in
      record {
        lowest = λ i few. s.lowest i few ∙ least-same (count_of cut i) (count_of x i) (same i) shortest _;
        highest = λ i few. s.highest i few ∙ greatest-same (count_of cut i) (count_of x i) (same i) shortest _;
      }
