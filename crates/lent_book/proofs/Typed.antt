-- Every call on a typed machine leaves a typed one: what types say beyond the check is kept by every call, and the check gives the rest. Assumes nothing.
use Prim.Native.Nat.{ℕ, ◌+◌, ◌*◌, ◌^◌, ◌<◌}
use mathlib.Core.Path.{◌≡◌, refl}
use mathlib.Core.Bool.{Bool, true, false, not, ◌||◌}
use mathlib.Core.List.{List}
use native.Mathlib.Omega.{arith}
use borrow.Author.Tests.{eqb-true, leb-true}
use lib.Dec.{eqb, leb, ltb}
use lib.ListN.{length, take, drop}
use Rattle.word.specs.Value.{Bytes}
use Rattle.word.specs.Parts.{part_of, with_part}
use Rattle.word.proofs.Choices.{by-test, by_cond, left}
use Rattle.word.proofs.Lists.{bytes_take, bytes_drop, bytes-append}
use Rattle.word.proofs.Each.{each-keeps-until}
use Rattle.stream.specs.declared.Stream.{Stream}
use Rattle.stream.specs.Streams.{list_size, valid_of}
use Rattle.stream.specs.Box.{streams}
use Rattle.stream.proofs.Validity.{valid-parts}
use Rattle.queue.specs.Queues.{capacity, put_of, take_of, take_into_of}
use Rattle.host.specs.declared.Host.{Host}
use Rattle.host.specs.Hosts as hosts
use Rattle.host.specs.Hosts.{queue_at, valid_downstream}
use Rattle.driver.specs.Calls.{Set, capture_stream, playback_stream, frame_check_of, Feed, feed_of, Pull, pull_of, playback_fails_of, capture_fails_of, downstream_of}
use Rattle.registers.specs.Places.{gctl, byte_at, has, dma_of}
use Rattle.turn.specs.Turns.{turn_of}
use Rattle.device.specs.declared.Hda.{Hda}
use Rattle.device.specs.Devices as devices
use Rattle.device.specs.Devices.{stream_at}
use Rattle.device.specs.Machines.{Machine, machine, check_of, check_machine, answer_of, Done, unchanged, checked, finish_of, finished, Commanded, with_commanded, commanded_of}
use Rattle.device.proofs.Checks.{device-parts, passed}
use Rattle.settle.specs.declared.Ports.{Ports}
use Rattle.settle.specs.Settle.{ports}
use Rattle.write.specs.Writes.{written_of, tailed_of, write_step, write_of}
use Rattle.hda.specs.Calls.{bar_write_of, configured, config_write_step, config_write_of, unsolicited, listens, pin_step, pin_of, pause_of}
use Rattle.serve.specs.Serve.{runs, Turns, turns_of, taken_of, turn_at, goes_on, serve_of}
use Rattle.advance.specs.Advance.{ticked_of, number_of, after_commands, advance_step, advance_of}
use Rattle.restore.specs.Restores as restores
use Rattle.restore.specs.Restores.{Restored, accepted_of, restore_step, restore_of}
use Rattle.restore.proofs.Outcomes.{taken-fits}
use Rattle.restore.proofs.Theorems.{number-taken}
use Rattle.record.specs.Typed.{Fits, TypedStream, TypedDevice}
use Rattle.host_record.specs.Typed.{TypedHost}
use Rattle.calls.specs.Calls as calls
use Rattle.calls.specs.Calls.{Call, after}
use Rattle.calls.proofs.Validity.{after-valid}
use Rattle.lent_book.specs.Typed.{TypedMachine}
use Rattle.lent_book.proofs.Turns.{Counts, with-queue-typed, put-fits, take-fits, put-bytes, take-bytes, bytes-part, turn-turned}
use Rattle.lent_book.proofs.Devices.{Formed, Shaped, with-stream, commanded-formed, finish-formed, ticked-formed, configured-formed, paused-formed, unsolicited-formed, written-formed, commanded-bytes, unsolicited-bytes, tail-shaped, restored-formed, restored-typed}

-- a machine beyond its check
pub record Kept (x : Machine) : Type 0 where
  pub device : Formed x.hda
  pub host : TypedHost x.host
  pub queues : Bytes x.queues
  pub memory : Bytes x.memory

abbrev Leaves : Done → Type 0
Leaves r = Kept (machine r.answer.hda r.answer.host r.lists r.queues r.memory)

module _ (x : Machine) (k : Kept x) where
  unchanged-leaves : (number : ℕ) → Leaves (unchanged number x)
  unfolding answer_of
  unchanged-leaves number = record { device = k.device; host = k.host; queues = k.queues; memory = k.memory }

  finished-leaves : (number : ℕ) → Leaves (finished number x)
  unfolding finish_of answer_of
  finished-leaves number = record { device = finish-formed x.hda k.device number x.host; host = k.host; queues = k.queues; memory = k.memory }

  checked-leaves : (call : Machine → Done) → Leaves (call x) → Leaves (checked call x)
  checked-leaves call h = by_cond Leaves (eqb (check_machine x) 0) (call x) (unchanged (check_machine x) x) (λ _. h) (λ _. unchanged-leaves (check_machine x))

-- with another device, which the commands' or a pin's response leaves, and other memory
commanded-kept : (x : Machine) → Kept x → (h : Host) (c : Commanded) → Formed c.hda → TypedHost h → Bytes c.memory → Kept (with_commanded x h c)
commanded-kept x k h c f t m = record { device = f; host = t; queues = k.queues; memory = m }

tailed-leaves : (x : Machine) → Kept x → (p : Ports) → Shaped p → Leaves (tailed_of x p)
tailed-leaves x k p s =
    let c = commanded_of p.hda x.memory in
    finished-leaves (with_commanded x p.host c)
    (commanded-kept x k p.host c (commanded-formed p.hda s.device x.memory) s.host (commanded-bytes p.hda x.memory k.memory)) 0

-- ---- advance
with-part-bytes : (n i : ℕ) (l part : List ℕ) → Bytes l → Bytes part → Bytes (with_part n i l part)
with-part-bytes n i l part h b =
    bytes-append (take (n * i) l) _ (bytes_take (n * i) l h) (bytes-append part _ b (bytes_drop n (drop (n * i) l) (bytes_drop (n * i) l h)))

module _ (nanos : ℕ) where
  abbrev Served : Turns → Type 0
  Served w = Kept w.machine

  turn-kept : (i : ℕ) (w : Turns) → i < streams → Served w → Served (turn_at nanos i w)
  unfolding turn_at
  turn-kept i w few k =
      let x = w.machine in
      let d = x.hda in
      let l = part_of list_size i x.lists in
      let q = part_of capacity i x.queues in
      let t = turn_of d.regs d.link.codec x.host d.microphone i nanos capacity (stream_at d i) l q x.memory in
      let z = turn-turned d.regs d.link.codec x.host d.microphone i nanos capacity (stream_at d i) l q x.memory few k.host (k.device.each i few)
      (bytes-part capacity (capacity * i) x.queues k.queues) k.memory in
      by_cond Served (runs d.regs i) (taken_of i x t) w
      (λ _. record {
        device = with-stream d t.regs i t.turned.stream z.counts k.device;
        host = z.host;
        queues = with-part-bytes capacity i x.queues t.part k.queues z.part;
        memory = z.memory;
      })
      (λ _. k)

  serve-kept : (x : Machine) → Kept x → Served (serve_of nanos x)
  unfolding serve_of
  serve-kept x k = each-keeps-until Served goes_on (turn_at nanos) streams turn-kept streams 0 (turns_of false x) (omega arith) k

  after-leaves : (x : Machine) → Kept x → Leaves (after_commands nanos x)
  unfolding after_commands
  after-leaves x k =
      let w = serve_of nanos x in
      by_cond Leaves (dma_of x.hda.config x.hda.regs) _ _ (λ _. finished-leaves w.machine (serve-kept x k) (number_of w.refused)) (λ _. finished-leaves x k 0)

  advance-leaves : (x : Machine) → Kept x → Leaves (advance_of nanos x)
  unfolding advance_of advance_step
  advance-leaves x k =
      let d = ticked_of nanos x.hda in
      let c = commanded_of d x.memory in
      checked-leaves x k (advance_step nanos)
      (by_cond Leaves (x.hda.paused || not (has 1 (byte_at x.hda.regs gctl))) _ _ (λ _. unchanged-leaves x k 0)
      (λ _. after-leaves (with_commanded x x.host c)
      (commanded-kept x k x.host c (commanded-formed d (ticked-formed x.hda k.device nanos) x.memory) k.host (commanded-bytes d x.memory k.memory))))

-- ---- the other calls on a device
module _ (x : Machine) (k : Kept x) where
  write-leaves : (offset : ℕ) (bytes : List ℕ) → Leaves (write_of offset bytes x)
  unfolding write_of write_step
  write-leaves offset bytes =
      checked-leaves x k (write_step offset bytes)
      (tailed-leaves x k _ (tail-shaped x.hda.regs (ports (written_of x.hda offset bytes) x.host) (record { device = written-formed x.hda k.device offset bytes; host = k.host })))

  bar-write-leaves : (bar offset : ℕ) (bytes : List ℕ) → Leaves (bar_write_of bar offset bytes x)
  unfolding bar_write_of
  bar-write-leaves bar offset bytes = by_cond Leaves (eqb bar 0) _ _ (λ _. write-leaves offset bytes) (λ _. checked-leaves x k (unchanged 0) (unchanged-leaves x k 0))

  config-leaves : (register offset : ℕ) (bytes : List ℕ) → Leaves (config_write_of register offset bytes x)
  unfolding config_write_of config_write_step
  config-leaves register offset bytes =
      let start = 4 * register + offset in
      checked-leaves x k (config_write_step register offset bytes)
      (by_cond Leaves (ltb start (2 ^ 64)) _ _
      (λ _. tailed-leaves x k (ports (configured x.hda start bytes) x.host) (record { device = configured-formed x.hda k.device start bytes; host = k.host }))
      (λ _. unchanged-leaves x k 0))

  pin-leaves : (node : ℕ) → Leaves (pin_of node x)
  unfolding pin_of pin_step
  pin-leaves node =
      let c = unsolicited x.hda x.memory node in
      checked-leaves x k (pin_step node)
      (by_cond Leaves (listens x.hda node) _ _
      (λ _. finished-leaves (with_commanded x x.host c)
      (commanded-kept x k x.host c (unsolicited-formed x.hda k.device x.memory node) k.host (unsolicited-bytes x.hda x.memory node k.memory)) 0)
      (λ _. unchanged-leaves x k 0))

  pause-formed : (paused : Bool) → Formed (pause_of paused x.hda x.host x.lists (length x.queues)).hda
  unfolding pause_of answer_of
  pause-formed paused = by_cond Formed (eqb (check_machine x) 0) _ _ (λ _. paused-formed x.hda k.device paused) (λ _. k.device)

  restore-kept : (strict : Bool) (s : List ℕ) → Bytes s → Kept (calls.with_restored x (restore_of strict s x.hda x.host x.lists (length x.queues)))
  unfolding restore_of restore_step answer_of finish_of
  restore-kept strict s typed =
      let d = x.hda in
      let h = x.host in
      let P : Restored → Type 0 = λ r. Kept (calls.with_restored x r) in
      by_cond P (eqb (check_machine x) 0) _ _
      (λ _. by_cond P (eqb (restores.number_of strict s d h) 0) (accepted_of strict s d h x.lists) _
      (λ z.
      let fits = taken-fits strict s d.microphone d.config (number-taken strict s d h (eqb-true (restores.number_of strict s d h) 0 z)) in
      record {
        device = finish-formed (restores.restored_device strict s d) (restored-formed s typed fits strict d k.device) 0 (restores.restored_host s d.microphone h);
        host = restored-typed s d.microphone h k.host;
        queues = k.queues;
        memory = k.memory;
      })
      (λ _. record { device = k.device; host = k.host; queues = k.queues; memory = k.memory }))
      (λ _. record { device = k.device; host = k.host; queues = k.queues; memory = k.memory })

-- ---- the host end's calls
module _ (h : Host) (t : TypedHost h) where
  feed-typed : (space frames : List ℕ) → Bytes space → Bytes frames → let f = feed_of h space frames in TypedHost f.fed.host × Bytes f.space
  unfolding feed_of
  feed-typed space frames b typed =
      let q = queue_at h capture_stream in
      let part = part_of capacity capture_stream space in
      let P : Feed → Type 0 = λ f. TypedHost f.fed.host × Bytes f.space in
      by_cond P (eqb (frame_check_of h (length space) (length frames)) 0) _ _
      (λ _. (
        with-queue-typed h capture_stream _ (put-fits q part frames (length frames) (t.lengths capture_stream (omega arith))) t,
        with-part-bytes capacity capture_stream space (put_of q part frames (length frames)).part b (put-bytes q part frames (length frames) (bytes-part capacity (capacity * capture_stream) space b) typed),
      ))
      (λ _. (t, b))

  pull-typed : (space into : List ℕ) → Bytes space → let f = pull_of h space into in TypedHost f.fed.host × Bytes f.space
  unfolding pull_of take_into_of
  pull-typed space into b =
      let q = queue_at h playback_stream in
      let part = part_of capacity playback_stream space in
      let P : Pull → Type 0 = λ f. TypedHost f.fed.host × Bytes f.space in
      by_cond P (eqb (frame_check_of h (length space) (length into)) 0) _ _
      (λ _. (
        with-queue-typed h playback_stream _ (take-fits q part (length into) (t.lengths playback_stream (omega arith))) t,
        with-part-bytes capacity playback_stream space (take_of q part (length into)).part b (take-bytes q part (length into) (bytes-part capacity (capacity * playback_stream) space b)),
      ))
      (λ _. (t, b))

  set_typed : (playback capture : Bool) (downstream : ℕ) → Fits 4 downstream → TypedHost (hosts.host playback capture downstream h.queues)
  set_typed playback capture downstream f = record { downstream = f; count = t.count; lengths = t.lengths }

  module _ (space : ℕ) where
    abbrev P : Set → Type 0
    P s = TypedHost s.host

    playback-typed : (fails : Bool) → P (playback_fails_of h space fails)
    unfolding playback_fails_of
    playback-typed fails = by_cond P (eqb (hosts.check_of h space) 0) _ _ (λ _. set_typed fails h.capture h.downstream t.downstream) (λ _. t)

    capture-typed : (fails : Bool) → P (capture_fails_of h space fails)
    unfolding capture_fails_of
    capture-typed fails = by_cond P (eqb (hosts.check_of h space) 0) _ _ (λ _. set_typed h.playback fails h.downstream t.downstream) (λ _. t)

    downstream-typed : (n : ℕ) → P (downstream_of h space n)
    unfolding downstream_of
    downstream-typed n =
        by_cond P (eqb (hosts.check_of h space) 0) _ _
        (λ _. by_cond P (valid_downstream n) _ _
        (λ e. let few = leb-true n 14336 (left (leb n 14336) _ e) in set_typed h.playback h.capture n (omega (arith, few))) (λ _. t))
        (λ _. t)

-- ---- every call
with-host : (x : Machine) → Kept x → (h : Host) (queues : List ℕ) → TypedHost h → Bytes queues → Kept (calls.with_host x h queues)
with-host x k h queues t b = record { device = k.device; host = t; queues = b; memory = k.memory }

after_kept : (c : Call) → calls.Typed c → (x : Machine) → Kept x → Kept (after c x)
unfolding after
after_kept (calls.advance nanos) t x k = advance-leaves nanos x k
after_kept (calls.read offset into) t x k = k
after_kept (calls.write offset bytes) t x k = write-leaves x k offset bytes
after_kept (calls.bar_read bar offset into) t x k = k
after_kept (calls.bar_write bar offset bytes) t x k = bar-write-leaves x k bar offset bytes
after_kept (calls.config_read register) t x k = k
after_kept (calls.config_write register offset bytes) t x k = config-leaves x k register offset bytes
after_kept (calls.pin_change node) t x k = pin-leaves x k node
after_kept (calls.pause paused) t x k = record { device = pause-formed x k paused; host = k.host; queues = k.queues; memory = k.memory }
after_kept (calls.feed frames) t x k = let f = feed-typed x.host k.host x.queues frames k.queues t in with-host x k _ _ f.0 f.1
after_kept (calls.pull into) t x k = let f = pull-typed x.host k.host x.queues into k.queues in with-host x k _ _ f.0 f.1
after_kept (calls.playback_fails fails) t x k = with-host x k _ x.queues (playback-typed x.host k.host (length x.queues) fails) k.queues
after_kept (calls.capture_fails fails) t x k = with-host x k _ x.queues (capture-typed x.host k.host (length x.queues) fails) k.queues
after_kept (calls.downstream n) t x k = with-host x k _ x.queues (downstream-typed x.host k.host (length x.queues) n) k.queues
after_kept (calls.save into) t x k = k
after_kept (calls.restore strict state) t x k = restore-kept x k strict state t
after_kept (calls.advance_bounds shortest longest lists queues memory into) t x k = k

-- a device that passes the check has the other widths too
stream-typed : (s : Stream) (l : List ℕ) → valid_of s l ≡ true → Counts s → TypedStream s
stream-typed s l valid c =
    let v = valid-parts s l valid in
    record {
      descriptor = omega (arith, v.listed);
      offset = c.offset;
      submitted = c.submitted;
      consumed = omega (arith, v.heard, c.submitted);
      fraction = omega (arith, v.time);
      pending = omega (arith, v.few);
    }

device-typed : (d : Hda) (l : List ℕ) → devices.valid_of d l ≡ true → length d.regs ≡ 256 → Formed d → TypedDevice d
device-typed d l valid sized f =
    let v = device-parts d l valid in
    record {
      sized = record { config = f.config; regs = sized; codec = f.codec };
      ticks = f.ticks;
      fraction = omega (arith, v.time);
      responses = omega (arith, v.responses);
      count = f.count;
      each = λ i few. stream-typed (stream_at d i) (part_of list_size i l) (v.streams i few) (f.each i few);
    }

-- a call that its check refuses leaves the device
module _ (x : Machine) (e : eqb (check_machine x) 0 ≡ false) where
  abbrev Same : Hda → Type 0
  Same d = d ≡ x.hda

  checked-same : (call : Machine → Done) → Same (checked call x).answer.hda
  unfolding answer_of
  checked-same call = rw e

  refused-same : (c : Call) → Same (after c x).hda
  unfolding after advance_of write_of bar_write_of config_write_of pin_of pause_of restore_of answer_of
  refused-same (calls.advance nanos) = checked-same (advance_step nanos)
  refused-same (calls.read offset into) = refl
  refused-same (calls.write offset bytes) = checked-same (write_step offset bytes)
  refused-same (calls.bar_read bar offset into) = refl
  refused-same (calls.bar_write bar offset bytes) =
      by_cond (λ (r : Done). Same r.answer.hda) (eqb bar 0) _ _ (λ _. checked-same (write_step offset bytes)) (λ _. checked-same (unchanged 0))
  refused-same (calls.config_read register) = refl
  refused-same (calls.config_write register offset bytes) = checked-same (config_write_step register offset bytes)
  refused-same (calls.pin_change node) = checked-same (pin_step node)
  refused-same (calls.pause paused) = rw e
  refused-same (calls.feed frames) = refl
  refused-same (calls.pull into) = refl
  refused-same (calls.playback_fails fails) = refl
  refused-same (calls.capture_fails fails) = refl
  refused-same (calls.downstream n) = refl
  refused-same (calls.save into) = refl
  refused-same (calls.restore strict state) = rw e
  refused-same (calls.advance_bounds shortest longest lists queues memory into) = refl

kept : (x : Machine) → TypedMachine x → Kept x
kept x t =
    let d = t.device in
    record {
      device = record {
        config = d.sized.config;
        codec = d.sized.codec;
        ticks = d.ticks;
        count = d.count;
        each = λ i few. record { offset = (d.each i few).offset; submitted = (d.each i few).submitted };
      };
      host = t.host;
      queues = t.queues;
      memory = t.memory;
    }

pub after-typed : (c : Call) → calls.Typed c → (x : Machine) → TypedMachine x → TypedMachine (after c x)
after-typed c typed x t =
    let k = after_kept c typed x (kept x t) in
    let y = after c x in
    let D : Hda → Type 0 = λ d. TypedDevice d × Bytes d.regs in
    let whole : D y.hda =
    by-test (eqb (check_machine x) 0)
    (λ e.
    let v = after-valid c typed x (record { passes = eqb-true (check_machine x) 0 e; sized = t.device.sized.regs; bytes = t.regs }) in
    (device-typed y.hda y.lists (passed y.hda y.host y.lists (length y.queues) v.passes).device v.sized k.device, v.bytes))
    (λ e. let same = refused-same x e c in (rw same t.device, rw same t.regs)) in
    record { device = whole.0; regs = whole.1; host = k.host; queues = k.queues; memory = k.memory }

-- a call that its check refuses leaves the lists
refused-lists : (x : Machine) → eqb (check_machine x) 0 ≡ false → (c : Call) → (after c x).lists ≡ x.lists
unfolding after advance_of write_of bar_write_of config_write_of pin_of restore_of
refused-lists x e (calls.advance nanos) = rw e
refused-lists x e (calls.read offset into) = refl
refused-lists x e (calls.write offset bytes) = rw e
refused-lists x e (calls.bar_read bar offset into) = refl
refused-lists x e (calls.bar_write bar offset bytes) = by_cond (λ (r : Done). r.lists ≡ x.lists) (eqb bar 0) _ _ (λ _. rw e) (λ _. rw e)
refused-lists x e (calls.config_read register) = refl
refused-lists x e (calls.config_write register offset bytes) = rw e
refused-lists x e (calls.pin_change node) = rw e
refused-lists x e (calls.pause paused) = refl
refused-lists x e (calls.feed frames) = refl
refused-lists x e (calls.pull into) = refl
refused-lists x e (calls.playback_fails fails) = refl
refused-lists x e (calls.capture_fails fails) = refl
refused-lists x e (calls.downstream n) = refl
refused-lists x e (calls.save into) = refl
refused-lists x e (calls.restore strict state) = rw e
refused-lists x e (calls.advance_bounds shortest longest lists queues memory into) = refl

-- a valid device stays valid, whatever the host end and the queues are
pub after-sound : (c : Call) → calls.Typed c → (x : Machine) → TypedMachine x → devices.valid_of x.hda x.lists ≡ true
    → devices.valid_of (after c x).hda (after c x).lists ≡ true
after-sound c typed x t valid =
    let y = after c x in
    by-test (eqb (check_machine x) 0)
    (λ e.
    let v = after-valid c typed x (record { passes = eqb-true (check_machine x) 0 e; sized = t.device.sized.regs; bytes = t.regs }) in
    (passed y.hda y.host y.lists (length y.queues) v.passes).device)
    (λ e. rw (refused-same x e c, refused-lists x e c) valid)
