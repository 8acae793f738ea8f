-- What types say of a device beyond its register file and the conditions of the check: each step that calls share keeps it, and so does a host end what types say of it. Assumes nothing.
use Prim.Native.Nat.{ℕ, zero, suc, ◌+◌, ◌*◌, ◌%◌, ◌^◌, ◌≤◌, ◌<◌}
use mathlib.Core.Path.{◌≡◌, refl, ap, ◌∙◌}
use mathlib.Core.Bool.{Bool, not, ◌&&◌, ◌||◌}
use mathlib.Core.List.{List}
use native.Mathlib.Omega.{arith}
use native.Mathlib.Nat.{zero-add}
use lib.Dec.{eqb, ltb}
use lib.ListN.{length, length-set}
use Rattle.word.specs.Value.{Bytes}
use Rattle.word.specs.Place.{word_at}
use Rattle.word.proofs.Choices.{by_cond, chosen}
use Rattle.word.proofs.Lists.{set_keeps, length_part}
use Rattle.word.proofs.Place.{word_bound}
use Rattle.word.proofs.Each.{each_keeps}
use Rattle.clock.specs.declared.Clock.{Clock}
use Rattle.clock.specs.Clock as clock
use Rattle.std.specs.Prelude.{Option, None, Some}
use Rattle.format.specs.Format.{format_of}
use Rattle.codec.specs.WellFormed.{WellFormed}
use Rattle.codec.proofs.WellFormed.{fresh-well-formed}
use Rattle.codec.proofs.Bytes.{load-well-formed}
use Rattle.stream.specs.declared.Stream.{Stream}
use Rattle.stream.specs.Streams as stream
use Rattle.stream.specs.Box.{streams}
use Rattle.queue.specs.Queues.{queue, closed}
use Rattle.host.specs.declared.Host.{Host}
use Rattle.host.specs.Hosts.{close_of}
use Rattle.registers.specs.Places.{size, gctl, ctl, fmt, rirbwp, icis, byte_at, has, dma_of}
use Rattle.rings.specs.Rings.{rings_of}
use Rattle.rings.proofs.Facts.{commands-well-formed, immediate-well-formed, commands-bytes, response-bytes, response-codec}
use Rattle.pci.proofs.Facts.{length-write, length-update-config}
use Rattle.bus.specs.Bus.{Front, front_of, byte_of}
use Rattle.bus.proofs.Facts.{bytes-keep}
use Rattle.turn.specs.Engines.{with_fraction, stopped_of}
use Rattle.turn.specs.Turns.{open_stream_of}
use Rattle.turn.specs.Failures.{Channel, channel_of, error_of}
use Rattle.control.specs.Channels.{reset_of, halted_of, started_by, started_of, settled_of}
use Rattle.device.specs.declared.Hda.{Hda}
use Rattle.device.specs.Devices as devices
use Rattle.device.specs.Devices.{stream_at, with_regs, with_stream}
use Rattle.device.specs.Machines.{answer_of, finish_of, Commanded, commanded_of}
use Rattle.settle.specs.declared.Ports.{Ports}
use Rattle.settle.specs.Settle.{ports, channel_at, with_channel, cleared_of, reset_at, reset_controller_of, settle_at, settle_of}
use Rattle.write.specs.Writes.{written_of, controlled_of, flushed_of, tail_of}
use Rattle.hda.specs.Calls.{configured, pin_control, unsolicited}
use Rattle.advance.specs.Advance.{ticked_of}
use Rattle.record.specs.Rows.{row_of}
use Rattle.record.specs.Typed.{Fits}
use Rattle.record.specs.Loads.{clock_at}
use Rattle.record.proofs.Places.{row_at}
use Rattle.parse.specs.States.{place_of}
use Rattle.restore.specs.Restores as restores
use Rattle.restore.specs.Restores.{stream_of, list_of, restored_stream, opens_of, later_of, restored_device, restored_host}
use Rattle.restore.proofs.Places.{fits-long, read-room}
use Rattle.restore.proofs.Streams.{kept-alike}
use Rattle.host_record.specs.Typed.{TypedHost}
use Rattle.lent_book.proofs.Turns.{Counts, with-queue-typed, open-stream-typed}

pub record Formed (d : Hda) : Type 0 where
  pub config : length d.config ≡ 256
  pub codec : WellFormed d.link.codec
  pub ticks : Fits 8 d.clock.ticks
  pub count : length d.streams ≡ streams
  pub each : (i : ℕ) → i < streams → Counts (stream_at d i)

pub record Shaped (x : Ports) : Type 0 where
  pub device : Formed x.hda
  pub host : TypedHost x.host

-- a stream made or reset, and one with another frame time
pub fresh-counts : Counts stream.fresh_of
unfolding stream.fresh_of
fresh-counts = record { offset = omega arith; submitted = omega arith }

timed-counts : (s : Stream) (fraction : ℕ) → Counts s → Counts (with_fraction s fraction)
timed-counts s fraction c = record { offset = c.offset; submitted = c.submitted }

-- other registers, and another stream
pub with-regs : (d : Hda) (regs : List ℕ) → Formed d → Formed (with_regs d regs)
with-regs d regs f = record { config = f.config; codec = f.codec; ticks = f.ticks; count = f.count; each = f.each }

pub with-stream : (d : Hda) (regs : List ℕ) (i : ℕ) (s : Stream) → Counts s → Formed d → Formed (with_stream (with_regs d regs) i s)
with-stream d regs i s c f =
    record {
      config = f.config;
      codec = f.codec;
      ticks = f.ticks;
      count = length-set d.streams i s ∙ f.count;
      each = λ j few. set_keeps Counts d.streams i j s stream.fresh_of c (f.each j few);
    }

-- ---- the steps that calls share
module _ (d : Hda) (f : Formed d) where
  pub commanded-formed : (m : List ℕ) → Formed (commanded_of d m).hda
  unfolding commanded_of
  commanded-formed m =
      record {
        config = f.config;
        codec = commands-well-formed (dma_of d.config d.regs) (rings_of d.regs d.link m) f.codec;
        ticks = f.ticks;
        count = f.count;
        each = f.each;
      }

  pub finish-formed : (number : ℕ) (h : Host) → Formed (finish_of number d h).hda
  unfolding finish_of answer_of
  finish-formed number h =
      record { config = length-update-config d.config d.regs d.asserted ∙ f.config; codec = f.codec; ticks = f.ticks; count = f.count; each = f.each }

  pub ticked-formed : (nanos : ℕ) → Formed (ticked_of nanos d)
  unfolding ticked_of clock.advance_of
  ticked-formed nanos = record { config = f.config; codec = f.codec; ticks = omega arith; count = f.count; each = f.each }

  pub configured-formed : (start : ℕ) (bytes : List ℕ) → Formed (configured d start bytes)
  configured-formed start bytes =
      record { config = length-write d.config start bytes ∙ f.config; codec = f.codec; ticks = f.ticks; count = f.count; each = f.each }

  pub paused-formed : (paused : Bool) → Formed (devices.with_paused d paused)
  paused-formed paused = record { config = f.config; codec = f.codec; ticks = f.ticks; count = f.count; each = f.each }

  pub unsolicited-formed : (m : List ℕ) (node : ℕ) → Formed (unsolicited d m node).hda
  unsolicited-formed m node =
      by_cond (λ (c : Commanded). Formed c.hda) (has 0x80 (pin_control d node)) _ _
      (λ _. record {
        config = f.config;
        codec = rw (response-codec (rings_of d.regs d.link m) (2 ^ 26 * (pin_control d node % 64)) 16) f.codec;
        ticks = f.ticks;
        count = f.count;
        each = f.each;
      })
      (λ _. f)

  abbrev Chip : Front → Type 0
  Chip x = WellFormed x.link.codec

  byte-chip : (x : Front) (a b : ℕ) → Chip x → Chip (byte_of x a b)
  unfolding byte_of
  byte-chip x a b w =
      chosen Chip (ltb a size)
      (chosen Chip (eqb a (rirbwp + 1)) (chosen Chip (has 0x80 b) w w) (chosen Chip (eqb a icis) (immediate-well-formed x.regs x.link.codec b w) w))
      w

  pub written-formed : (offset : ℕ) (bytes : List ℕ) → Formed (written_of d offset bytes)
  unfolding written_of
  written-formed offset bytes =
      record {
        config = f.config;
        codec = bytes-keep Chip byte-chip (front_of d.regs d.link) offset bytes f.codec;
        ticks = f.ticks;
        count = f.count;
        each = f.each;
      }

-- guest memory after commands and a pin's response
pub commanded-bytes : (d : Hda) (m : List ℕ) → Bytes m → Bytes (commanded_of d m).memory
unfolding commanded_of
commanded-bytes d m h = commands-bytes (rings_of d.regs d.link m) (dma_of d.config d.regs) h

pub unsolicited-bytes : (d : Hda) (m : List ℕ) (node : ℕ) → Bytes m → Bytes (unsolicited d m node).memory
unsolicited-bytes d m node h =
    by_cond (λ (c : Commanded). Bytes c.memory) (has 0x80 (pin_control d node)) _ _
    (λ _. response-bytes (rings_of d.regs d.link m) (2 ^ 26 * (pin_control d node % 64)) 16 h) (λ _. h)

-- ---- a step on one stream
record Whole (x : Channel) : Type 0 where
  stream : Counts x.attached.stream
  host : TypedHost x.attached.host

module _ (i : ℕ) where
  closed-typed : (h : Host) → TypedHost h → TypedHost (close_of h i)
  unfolding close_of
  closed-typed h t = with-queue-typed h i closed (omega arith) t

  reset-whole : (x : Channel) → Whole x → Whole (reset_of i x)
  unfolding reset_of
  reset-whole x w = record { stream = fresh-counts; host = closed-typed x.attached.host w.host }

  error-whole : (x : Channel) → Whole x → Whole (error_of i x)
  unfolding error_of stopped_of
  error-whole x w = record { stream = timed-counts x.attached.stream _ w.stream; host = with-queue-typed x.attached.host i closed (omega arith) w.host }

  halted-whole : (x : Channel) → Whole x → Whole (channel_of x.regs (halted_of i x.attached))
  unfolding halted_of
  halted-whole x w = record { stream = timed-counts x.attached.stream _ w.stream; host = closed-typed x.attached.host w.host }

  started-by : (microphone : Bool) (x : Channel) → Whole x → (f : Option ℕ) → Whole (started_by microphone i x f)
  started-by microphone x w None = error-whole x w
  started-by microphone x w (Some rate) =
      by_cond Whole (open_stream_of x.attached.host microphone i).ok _ _
      (λ _. record { stream = w.stream; host = open-stream-typed x.attached.host microphone i w.host }) (λ _. error-whole x w)

  started-whole : (microphone : Bool) (x : Channel) → Whole x → Whole (started_of microphone i x)
  unfolding started_of
  started-whole microphone x w = started-by microphone x w (format_of (word_at 2 (fmt i) x.regs))

  settled-whole : (before : ℕ) (microphone : Bool) (x : Channel) → Whole x → Whole (settled_of before microphone i x)
  unfolding settled_of
  settled-whole before microphone x w =
      let after = byte_at x.regs (ctl i) in
      let r = reset-whole x w in
      by_cond Whole (has 1 after) _ _ (λ _. record { stream = r.stream; host = r.host })
      (λ _. by_cond Whole (has 2 before && not (has 2 after)) _ _ (λ _. halted-whole x w)
      (λ _. by_cond Whole (not (has 2 before) && has 2 after) _ _ (λ _. started-whole microphone x w) (λ _. w)))

  with-channel : (x : Ports) (c : Channel) → Shaped x → Whole c → Shaped (with_channel x i c)
  with-channel x c s w = record { device = with-stream x.hda c.regs i c.attached.stream w.stream s.device; host = w.host }

  channel-whole : (x : Ports) → i < streams → Shaped x → Whole (channel_at x i)
  channel-whole x few s = record { stream = s.device.each i few; host = s.host }

-- ---- a write
module _ (x : Ports) (s : Shaped x) where
  settle-shaped : (old : List ℕ) → Shaped (settle_of old x)
  unfolding settle_of
  settle-shaped old =
      each_keeps Shaped (settle_at old) streams
      (λ i y few k. with-channel i y _ k (settled-whole i (byte_at old (ctl i)) y.hda.microphone (channel_at y i) (channel-whole i y few k))) streams 0 x (omega arith) s

  cleared-shaped : Shaped (ports (cleared_of x.hda) x.host)
  cleared-shaped =
      let f = s.device in
      record { device = record { config = f.config; codec = fresh-well-formed; ticks = omega arith; count = f.count; each = f.each }; host = s.host }

  reset-shaped : Shaped (reset_controller_of x)
  unfolding reset_controller_of
  reset-shaped =
      each_keeps Shaped reset_at streams (λ i y few k. with-channel i y _ k (reset-whole i (channel_at y i) (channel-whole i y few k))) streams 0 _ (omega arith) cleared-shaped

  controlled-shaped : (old : List ℕ) → Shaped (controlled_of old x)
  unfolding controlled_of
  controlled-shaped old =
      let before = has 1 (byte_at old gctl) in
      let after = has 1 (byte_at x.hda.regs gctl) in
      by_cond Shaped (before && not after) _ _ (λ _. reset-shaped)
      (λ _. by_cond Shaped (not before && after) _ _ (λ _. record { device = with-regs x.hda _ s.device; host = s.host }) (λ _. s))

  flushed-shaped : Shaped (flushed_of x)
  unfolding flushed_of
  flushed-shaped = record { device = with-regs x.hda _ s.device; host = s.host }

pub tail-shaped : (old : List ℕ) (x : Ports) → Shaped x → Shaped (tail_of old x)
unfolding tail_of
tail-shaped old x s =
    let c = controlled-shaped x s old in
    settle-shaped (flushed_of (controlled_of old x)) (flushed-shaped (controlled_of old x) c) old

-- ---- restore
length-row : {A : Type 0} (f : ℕ → A) (n i : ℕ) → length (row_of f n i) ≡ n
unfolding row_of
length-row f zero i = refl
length-row f (suc n) i = ap suc (length-row f n (i + 1))

module _ (s : List ℕ) (typed : Bytes s) (fits : restores.Fits s) where
  long : 680 ≤ length s
  long = fits-long s fits

  stream-counts : (i : ℕ) → i < streams → Counts (stream_of s i)
  stream-counts i few =
      let at = place_of s i in
      let room = read-room s i at (stream_of s i) refl refl fits few in
      record { offset = word_bound 4 (at + 2) s (omega (arith, room)) typed; submitted = word_bound 8 (at + 6) s (omega (arith, room)) typed }

  -- and as it is put in force
  kept-counts : (strict : Bool) (i : ℕ) → i < streams → Counts (restored_stream strict s i)
  kept-counts strict i few =
      let k = kept-alike strict (stream_of s i) (list_of s i) in
      let c = stream-counts i few in
      record { offset = rw k.offset c.offset; submitted = rw k.submitted c.submitted }

  later-fits : (c : Clock) → Fits 8 c.ticks → Fits 8 (later_of c (clock_at s)).ticks
  unfolding later_of
  later-fits c t =
      let o = clock_at s in
      by_cond (λ (o : Clock). Fits 8 o.ticks) (ltb c.ticks o.ticks || (eqb c.ticks o.ticks && ltb c.fraction o.fraction)) o c
      (λ _. word_bound 8 662 s (omega (arith, long)) typed) (λ _. t)

  pub restored-formed : (strict : Bool) (d : Hda) → Formed d → Formed (restored_device strict s d)
  unfolding restored_device
  restored-formed strict d f =
      record {
        config = length_part 256 6 s (omega (arith, long));
        codec = load-well-formed 518 s (omega (arith, long)) typed;
        ticks = later-fits d.clock f.ticks;
        count = length-row (restored_stream strict s) streams 0;
        each = λ i few. rw (row_at stream.fresh_of (restored_stream strict s) streams 0 i few, zero-add i) (kept-counts strict i few);
      }

pub restored-typed : (s : List ℕ) (microphone : Bool) (h : Host) → TypedHost h → TypedHost (restored_host s microphone h)
restored-typed s microphone h t =
    record {
      downstream = t.downstream;
      count = length-row (λ (k : ℕ). queue (opens_of s microphone k) 0) streams 0;
      lengths = λ i few. rw (row_at closed (λ (k : ℕ). queue (opens_of s microphone k) 0) streams 0 i few) (omega arith);
    }
