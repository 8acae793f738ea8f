-- Parts of a device put over those in its record give the record of the device with these parts. Assumes nothing.
use Prim.Native.Nat.{ℕ, ◌+◌, ◌*◌, ◌≤◌, ◌<◌}
use mathlib.Core.Path.{◌≡◌, refl, sym, ap, ◌∙◌}
use mathlib.Core.Bool.{Bool, true}
use mathlib.Core.List.{List, [], ◌∷◌, ◌++◌, append_assoc}
use native.Mathlib.Omega.{arith}
use lib.ListN.{length, drop, take, get_or, set, length-append, length-drop, length-set}
use lib.Seq.{take_at, drop_at, length-take-le, get_or-set_same, get_or-set_other}
use Rattle.word.specs.Value.{bytes_of, Bytes}
use Rattle.word.specs.Place.{put_at, store_at}
use Rattle.word.proofs.Value.{length-bytes}
use Rattle.word.proofs.Lists.{set_keeps}
use Rattle.word.proofs.Puts.{set-put, put-lent}
use Rattle.word.proofs.Place.{store-put, word_bound}
use Rattle.clock.specs.declared.Clock.{Clock}
use Rattle.codec.specs.declared.Codec.{Codec}
use Rattle.codec.specs.WellFormed.{WellFormed}
use Rattle.codec.specs.Bytes.{records_of, store_codec_at}
use Rattle.codec.proofs.Bytes.{length-records, load-well-formed}
use Rattle.stream.specs.declared.Stream.{Stream}
use Rattle.stream.specs.Streams.{fresh_of}
use Rattle.stream.specs.Box.{streams}
use Rattle.rings.specs.declared.Link.{Link}
use Rattle.rings.specs.Rings.{link_of}
use Rattle.device.specs.declared.Hda.{Hda}
use Rattle.device.specs.Devices.{hda, with_config, with_regs, with_link, with_stream, with_clock, with_asserted}
use Rattle.record.specs.Layout.{latch_place, device_size}
use Rattle.record.specs.Rows.{row_of}
use Rattle.record.specs.Devices.{mark, flag, head_of, numbers_of, streams_bytes, device_bytes}
use Rattle.record.specs.Loads.{block_at, stream_at, device_at, is_device, Holds}
use Rattle.record.specs.Typed.{Fits, Sized, TypedStream, TypedDevice}
use Rattle.record.proofs.Sizes.{length-head, length-numbers, length-streams, length-device}
use Rattle.record.proofs.Rows.{runs-but}
use Rattle.record.proofs.Theorems.{tail_of, times_of, regrouped, device-stored, device-record, record-sized, file-sized, stream-loaded, device-loaded}

-- a run put over one of its length
over : (at : ℕ) (new l front old rest : List ℕ) → l ≡ front ++ (old ++ rest) → length front ≡ at → length new ≡ length old → put_at at new l ≡ front ++ (new ++ rest)
unfolding put_at
over at new l front old rest e p n =
    let both : length (front ++ old) ≡ at + length new = omega (arith, length-append front old, p, n) in
    let first : take at l ≡ front = ap (take at) e ∙ take_at front (old ++ rest) at p in
    let last : drop (at + length new) l ≡ rest =
    ap (drop (at + length new)) (e ∙ sym (append_assoc front old rest)) ∙ drop_at (front ++ old) rest (at + length new) both in
    rw (first, last)

grouped : (h front x rest l : List ℕ) → h ++ ((front ++ (x ++ rest)) ++ l) ≡ (h ++ front) ++ (x ++ (rest ++ l))
grouped h front x rest l = simp append_assoc

-- what stands before the files
abbrev flags_of : Hda → List ℕ
flags_of d = mark ++ (flag d.microphone ∷ flag d.paused ∷ [])

-- what stands before the clock, from the files on
abbrev lines_of : Hda → List ℕ
lines_of d = d.config ++ (d.regs ++ records_of d.link.codec)

abbrev clock_of : ℕ → ℕ → Clock
clock_of ticks fraction = record { ticks = ticks; fraction = fraction }

-- what stands before the responses, from the files on
abbrev frames_of : Hda → List ℕ
frames_of d = d.config ++ (d.regs ++ (records_of d.link.codec ++ (bytes_of 8 d.clock.ticks ++ bytes_of 8 d.clock.fraction)))

module _ (d : Hda) (z : Sized d) where
  put-config : (config : List ℕ) → length config ≡ 256 → put_at 6 config (device_bytes d) ≡ device_bytes (with_config d config)
  put-config config e =
      over 6 config (device_bytes d) (flags_of d) d.config _ (regrouped d) refl (e ∙ sym z.config) ∙ sym (regrouped (with_config d config))

  put-regs : (regs : List ℕ) → length regs ≡ 256 → put_at 262 regs (device_bytes d) ≡ device_bytes (with_regs d regs)
  put-regs regs e =
      over 262 regs (device_bytes d) (flags_of d ++ d.config) d.regs (records_of d.link.codec ++ times_of d) (regrouped d)
      (length-append (flags_of d) d.config ∙ omega (arith, z.config)) (e ∙ sym z.regs)
      ∙ sym (regrouped (with_regs d regs))

  put-codec : (codec : Codec) → WellFormed codec → put_at 518 (records_of codec) (device_bytes d) ≡ device_bytes (with_link d (link_of codec d.link.responses))
  put-codec codec w =
      over 518 (records_of codec) (device_bytes d) (flags_of d ++ (d.config ++ d.regs)) (records_of d.link.codec) (times_of d)
      (regrouped d ∙ simp append_assoc)
      (length-append (flags_of d) (d.config ++ d.regs) ∙ omega (arith, length-append d.config d.regs, z.config, z.regs))
      (length-records codec w ∙ sym (length-records d.link.codec z.codec))
      ∙ sym (regrouped (with_link d (link_of codec d.link.responses)) ∙ simp append_assoc)

  put-responses : (n : ℕ) → store_at 2 678 n (device_bytes d) ≡ device_bytes (with_link d (link_of d.link.codec n))
  put-responses n =
      let clock : List ℕ = bytes_of 8 d.clock.ticks ++ bytes_of 8 d.clock.fraction in
      let codec : List ℕ = records_of d.link.codec in
      store-put 2 678 n (device_bytes d)
      ∙ over 678 (bytes_of 2 n) (device_bytes d) (flags_of d ++ frames_of d) (bytes_of 2 d.link.responses) (tail_of d)
      (regrouped d ∙ simp append_assoc)
      (length-append (flags_of d) (frames_of d)
      ∙ omega (
        arith,
        length-append d.config (d.regs ++ (codec ++ clock)),
        length-append d.regs (codec ++ clock),
        length-append codec clock,
        length-append (bytes_of 8 d.clock.ticks) (bytes_of 8 d.clock.fraction),
        length-bytes 8 d.clock.ticks,
        length-bytes 8 d.clock.fraction,
        length-records d.link.codec z.codec,
        z.config,
        z.regs,
      ))
      (length-bytes 2 n ∙ sym (length-bytes 2 d.link.responses))
      ∙ sym (regrouped (with_link d (link_of d.link.codec n)) ∙ simp append_assoc)

  -- the clock's two numbers
  put-ticks : (n : ℕ) → store_at 8 662 n (device_bytes d) ≡ device_bytes (with_clock d (clock_of n d.clock.fraction))
  put-ticks n =
      store-put 8 662 n (device_bytes d)
      ∙ over 662 (bytes_of 8 n) (device_bytes d) (flags_of d ++ lines_of d) (bytes_of 8 d.clock.ticks) (bytes_of 8 d.clock.fraction ++ (bytes_of 2 d.link.responses ++ tail_of d))
      (regrouped d ∙ simp append_assoc)
      (length-append (flags_of d) (lines_of d)
      ∙ omega (
        arith,
        length-append d.config (d.regs ++ records_of d.link.codec),
        length-append d.regs (records_of d.link.codec),
        length-records d.link.codec z.codec,
        z.config,
        z.regs,
      ))
      (length-bytes 8 n ∙ sym (length-bytes 8 d.clock.ticks))
      ∙ sym (regrouped (with_clock d (clock_of n d.clock.fraction)) ∙ simp append_assoc)

  put-fraction : (n : ℕ) → store_at 8 670 n (device_bytes d) ≡ device_bytes (with_clock d (clock_of d.clock.ticks n))
  put-fraction n =
      let ticks : List ℕ = bytes_of 8 d.clock.ticks in
      let codec : List ℕ = records_of d.link.codec in
      store-put 8 670 n (device_bytes d)
      ∙ over 670 (bytes_of 8 n) (device_bytes d) (flags_of d ++ (d.config ++ (d.regs ++ (codec ++ ticks)))) (bytes_of 8 d.clock.fraction) (bytes_of 2 d.link.responses ++ tail_of d)
      (regrouped d ∙ simp append_assoc)
      (length-append (flags_of d) (d.config ++ (d.regs ++ (codec ++ ticks)))
      ∙ omega (
        arith,
        length-append d.config (d.regs ++ (codec ++ ticks)),
        length-append d.regs (codec ++ ticks),
        length-append codec ticks,
        length-bytes 8 d.clock.ticks,
        length-records d.link.codec z.codec,
        z.config,
        z.regs,
      ))
      (length-bytes 8 n ∙ sym (length-bytes 8 d.clock.fraction))
      ∙ sym (regrouped (with_clock d (clock_of d.clock.ticks n)) ∙ simp append_assoc)

  put-stream : length d.streams ≡ streams → (i : ℕ) (s : Stream) → i < streams → put_at (680 + 34 * i) (numbers_of s) (device_bytes d) ≡ device_bytes (with_stream d i s)
  unfolding device_bytes head_of
  put-stream count i s few =
      let old : ℕ → List ℕ = λ k. numbers_of (get_or d.streams k fresh_of) in
      let new : ℕ → List ℕ = λ k. numbers_of (get_or (set d.streams i s) k fresh_of) in
      let own : new i ≡ numbers_of s = ap numbers_of (get_or-set_same d.streams i s fresh_of (omega arith)) in
      let but = runs-but old new i 34 (λ j n. ap numbers_of (get_or-set_other d.streams i j s fresh_of n)) (λ j. length-numbers (get_or d.streams j fresh_of)) streams 0 (omega arith) few in
      let front = but.0 in
      let rest = but.1 in
      over (680 + 34 * i) (numbers_of s) (device_bytes d) (head_of d ++ front) (old i) (rest ++ flag d.asserted ∷ [])
      (ap (λ (r : List ℕ). head_of d ++ (r ++ flag d.asserted ∷ [])) but.3 ∙ grouped (head_of d) front (old i) rest (flag d.asserted ∷ []))
      (length-append (head_of d) front ∙ omega (arith, length-head d z, but.2))
      (length-numbers s ∙ sym (length-numbers (get_or d.streams i fresh_of)))
      ∙ sym
      (ap (λ (r : List ℕ). head_of d ++ (r ++ flag d.asserted ∷ [])) (but.4 ∙ ap (λ (x : List ℕ). front ++ (x ++ rest)) own)
      ∙ grouped (head_of d) front (numbers_of s) rest (flag d.asserted ∷ []))

  put-latch : (asserted : Bool) → set (device_bytes d) latch_place (flag asserted) ≡ device_bytes (with_asserted d asserted)
  unfolding device_bytes head_of
  put-latch asserted =
      set-put latch_place (flag asserted) (device_bytes d) (omega (arith, length-device d z))
      ∙ over latch_place (flag asserted ∷ []) (device_bytes d) (head_of d ++ streams_bytes streams 0 d.streams) (flag d.asserted ∷ []) []
      (sym (append_assoc (head_of d) (streams_bytes streams 0 d.streams) _))
      (length-append (head_of d) (streams_bytes streams 0 d.streams) ∙ omega (arith, length-head d z, length-streams d.streams)) refl
      ∙ append_assoc (head_of d) (streams_bytes streams 0 d.streams) _

-- a stream out of bytes has numbers within its types
stream-typed : (b : List ℕ) (at : ℕ) → at + 34 ≤ length b → Bytes b → TypedStream (stream_at at b)
stream-typed b at fits h =
    record {
      descriptor = word_bound 2 at b (omega arith) h;
      offset = word_bound 4 (at + 2) b (omega arith) h;
      submitted = word_bound 8 (at + 6) b (omega arith) h;
      consumed = word_bound 8 (at + 14) b (omega arith) h;
      fraction = word_bound 8 (at + 22) b (omega arith) h;
      pending = word_bound 4 (at + 30) b (omega arith) h;
    }

-- ---- the device in a record: what its bytes say of it
pub loaded-typed : (b : List ℕ) → length b ≡ device_size → Bytes b → TypedDevice (device_at b)
unfolding device_at row_of
loaded-typed b size h =
    record {
      sized = record {
        config = length-take-le 256 (drop 6 b) (omega (arith, length-drop 6 b));
        regs = length-take-le 256 (drop 262 b) (omega (arith, length-drop 262 b));
        codec = load-well-formed 518 b (omega arith) h;
      };
      ticks = word_bound 8 662 b (omega arith) h;
      fraction = word_bound 8 670 b (omega arith) h;
      responses = word_bound 2 678 b (omega arith) h;
      count = refl;
      each = λ i few. rw (stream-loaded b i few) (stream-typed b (680 + 34 * i) (omega arith) h);
    }

-- a record of a device holds it
held : (d : Hda) → TypedDevice d → (b : List ℕ) → b ≡ device_bytes d → Holds b d
held d t b e = record { device = ap is_device e ∙ device-record d t; same = ap device_at e ∙ device-stored d t }

-- ---- the parts over those of the device that stands there
module _ (b : List ℕ) (r : is_device b ≡ true) (h : Bytes b) where
  abbrev d : Hda
  d = device_at b

  t : TypedDevice d
  t = loaded-typed b (record-sized b r) h

  whole : b ≡ device_bytes d
  whole = sym (device-loaded b r h)

  -- .. with other files and message latch
  files-typed : (config regs : List ℕ) (asserted : Bool) → length config ≡ 256 → length regs ≡ 256
      → TypedDevice (hda config regs d.link d.streams d.clock d.microphone d.paused asserted)
  files-typed config regs asserted lc lr =
      record {
        sized = record { config = lc; regs = lr; codec = t.sized.codec };
        ticks = t.ticks;
        fraction = t.fraction;
        responses = t.responses;
        count = t.count;
        each = t.each;
      }

  pub regs-held : (regs : List ℕ) → length regs ≡ 256 → (p : List ℕ) → p ≡ put_at 262 regs b → Holds p (with_regs d regs)
  regs-held regs e p ep =
      held (with_regs d regs) (files-typed d.config regs d.asserted t.sized.config e) p (ep ∙ ap (put_at 262 regs) whole ∙ put-regs d t.sized regs e)

  -- files that were lent where they stand
  pub regs-lent : (regs : List ℕ) → length regs ≡ length (block_at 262 b) → Holds (take 262 b ++ (regs ++ drop 256 (drop 262 b))) (with_regs d regs)
  regs-lent regs e =
      let size : length regs ≡ 256 = e ∙ file-sized b r 262 (omega arith) in
      regs-held regs size _ (put-lent 262 256 regs b size)

  pub config-lent : (config : List ℕ) → length config ≡ length (block_at 6 b) → Holds (take 6 b ++ (config ++ drop 256 (drop 6 b))) (with_config d config)
  config-lent config e =
      let size : length config ≡ 256 = e ∙ file-sized b r 6 (omega arith) in
      held (with_config d config) (files-typed config d.regs d.asserted size t.sized.regs) _
      (put-lent 6 256 config b size ∙ ap (put_at 6 config) whole ∙ put-config d t.sized config size)

  pub latch-held : (asserted : Bool) (v : ℕ) → v ≡ flag asserted → Holds (set b latch_place v) (with_asserted d asserted)
  latch-held asserted v e =
      held (with_asserted d asserted) (files-typed d.config d.regs asserted t.sized.config t.sized.regs) _
      (rw e (ap (λ (l : List ℕ). set l latch_place (flag asserted)) whole ∙ put-latch d t.sized asserted))

  pub link-held : (link : Link) → WellFormed link.codec → link.responses ≤ 255 → (p q : List ℕ) → p ≡ store_codec_at 518 link.codec b → q ≡ store_at 2 678 link.responses p
      → Holds q (with_link d link)
  unfolding store_codec_at
  link-held link w few p q ep eq =
      let d1 : Hda = with_link d (link_of link.codec d.link.responses) in
      let z1 : Sized d1 = record { config = t.sized.config; regs = t.sized.regs; codec = w } in
      let first = ep ∙ ap (put_at 518 (records_of link.codec)) whole ∙ put-codec d t.sized link.codec w in
      held (with_link d link)
      (record { sized = record { config = t.sized.config; regs = t.sized.regs; codec = w }; ticks = t.ticks; fraction = t.fraction; responses = omega arith; count = t.count; each = t.each }) q
      (eq ∙ ap (store_at 2 678 link.responses) first ∙ put-responses d1 z1 link.responses)

  pub clock-held : (c : Clock) → Fits 8 c.ticks → Fits 8 c.fraction → (p q : List ℕ) → p ≡ store_at 8 662 c.ticks b → q ≡ store_at 8 670 c.fraction p → Holds q (with_clock d c)
  clock-held c ticks fraction p q ep eq =
      let d1 : Hda = with_clock d (clock_of c.ticks d.clock.fraction) in
      let z1 : Sized d1 = record { config = t.sized.config; regs = t.sized.regs; codec = t.sized.codec } in
      let first = ep ∙ ap (store_at 8 662 c.ticks) whole ∙ put-ticks d t.sized c.ticks in
      held (with_clock d c)
      (record { sized = record { config = z1.config; regs = z1.regs; codec = z1.codec }; ticks = ticks; fraction = fraction; responses = t.responses; count = t.count; each = t.each }) q
      (eq ∙ ap (store_at 8 670 c.fraction) first ∙ put-fraction d1 z1 c.fraction)

  pub stream-put : (i : ℕ) (s : Stream) → i < streams → TypedStream s → (p : List ℕ) → p ≡ put_at (680 + 34 * i) (numbers_of s) b → Holds p (with_stream d i s)
  stream-put i s few typed p e =
      held (with_stream d i s)
      (record {
        sized = record { config = t.sized.config; regs = t.sized.regs; codec = t.sized.codec };
        ticks = t.ticks;
        fraction = t.fraction;
        responses = t.responses;
        count = length-set d.streams i s ∙ t.count;
        each = λ j less. set_keeps TypedStream d.streams i j s fresh_of typed (t.each j less);
      })
      p (e ∙ ap (put_at (680 + 34 * i) (numbers_of s)) whole ∙ put-stream d t.sized t.count i s few)
