-- What a saved state has of its device: the head's parts, and every stream with its positions. Assumes nothing.
use Prim.Native.Nat.{ℕ, zero, suc, ◌+◌, ◌-◌, ◌*◌, ◌≤◌, ◌<◌}
use mathlib.Core.Path.{◌≡◌, refl, sym, ap, ◌∙◌}
use mathlib.Core.Bool.{Bool, true}
use mathlib.Core.List.{List, ◌++◌, append_assoc}
use native.Mathlib.Omega.{arith}
use native.Mathlib.Numerals.{add-one}
use lib.ListN.{length, take, drop, get_or}
use lib.Seq.{take_at, drop_at, take-take, drop-drop, get_or-take, get_or-drop, length-take-le}
use Rattle.word.specs.Value.{value_of}
use Rattle.word.specs.Place.{word_at}
use Rattle.word.specs.Parts.{part_of}
use Rattle.word.proofs.Lists.{drop-take}
use Rattle.word.proofs.Place.{word_byte}
use Rattle.codec.specs.Codecs.{node_at}
use Rattle.node.specs.Nodes as node
use Rattle.codec.specs.Bytes.{codec_at}
use Rattle.codec.proofs.Bytes.{record-place}
use Rattle.stream.specs.declared.Stream.{Stream}
use Rattle.stream.specs.Streams.{list_size, uncrowded_of}
use Rattle.stream.specs.Box.{streams}
use Rattle.registers.specs.Places.{byte_at}
use Rattle.rings.specs.declared.Link.{Link}
use Rattle.device.specs.declared.Hda.{Hda}
use Rattle.device.specs.Devices as devices
use Rattle.record.specs.Devices.{flag, head_of, numbers_of, device_bytes}
use Rattle.record.specs.Loads.{flag_at, marked_of, block_at, link_at, clock_at, stream_at, device_at}
use Rattle.record.specs.Rows.{row_of}
use Rattle.record.specs.Typed.{TypedDevice}
use Rattle.record.proofs.Sizes.{length-head, length-numbers}
use Rattle.record.proofs.Places.{run-after, row_same, flag-value}
use Rattle.record.proofs.Theorems.{stream-there, device-stored}
use Rattle.snapshot.specs.States as states
use Rattle.snapshot.specs.States.{streams_of, state_of, sizes_of, size_of, Kept}
use Rattle.snapshot.proofs.Sizes.{length-stream, streams-cons, part_room, length-state}
use Rattle.parse.specs.States.{place_of}
use Rattle.restore.specs.Restores.{stream_of, list_of, kept_of, restored_stream, restored_streams}
use Rattle.restore.specs.Returns.{returned_stream}
use Rattle.restore.proofs.Places.{place-next}
use Rattle.restore.proofs.Streams.{uncrowded-same, kept_same}

-- a word and a byte inside a part of a list
module _ (size from : ℕ) (l : List ℕ) where
  pub word-inside : (n at : ℕ) → at + n ≤ size → word_at n at (take size (drop from l)) ≡ word_at n (from + at) l
  unfolding word_at
  word-inside n at h =
      let whole : at + (size - at) ≡ size = omega arith in
      let few : n ≤ size - at = omega arith in
      ap value_of
      (ap (λ (k : ℕ). take n (drop at (take k (drop from l)))) (sym whole)
      ∙ ap (take n) (drop-take at (size - at) (drop from l))
      ∙ take-take n (size - at) (drop at (drop from l)) few
      ∙ ap (take n) (drop-drop at from l))

  pub byte_inside : (at : ℕ) → at < size → get_or (take size (drop from l)) at 0 ≡ get_or l (from + at) 0
  byte_inside at h = get_or-take size (drop from l) at 0 h ∙ get_or-drop from l at 0

module _ (d : Hda) (l : List ℕ) (t : TypedDevice d) (k : Kept d l) where
  abbrev s : List ℕ
  s = state_of d l

  abbrev b : List ℕ
  b = device_bytes d

  pub length-saved : length s ≡ size_of d
  length-saved = length-state d l k t.sized

  pub long-saved : 680 ≤ length s
  unfolding size_of
  long-saved = omega (arith, length-saved)

  -- ---- the head, which a device's record has too
  same_head : take 680 s ≡ take 680 b
  unfolding state_of device_bytes
  same_head = let size = length-head d t.sized in take_at (head_of d) _ 680 size ∙ sym (take_at (head_of d) _ 680 size)

  part_same : (n at : ℕ) → at + n ≤ 680 → take n (drop at s) ≡ take n (drop at b)
  part_same n at h =
      sym (drop-take at n s)
      ∙ ap (drop at) (sym (take-take (at + n) 680 s h) ∙ ap (take (at + n)) same_head ∙ take-take (at + n) 680 b h)
      ∙ drop-take at n b

  word_same : (n at : ℕ) → at + n ≤ 680 → word_at n at s ≡ word_at n at b
  unfolding word_at
  word_same n at h = ap value_of (part_same n at h)

  pub config-saved : block_at 6 s ≡ d.config
  unfolding device_at
  config-saved = part_same 256 6 (omega arith) ∙ ap (λ (x : Hda). x.config) (device-stored d t)

  pub regs-saved : block_at 262 s ≡ d.regs
  unfolding device_at
  regs-saved = part_same 256 262 (omega arith) ∙ ap (λ (x : Hda). x.regs) (device-stored d t)

  codec-same : codec_at 518 s ≡ codec_at 518 b
  unfolding codec_at
  codec-same =
      rw (
        part_same 24 518 (omega arith),
        part_same 24 542 (omega arith),
        part_same 24 566 (omega arith),
        part_same 24 590 (omega arith),
        part_same 24 614 (omega arith),
        part_same 24 638 (omega arith),
      )

  pub link-saved : link_at s ≡ d.link
  unfolding device_at
  link-saved = rw (codec-same, word_same 2 678 (omega arith)) (ap (λ (x : Hda). x.link) (device-stored d t))

  pub clock-saved : clock_at s ≡ d.clock
  unfolding device_at
  clock-saved = rw (word_same 8 662 (omega arith), word_same 8 670 (omega arith)) (ap (λ (x : Hda). x.clock) (device-stored d t))

  pub marked-saved : marked_of s ≡ true
  unfolding state_of head_of
  marked-saved = refl

  pub paused-byte : byte_at s 5 ≡ flag d.paused
  unfolding state_of head_of
  paused-byte = refl

  pub paused-saved : flag_at 5 s ≡ d.paused
  paused-saved = rw paused-byte (flag-value d.paused)

  pub microphone-saved : word_at 1 4 s ≡ flag d.microphone
  unfolding state_of head_of
  microphone-saved = word_byte 4 s (omega (arith, long-saved))

  -- the formats of converters and streams
  pub node-format : (i : ℕ) → i < 6 → word_at 2 (528 + 24 * i) s ≡ node.format_of (node_at d.link.codec i)
  node-format i h =
      let place : 518 + 24 * i + 10 ≡ 528 + 24 * i = omega arith in
      ap (λ (at : ℕ). word_at 2 at s) (sym place)
      ∙ sym (word-inside 24 (518 + 24 * i) s 2 10 (omega arith))
      ∙ ap node.format_of (sym (record-place 518 s i h))
      ∙ ap (λ (x : Link). node.format_of (node_at x.codec i)) link-saved

  pub register-word : (n at : ℕ) → at + n ≤ 256 → word_at n (262 + at) s ≡ word_at n at d.regs
  register-word n at h = sym (word-inside 256 262 s n at h) ∙ ap (word_at n at) regs-saved

  pub register-byte : (at : ℕ) → at < 256 → byte_at s (262 + at) ≡ byte_at d.regs at
  register-byte at h = sym (byte_inside 256 262 s at h) ∙ ap (λ (x : List ℕ). byte_at x at) regs-saved

  -- ---- stream i, which stands at `at`, with those after it
  module _ (n i : ℕ) (e : i + suc n ≡ streams) (at : ℕ) (here : drop at s ≡ streams_of (suc n) i d l) where
    few : i < streams
    few = omega arith

    abbrev x : Stream
    x = devices.stream_at d i

    abbrev list : List ℕ
    list = part_of list_size i l

    abbrev rest : List ℕ
    rest = streams_of n (i + 1) d l

    room : 8 * x.pending ≤ length list
    room = part_room d l k i few

    own : drop at s ≡ states.stream_of x list ++ rest
    own = here ∙ streams-cons n i d l

    apart : drop at s ≡ numbers_of x ++ (take (8 * x.pending) list ++ rest)
    unfolding states.stream_of
    apart = own ∙ append_assoc (numbers_of x) (take (8 * x.pending) list) rest

    read : stream_at at s ≡ x
    read = stream-there s at x (t.each i few) _ apart

    positions : take (8 * x.pending) (drop (at + 34) s) ≡ take (8 * x.pending) list
    positions =
        ap (take (8 * x.pending)) (run-after s at (numbers_of x) _ apart 34 (length-numbers x) (at + 34) refl)
        ∙ take_at (take (8 * x.pending) list) rest (8 * x.pending) (length-take-le (8 * x.pending) list room)

    behind : drop (at + (34 + 8 * x.pending)) s ≡ rest
    behind = run-after s at (states.stream_of x list) rest own (34 + 8 * x.pending) (length-stream x list room) (at + (34 + 8 * x.pending)) refl

  -- where the streams stand
  pub record Stands (n i : ℕ) : Type 0 where
    pub here : drop (place_of s i) s ≡ streams_of n i d l
    pub sizes : place_of s i + sizes_of n i d ≡ size_of d

  stands-next : (n i : ℕ) → i + suc n ≡ streams → Stands (suc n) i → Stands n (i + 1)
  unfolding sizes_of
  stands-next n i e h =
      let next : place_of s (i + 1) ≡ place_of s i + (34 + 8 * (devices.stream_at d i).pending)
      = place-next s i ∙ ap (λ (y : Stream). place_of s i + (34 + 8 * y.pending)) (read n i e (place_of s i) h.here) in
      record {
        here = ap (λ (at : ℕ). drop at s) next ∙ behind n i e (place_of s i) h.here;
        sizes = omega (arith, next, h.sizes);
      }

  stands-first : Stands streams 0
  unfolding place_of state_of size_of
  stands-first = record { here = drop_at (head_of d) _ 680 (length-head d t.sized); sizes = refl }

  stands : (i n : ℕ) → i + n ≡ streams → Stands n i
  stands zero n e = let all : n ≡ streams = omega arith in rw all stands-first
  stands (suc i) n e = rw (← add-one i) (stands-next n i (omega arith) (stands i (suc n) (omega arith)))

  -- stream i of the state: the device's, with its positions, and all there
  pub record Saved (i : ℕ) : Type 0 where
    pub stream : stream_of s i ≡ devices.stream_at d i
    pub positions : take (8 * (devices.stream_at d i).pending) (drop (place_of s i + 34) s) ≡ take (8 * (devices.stream_at d i).pending) (part_of list_size i l)
    pub room : place_of s i + (34 + 8 * (devices.stream_at d i).pending) ≤ length s

  pub stream-saved : (i : ℕ) → i < streams → Saved i
  unfolding sizes_of
  stream-saved i few =
      let e : i + suc (streams - (i + 1)) ≡ streams = omega arith in
      let h = stands i (suc (streams - (i + 1))) e in
      record {
        stream = read (streams - (i + 1)) i e (place_of s i) h.here;
        positions = positions (streams - (i + 1)) i e (place_of s i) h.here;
        room = omega (arith, h.sizes, length-saved);
      }

  pub all_saved : place_of s streams ≡ length s
  unfolding sizes_of
  all_saved = omega (arith, (stands streams 0 refl).sizes, length-saved)

  pub uncrowded-saved : (i : ℕ) → i < streams → uncrowded_of (stream_of s i) (list_of s i) ≡ uncrowded_of (devices.stream_at d i) (part_of list_size i l)
  uncrowded-saved i few =
      let x = stream-saved i few in
      ap (λ (y : Stream). uncrowded_of y (list_of s i)) x.stream ∙ uncrowded-same (devices.stream_at d i) (list_of s i) (part_of list_size i l) x.positions

  -- and as the device would put it in force
  pub kept-saved : (strict : Bool) (i : ℕ) → i < streams → restored_stream strict s i ≡ returned_stream strict d l i
  kept-saved strict i few =
      let x = stream-saved i few in
      ap (λ (y : Stream). kept_of strict y (list_of s i)) x.stream ∙ kept_same (devices.stream_at d i) (list_of s i) (part_of list_size i l) x.positions strict

  pub streams-saved : (strict : Bool) → restored_streams strict streams 0 s ≡ row_of (returned_stream strict d l) streams 0
  streams-saved strict = row_same (restored_stream strict s) (returned_stream strict d l) streams (kept-saved strict) streams 0 (omega arith)
