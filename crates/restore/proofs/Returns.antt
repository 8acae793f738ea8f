-- Save and restore: which saved devices come back, and what of them does. Assumes nothing.
use Prim.Native.Nat.{ℕ, zero, suc, ◌+◌, ◌*◌, ◌≤◌, ◌<◌}
use mathlib.Core.Path.{◌≡◌, refl, sym, ap, subst, ◌∙◌}
use mathlib.Core.Bool.{Bool, true, false, cond, ◌&&◌, and-false, true≢false}
use mathlib.Core.List.{List}
use native.Mathlib.Omega.{arith}
use borrow.Author.Tests.{leb-true, eqb-true}
use lib.Dec.{eqb, ltb}
use lib.ListN.{length, take, drop}
use lib.Seq.{take_at, take-take}
use Rattle.word.specs.Place.{put_at, word_at, store_at}
use Rattle.word.specs.Each.{each_of}
use Rattle.word.specs.Parts.{part_of}
use Rattle.word.proofs.Choices.{by_cond}
use Rattle.clock.specs.declared.Clock.{Clock}
use Rattle.codec.specs.Codecs as codec
use Rattle.codec.specs.Codecs.{node_at}
use Rattle.node.specs.Nodes as node
use Rattle.format.specs.Hda.{pcm_of}
use Rattle.format.specs.Format as format
use Rattle.positions.specs.Positions.{positions_of}
use Rattle.stream.specs.declared.Stream.{Stream}
use Rattle.stream.specs.Streams as stream
use Rattle.stream.specs.Box as box
use Rattle.stream.specs.Streams.{list_size, uncrowded_of}
use Rattle.queue.specs.Queues.{queue}
use Rattle.host.specs.declared.Host.{Host}
use Rattle.host.specs.Hosts as hosts
use Rattle.registers.specs.Places.{ctl, fmt}
use Rattle.registers.specs.Reset.{reset_stream_of, reset_of}
use Rattle.rings.specs.declared.Link.{Link}
use Rattle.device.specs.declared.Hda.{Hda}
use Rattle.device.specs.Devices.{stream_at, fresh_of}
use Rattle.device.specs.Machines.{check_of, finish_of}
use Rattle.device.proofs.Checks.{Passed, device-parts, passed}
use Rattle.device.proofs.Facts.{answer-number}
use Rattle.record.specs.Devices.{flag}
use Rattle.record.specs.Typed.{TypedDevice}
use Rattle.record.proofs.Places.{flag_small, row_same}
use Rattle.snapshot.specs.States.{state_of, size_of, Kept}
use Rattle.snapshot.specs.Saves.{Save, save_step, save_of}
use Rattle.parse.specs.States.{place_of, converter_number, format_number, state_number}
use Rattle.parse.proofs.Choices.{both-pass}
use Rattle.parse.proofs.Theorems.{TakenStream, TakenLast, taken-head, taken-streams}
use Rattle.restore.specs.Restores.{opens_of, list_of, restored_stream, refused_from, opening_number, restored_host, restored_device, Restored, accepted_of, number_of, restore_step, restore_of}
use Rattle.restore.specs.Returns.{word_number, stream_number, Restorable, asks_of, Willing, returned_stream, returned_device, returned_queue, returned_host}
use Rattle.restore.proofs.Outcomes.{taken-fits}
use Rattle.restore.proofs.Streams.{kept-few, valid_same}
use Rattle.restore.proofs.Lists.{restored-part}
use Rattle.restore.proofs.Takes.{state-takes}
use Rattle.restore.proofs.Saves as saves
use Rattle.restore.proofs.Theorems.{number-taken, block-identity}
use Rattle.restore.proofs.Emptied.{crowded-refused}

-- no opening is refused where none of those that are asked for is
none-refused : (s : List ℕ) (microphone : Bool) (h : Host) → ((i : ℕ) → i < box.streams → (opens_of s microphone i && hosts.fails_of h i) ≡ false)
    → (n i : ℕ) → i + n ≤ box.streams → refused_from n i s microphone h ≡ false
unfolding refused_from
none-refused s microphone h each zero i b = refl
none-refused s microphone h each (suc n) i b = rw (each i (omega arith)) (none-refused s microphone h each n (i + 1) (omega arith))

-- as by a host end whose switches are off
pub off-willing : (saved : Hda) (h : Host) → h.playback ≡ false → h.capture ≡ false → Willing saved h
off-willing saved h p c i few = rw (fails (box.captures i)) (and-false (asks_of saved i))
  where
    fails : (b : Bool) → cond b h.capture h.playback ≡ false
    fails true = c
    fails false = p

-- a save that is done passed the check
save-checked : (saved : Hda) (h₀ : Host) (l₀ : List ℕ) (q₀ : ℕ) (into : List ℕ) → (save_of saved h₀ l₀ q₀ into).saved.number ≡ 0 → check_of saved h₀ l₀ q₀ ≡ 0
unfolding save_of
save-checked saved h₀ l₀ q₀ into =
    let n = check_of saved h₀ l₀ q₀ in
    by_cond (λ (r : Save). r.saved.number ≡ 0 → n ≡ 0) (eqb n 0) _ _ (λ e _. eqb-true n 0 e) (λ _ z. z)

-- what a save that is done has written, as many bytes as it says, is the state
pub saved-bytes : (saved : Hda) (h₀ : Host) (l₀ : List ℕ) (q₀ : ℕ) → TypedDevice saved → check_of saved h₀ l₀ q₀ ≡ 0 → (into : List ℕ)
    → (save_of saved h₀ l₀ q₀ into).saved.number ≡ 0 → take (save_of saved h₀ l₀ q₀ into).saved.count (save_of saved h₀ l₀ q₀ into).into ≡ state_of saved l₀
unfolding save_of save_step
saved-bytes saved h₀ l₀ q₀ t check₀ into =
    let p = passed saved h₀ l₀ q₀ check₀ in
    let size = saves.length-saved saved l₀ t (record { few = p.pending; long = p.lists }) in
    rw check₀
    (by_cond (λ (r : Save). r.saved.number ≡ 0 → take r.saved.count r.into ≡ state_of saved l₀) (ltb (length into) (size_of saved)) _ _
    (λ _ z. absurd (omega (arith, z)))
    (λ _ z. take_at (state_of saved l₀) _ (size_of saved) size))

-- so a device whose lists are not crowded saves nothing that is refused with 20, by whatever device
pub saved-uncrowded : (saved : Hda) (h₀ : Host) (l₀ : List ℕ) (q₀ : ℕ) → TypedDevice saved
    → ((i : ℕ) → i < box.streams → uncrowded_of (stream_at saved i) (part_of list_size i l₀) ≡ true) → (into : List ℕ)
    → let r = save_of saved h₀ l₀ q₀ into in r.saved.number ≡ 0 → (strict : Bool) (d : Hda) (h : Host) → number_of strict (take r.saved.count r.into) d h ≡ 20 → ⊥
saved-uncrowded saved h₀ l₀ q₀ t free into z strict d h =
    let check₀ = save-checked saved h₀ l₀ q₀ into z in
    let p = passed saved h₀ l₀ q₀ check₀ in
    subst (λ (s : List ℕ). number_of strict s d h ≡ 20 → ⊥) (sym (saved-bytes saved h₀ l₀ q₀ t check₀ into z))
    (λ e.
    let c = crowded-refused strict (state_of saved l₀) d h e in
    true≢false (sym (free c.stream c.one) ∙ sym (saves.uncrowded-saved saved l₀ t (record { few = p.pending; long = p.lists }) c.stream c.one) ∙ c.crowded))

-- the saved device, and the one that takes its state
module _ (saved : Hda) (h₀ : Host) (l₀ : List ℕ) (q₀ : ℕ) (t : TypedDevice saved) (check₀ : check_of saved h₀ l₀ q₀ ≡ 0)
    (d : Hda) (h : Host) (l : List ℕ) (q : ℕ) (check : check_of d h l q ≡ 0) (same : d.microphone ≡ saved.microphone) (strict : Bool) where
  abbrev s : List ℕ
  s = state_of saved l₀

  p₀ : Passed saved h₀ l₀ q₀
  p₀ = passed saved h₀ l₀ q₀ check₀

  kept : Kept saved l₀
  kept = record { few = p₀.pending; long = p₀.lists }

  -- ---- the tests, as the device has them
  converters-same : converter_number s
      ≡ cond (eqb (word_number (node.format_of (node_at saved.link.codec 2))) 0) (word_number (node.format_of (node_at saved.link.codec 4)))
      (word_number (node.format_of (node_at saved.link.codec 2)))
  converters-same = rw (saves.node-format saved l₀ t kept 2 (omega arith), saves.node-format saved l₀ t kept 4 (omega arith))

  format-same : (i : ℕ) → i < box.streams → format_number s i ≡ stream_number saved i
  unfolding format_number
  format-same i few = rw (saves.register-word saved l₀ t kept 2 (fmt i) (omega arith), saves.register-byte saved l₀ t kept (ctl i) (omega arith))

  last-saved : TakenLast s d.config
  last-saved =
      let v₀ = device-parts saved l₀ p₀.device in
      let v = device-parts d l (passed d h l q check).device in
      let link = saves.link-saved saved l₀ t kept in
      let clock = saves.clock-saved saved l₀ t kept in
      record {
        paused = rw (saves.paused-byte saved l₀ t kept) (leb-true (flag saved.paused) 1 (flag_small saved.paused));
        fraction = rw (ap (λ (c : Clock). c.fraction) clock) v₀.time;
        responses = rw (ap (λ (x : Link). x.responses) link) v₀.responses;
        identity = sym (block-identity s) ∙ ap (word_at 4 0) (saves.config-saved saved l₀ t kept) ∙ v₀.identified ∙ sym v.identified;
      }

  stream-taken : (i : ℕ) → i < box.streams → Restorable strict saved l₀ → TakenStream strict s i
  stream-taken i few r =
      let x = saves.stream-saved saved l₀ t kept i few in
      let list : List ℕ = drop (place_of s i + 34) s in
      record {
        room = omega (arith, x.room, ap (λ (y : Stream). y.pending) x.stream);
        valid = ap (λ (y : Stream). stream.valid_of y list) x.stream ∙ valid_same (stream_at saved i) list (part_of list_size i l₀) x.positions ∙ p₀.streams i few;
        format = format-same i few ∙ r.formats.streams i few;
        uncrowded = λ on. saves.uncrowded-saved saved l₀ t kept i few ∙ r.uncrowded on i few;
      }

  -- ---- a state is taken exactly where the formats are supported, and no list is crowded where that is refused
  pub saved-taken : Restorable strict saved l₀ → state_number strict s d.microphone d.config ≡ 0
  saved-taken r =
      state-takes strict s d.microphone d.config
      (record {
        long = saves.long-saved saved l₀ t kept;
        marked = saves.marked-saved saved l₀ t kept;
        own = saves.microphone-saved saved l₀ t kept ∙ ap flag (sym same);
        converters = converters-same ∙ rw (r.formats.output, r.formats.input);
      })
      (λ i few. stream-taken i few r) (saves.all_saved saved l₀ t kept) last-saved

  pub taken-restorable : state_number strict s d.microphone d.config ≡ 0 → Restorable strict saved l₀
  taken-restorable z =
      let c = both-pass (word_number (node.format_of (node_at saved.link.codec 2))) (word_number (node.format_of (node_at saved.link.codec 4)))
      (sym converters-same ∙ (taken-head strict s d.microphone d.config z).converters) in
      record {
        formats = record { output = c.0; input = c.1; streams = λ i few. sym (format-same i few) ∙ ((taken-streams strict s d.microphone d.config z).1 i few).format };
        uncrowded = λ on i few. sym (saves.uncrowded-saved saved l₀ t kept i few) ∙ ((taken-streams strict s d.microphone d.config z).1 i few).uncrowded on;
      }

  -- ---- what comes back
  device-back : restored_device strict s d ≡ returned_device strict saved l₀ d
  unfolding restored_device returned_device
  device-back =
      rw (
        saves.config-saved saved l₀ t kept,
        saves.regs-saved saved l₀ t kept,
        saves.link-saved saved l₀ t kept,
        saves.clock-saved saved l₀ t kept,
        saves.streams-saved saved l₀ t kept strict,
        saves.paused-saved saved l₀ t kept,
        same,
      )

  opens-same : (i : ℕ) → i < box.streams → opens_of s d.microphone i ≡ asks_of saved i
  opens-same i few = rw (saves.register-byte saved l₀ t kept (ctl i) (omega arith), same)

  host-back : restored_host s d.microphone h ≡ returned_host saved h
  unfolding returned_host
  host-back =
      ap (hosts.host h.playback h.capture h.downstream)
      (row_same (λ (i : ℕ). queue (opens_of s d.microphone i) 0) (returned_queue saved) box.streams
      (λ i few. ap (λ (b : Bool). queue b 0) (opens-same i few)) box.streams 0 (omega arith))

  -- of these bytes: the answer, and each stream's positions in its part of the lists
  pub record Back (state : List ℕ) : Type 0 where
    pub answer : (restore_of strict state d h l q).answer ≡ finish_of 0 (returned_device strict saved l₀ d) (returned_host saved h)
    pub positions : (i : ℕ) → i < box.streams
        → let n = 8 * (returned_stream strict saved l₀ i).pending in take n (part_of list_size i (restore_of strict state d h l q).lists) ≡ take n (part_of list_size i l₀)

  accepted : Restorable strict saved l₀ → Willing saved h → restore_of strict s d h l q ≡ accepted_of strict s d h l
  unfolding restore_of restore_step opening_number
  accepted r w =
      let each : (i : ℕ) → i < box.streams → (opens_of s d.microphone i && hosts.fails_of h i) ≡ false
      = λ i few. ap (λ (b : Bool). b && hosts.fails_of h i) (opens-same i few) ∙ w i few in
      rw (check, saved-taken r, none-refused s d.microphone h each box.streams 0 (omega arith))

  pub save-restores : Restorable strict saved l₀ → Willing saved h → Back s
  save-restores r w =
      let done = accepted r w in
      let fits = taken-fits strict s d.microphone d.config (saved-taken r) in
      record {
        answer = ap (λ (x : Restored). x.answer) done ∙ rw (device-back, host-back);
        positions = λ i few.
            let n = 8 * (returned_stream strict saved l₀ i).pending in
            let m = 8 * (stream_at saved i).pending in
            let fewer : n ≤ m = omega (arith, kept-few strict (stream_at saved i) (part_of list_size i l₀)) in
            let x = saves.stream-saved saved l₀ t kept i few in
            let count : (restored_stream strict s i).pending ≡ (returned_stream strict saved l₀ i).pending = ap (λ (y : Stream). y.pending) (saves.kept-saved saved l₀ t kept strict i few) in
            ap (λ (y : Restored). take n (part_of list_size i y.lists)) done
            ∙ rw count at (restored-part strict s fits l (passed d h l q check).lists i few)
            ∙ sym (take-take n m (list_of s i) fewer) ∙ ap (take n) x.positions ∙ take-take n m (part_of list_size i l₀) fewer;
      }

  -- so it is from the space lent to `save`
  pub save-returns : (into : List ℕ) → (save_of saved h₀ l₀ q₀ into).saved.number ≡ 0 → Restorable strict saved l₀ → Willing saved h
      → Back (take (save_of saved h₀ l₀ q₀ into).saved.count (save_of saved h₀ l₀ q₀ into).into)
  save-returns into z r w = subst Back (sym (saved-bytes saved h₀ l₀ q₀ t check₀ into z)) (save-restores r w)

  -- and no other device comes back
  pub restores-only : (restore_of strict s d h l q).answer.number ≡ 0 → Restorable strict saved l₀
  unfolding restore_of restore_step
  restores-only =
      rw check
      (by_cond (λ (r : Restored). r.answer.number ≡ 0 → Restorable strict saved l₀) (eqb (number_of strict s d h) 0) _ _
      (λ e z. taken-restorable (number-taken strict s d h (eqb-true (number_of strict s d h) 0 e)))
      (λ e z. taken-restorable (number-taken strict s d h (sym (answer-number (number_of strict s d h) _ d h) ∙ z))))

-- a new device is one of them
pub fresh-restorable : (strict microphone : Bool) (lists : List ℕ) → Restorable strict (fresh_of microphone) lists
unfolding fresh_of stream.fresh_of positions_of codec.fresh_of node.fresh_node_of reset_of reset_stream_of each_of put_at store_at word_at format.format_of pcm_of
fresh-restorable strict microphone lists = record { formats = record { output = refl; input = refl; streams = each }; uncrowded = λ _. free }
  where
    each : (i : ℕ) → i < box.streams → stream_number (fresh_of microphone) i ≡ 0
    each zero few = refl
    each (suc zero) few = refl
    each (suc (suc i)) few = absurd (omega arith)

    free : (i : ℕ) → i < box.streams → uncrowded_of (stream_at (fresh_of microphone) i) (part_of list_size i lists) ≡ true
    free zero few = refl
    free (suc zero) few = refl
    free (suc (suc i)) few = absurd (omega arith)
