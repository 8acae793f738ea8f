-- The counts after `advance` depend on elapsed time through the frames that each stream can move alone, and on guest memory through the windows of `Seen` alone.
-- Assumes nothing.
use Prim.Native.Nat.{ℕ, ◌+◌, ◌-◌, ◌≤◌, ◌<◌}
use mathlib.Core.Path.{◌≡◌, refl, sym, ap, ◌∙◌, subst}
use mathlib.Core.Bool.{Bool, true, false, cond, ◌&&◌, true≢false}
use mathlib.Core.List.{List}
use mathlib.Core.Logic.{inl, inr}
use native.Mathlib.Omega.{arith}
use lib.ListN.{length, get_or}
use Rattle.word.specs.Place.{word_at, store_at}
use Rattle.word.proofs.Place.{byte-elsewhere, length-store}
use Rattle.clock.specs.Clock as clock
use Rattle.clock.specs.Frames.{accrue_of, whole_frames_of}
use Rattle.std.specs.Prelude.{Option, Some}
use Rattle.format.specs.Format.{format_of}
use Rattle.plan.specs.Plans.{ready_of}
use Rattle.plan.proofs.Laws.{ready-byte}
use Rattle.stream.specs.Box.{streams, captures}
use Rattle.host.specs.Hosts.{queue_at}
use Rattle.registers.specs.Places.{size, gctl, walclk, corbbase, fmt, base_of, byte_at, has, dma_of}
use Rattle.registers.proofs.Files.{File}
use Rattle.rings.specs.Rings.{Rings, rings_of, commands_of}
use Rattle.rings.proofs.Facts.{commands-outside}
use Rattle.turn.specs.Setups.{cyclic_of}
use Rattle.device.specs.Devices.{stream_at}
use Rattle.device.specs.Machines.{Machine, machine, Done, unchanged, finished, finish_of, commanded_of, with_commanded, answer_of}
use Rattle.serve.specs.Serve.{serve_of}
use Rattle.advance.specs.Advance.{ticked_of, served_of, after_commands, still_of, advance_step, advance_of}
use Rattle.calls.proofs.Devices.{Stands, stands-check, commanded-stands, commanded-holds}
use Rattle.calls.proofs.Advance.{ticked-holds}
use lib.Seq.{get_or-drop}
use Rattle.counts.specs.Counts.{frames_by, movable_by, movable_of, Seen, listed, commanded, Agree, Copied}
use Rattle.counts.proofs.Agree.{agree-word}
use Rattle.counts.proofs.Pieces.{Listed}
use Rattle.counts.proofs.Turns.{Timeless}
use Rattle.counts.proofs.Rings.{FilesAlike, RingsAlike, commands-alike}
use Rattle.counts.proofs.Serve.{MachineAlike, serve-alike}

-- the wall clock's register apart, a tick leaves the registers
module _ (regs : List ℕ) (sized : length regs ≡ size) (v : ℕ) where
  abbrev shown : List ℕ
  shown = store_at 4 walclk v regs

  room : walclk + 4 ≤ length regs
  room = omega arith

  shown-byte : (k : ℕ) → Timeless k → get_or shown k 0 ≡ get_or regs k 0
  shown-byte k h = byte-elsewhere 4 walclk v regs room k h

  shown-long : length shown ≡ size
  shown-long = length-store 4 walclk v regs room ∙ sized

abbrev Same : Done → Done → Type 0
Same r r' = (i : ℕ) → (stream_at r.answer.hda i).submitted ≡ (stream_at r'.answer.hda i).submitted

same_cond : (b : Bool) (p q p' q' : Done) → (b ≡ true → Same p p') → (b ≡ false → Same q q') → Same (cond b p q) (cond b p' q')
same_cond true p q p' q' f g = f refl
same_cond false p q p' q' f g = g refl

-- the end of a call leaves the counts
pick : (nanos nanos' : ℕ) (z z' : Machine) (b b' : Bool) → b ≡ b'
    → ((j : ℕ) → (stream_at (serve_of nanos z).machine.hda j).submitted ≡ (stream_at (serve_of nanos' z').machine.hda j).submitted)
    → ((j : ℕ) → (stream_at z.hda j).submitted ≡ (stream_at z'.hda j).submitted)
    → Same (cond b (served_of (serve_of nanos z)) (finished 0 z)) (cond b' (served_of (serve_of nanos' z')) (finished 0 z'))
unfolding finish_of answer_of
pick nanos nanos' z z' true true e served still = served
pick nanos nanos' z z' false false e served still = still
pick nanos nanos' z z' true false e served still = absurd (true≢false e)
pick nanos nanos' z z' false true e served still = absurd (true≢false (sym e))

configs : (nanos nanos' : ℕ) (x y : Machine) → x.hda.config ≡ y.hda.config → (commanded_of (ticked_of nanos x.hda) x.memory).hda.config ≡ (commanded_of (ticked_of nanos' y.hda) y.memory).hda.config
unfolding commanded_of ticked_of
configs nanos nanos' x y e = e

module _ (x : Machine) (lists' queues' m' : List ℕ) (nanos nanos' : ℕ) (hosted : length x.host.queues ≡ streams) (s : Stands x) (s' : Stands (machine x.hda x.host lists' queues' m'))
    (c : Copied x (machine x.hda x.host lists' queues' m')) where
  file : File x.hda.regs
  file = s.holds.file

  a : Agree (Seen x.hda.regs) x.memory m'
  a = c.memory

  abbrev regs₀ : List ℕ
  regs₀ = x.hda.regs

  abbrev P : ℕ → Type 0
  P = Seen regs₀

  abbrev x' : Machine
  x' = machine x.hda x.host lists' queues' m'

  abbrev v : ℕ
  v = clock.shown_of (clock.advance_of x.hda.clock nanos)

  abbrev v' : ℕ
  v' = clock.shown_of (clock.advance_of x.hda.clock nanos')

  files : FilesAlike (store_at 4 walclk v regs₀) (store_at 4 walclk v regs₀) (store_at 4 walclk v' regs₀)
  files =
      record {
        timeless = record {
          long = shown-long regs₀ file.sized v ∙ sym (shown-long regs₀ file.sized v');
          same = λ p h. shown-byte regs₀ file.sized v p h ∙ sym (shown-byte regs₀ file.sized v' p h);
        };
        low = λ k h. refl;
        sized = shown-long regs₀ file.sized v;
      }

  ring-same : word_at 8 corbbase (store_at 4 walclk v regs₀) ≡ word_at 8 corbbase regs₀
  ring-same = agree-word Timeless (store_at 4 walclk v regs₀) regs₀ (record { long = shown-long regs₀ file.sized v ∙ sym file.sized; same = shown-byte regs₀ file.sized v }) 8 corbbase (λ p lo hi. inr (omega arith))

  dma-same : dma_of x.hda.config (store_at 4 walclk v regs₀) ≡ dma_of x.hda.config (store_at 4 walclk v' regs₀)
  unfolding dma_of
  dma-same = rw (files.timeless.same gctl (inl (omega arith)))

  abbrev rings : ℕ → List ℕ → Rings
  rings shown m = commands_of (dma_of x.hda.config (store_at 4 walclk shown regs₀)) (rings_of (store_at 4 walclk shown regs₀) x.hda.link m)

  rings-alike : RingsAlike P (store_at 4 walclk v regs₀) (rings v x.memory) (rings v' m')
  rings-alike =
      rw (← dma-same)
      (commands-alike P (store_at 4 walclk v regs₀) (λ p lo hi. commanded (omega (arith, ring-same)) (omega (arith, ring-same))) (dma_of x.hda.config (store_at 4 walclk v regs₀))
      (rings_of (store_at 4 walclk v regs₀) x.hda.link x.memory) (rings_of (store_at 4 walclk v' regs₀) x.hda.link m') (shown-long regs₀ file.sized v)
      (record { files = files; link = refl; memory = a }))

  -- the machines before the turns
  abbrev ready : ℕ → Machine → Machine
  ready t y = with_commanded y y.host (commanded_of (ticked_of t y.hda) y.memory)

  behind : Agree (λ (k : ℕ). base_of 0 ≤ k) regs₀ (rings v x.memory).regs
  behind =
      let r = store_at 4 walclk v regs₀ in
      let o = commands-outside (rings_of r x.hda.link x.memory) (omega (arith, shown-long regs₀ file.sized v)) (dma_of x.hda.config r) in
      record {
        long = file.sized ∙ sym (o.size ∙ shown-long regs₀ file.sized v);
        same = λ p h.
            let e : 0x80 + (p - 0x80) ≡ p = omega arith in
            let past = sym (get_or-drop 0x80 (rings v x.memory).regs (p - 0x80) 0) ∙ ap (λ (l : List ℕ). get_or l (p - 0x80) 0) (o.past 0x80 (omega arith)) ∙ get_or-drop 0x80 r (p - 0x80) 0 in
            sym (rw e at past ∙ shown-byte regs₀ file.sized v p (inr (omega arith)));
      }

  ready-alike : MachineAlike P regs₀ (stream_at x.hda) (queue_at x.host) 0 (ready nanos x) (ready nanos' x')
  unfolding commanded_of ticked_of
  ready-alike =
      let k = rings-alike in
      record {
        codec = ap (λ l. l.codec) k.link;
        microphone = refl;
        timeless = k.files.timeless;
        ahead = behind;
        count = refl;
        unserved = λ j h. refl;
        unserved' = λ j h. refl;
        submitted = λ j. refl;
        host = refl;
        hosted = hosted;
        unheard = λ j h. refl;
        lists = λ j h small. c.lists j small;
        queues = λ j h small _. c.queues j small;
        memory = k.memory;
        stands = commanded-stands x s x.host _ (commanded-holds x.lists (ticked_of nanos x.hda) x.host (ticked-holds x.lists x nanos s.holds) x.memory);
        stands' = commanded-stands x' s' x.host _ (commanded-holds lists' (ticked_of nanos' x.hda) x.host (ticked-holds lists' x' nanos' s'.holds) m');
      }

  windows : (j : ℕ) → j < streams → ready_of (cyclic_of regs₀ j) ≡ true → Listed P (cyclic_of regs₀ j)
  windows j few ready = let byte = ready-byte (cyclic_of regs₀ j) ready in record { entry = λ d h p lo hi. listed j few (omega arith) (omega arith) }

  rated : (f fraction rate : ℕ) (k : Option ℕ) → k ≡ Some rate → frames_by fraction f k ≡ whole_frames_of (accrue_of rate f fraction)
  rated f fraction rate k e = rw e

  abbrev Movable : Type 0
  Movable = (i : ℕ) → i < streams → movable_of x.hda x.host i nanos ≡ movable_of x.hda x.host i nanos'

  frames : Movable → (j : ℕ) → j < streams → (rate : ℕ) → format_of (word_at 2 (fmt j) regs₀) ≡ Some rate
      → let f = (stream_at x.hda j).fraction in let q = (queue_at x.host j).length in
      movable_by (captures j) q (whole_frames_of (accrue_of rate nanos f)) ≡ movable_by (captures j) q (whole_frames_of (accrue_of rate nanos' f))
  unfolding movable_of
  frames movable j few rate e =
      let f = (stream_at x.hda j).fraction in
      let q = (queue_at x.host j).length in
      ap (movable_by (captures j) q) (sym (rated nanos f rate _ e)) ∙ movable j few ∙ ap (movable_by (captures j) q) (rated nanos' f rate _ e)

  after-alike : Movable → Same (after_commands nanos (ready nanos x)) (after_commands nanos' (ready nanos' x'))
  unfolding after_commands dma_of
  after-alike movable =
      let k = ready-alike in
      let counts = serve-alike P regs₀ (stream_at x.hda) (queue_at x.host) nanos nanos' windows (frames movable) (ready nanos x) (ready nanos' x') k in
      let config : (ready nanos x).hda.config ≡ (ready nanos' x').hda.config = configs nanos nanos' x x' refl in
      let gate : dma_of (ready nanos x).hda.config (ready nanos x).hda.regs ≡ dma_of (ready nanos' x').hda.config (ready nanos' x').hda.regs =
      ap (λ (l : List ℕ). has 4 (byte_at l 4) && has 1 (byte_at (ready nanos x).hda.regs gctl)) config
      ∙ ap (λ (b : ℕ). has 4 (byte_at (ready nanos' x').hda.config 4) && has 1 b) (k.timeless.same gctl (inl (omega arith))) in
      pick nanos nanos' (ready nanos x) (ready nanos' x') (dma_of (ready nanos x).hda.config (ready nanos x).hda.regs) (dma_of (ready nanos' x').hda.config (ready nanos' x').hda.regs) gate counts k.submitted

  step-alike : Movable → Same (advance_step nanos x) (advance_step nanos' x')
  unfolding advance_step answer_of
  step-alike movable =
      same_cond (still_of x.hda) (unchanged 0 x) (after_commands nanos (ready nanos x)) (unchanged 0 x') (after_commands nanos' (ready nanos' x')) (λ _ i. refl) (λ _. after-alike movable)

  -- the whole call
  advance-from : Movable → Same (advance_of nanos x) (advance_of nanos' x')
  unfolding advance_of answer_of
  advance-from movable = rw (stands-check x s, stands-check x' s') (step-alike movable)

-- for two times that make as many frames to move for each stream, `advance` leaves the same counts, of a machine and of any copy of it whose memory agrees on the windows
pub advance-alike : (x y : Machine) (nanos nanos' : ℕ) → length x.host.queues ≡ streams → Stands x → Stands y → Copied x y
    → ((i : ℕ) → i < streams → movable_of x.hda x.host i nanos ≡ movable_of x.hda x.host i nanos')
    → (i : ℕ) → (stream_at (advance_of nanos x).answer.hda i).submitted ≡ (stream_at (advance_of nanos' y).answer.hda i).submitted
advance-alike x y nanos nanos' hosted s s' c movable =
    subst (λ (z : Machine). Same (advance_of nanos x) (advance_of nanos' z)) whole (advance-from x y.lists y.queues y.memory nanos nanos' hosted s stands copied movable)
  where
    whole : machine x.hda x.host y.lists y.queues y.memory ≡ y
    whole = rw (c.hda, c.host)

    stands : Stands (machine x.hda x.host y.lists y.queues y.memory)
    stands = rw (c.hda, c.host) s'

    copied : Copied x (machine x.hda x.host y.lists y.queues y.memory)
    copied = record { hda = refl; host = refl; lists = c.lists; queues = c.queues; memory = c.memory }
