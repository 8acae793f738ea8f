-- The streams' turns in `advance`: those of the streams before i leave it, its own keeps it tied to the book, those after it leave it. Assumes nothing.
use Prim.Native.Nat.{ℕ, suc, ◌+◌, ◌-◌, ◌*◌, ◌≤◌, ◌<◌}
use mathlib.Core.Path.{◌≡◌, refl, ◌∙◌}
use mathlib.Core.Bool.{Bool, true, false, cond}
use mathlib.Core.List.{List, []}
use mathlib.Core.Logic.{◌⊎◌, inl, inr}
use native.Mathlib.Omega.{arith}
use lib.ListN.{length, length-set}
use Rattle.word.specs.Place.{word_at}
use Rattle.word.specs.Parts.{part_of}
use Rattle.word.specs.Each.{each_of, further}
use Rattle.word.proofs.Choices.{by_cond, by_both}
use Rattle.word.proofs.Parts.{length-with-part}
use Rattle.format.specs.Format.{format_of}
use Rattle.stream.specs.Box.{streams}
use Rattle.stream.specs.Streams.{list_size}
use Rattle.queue.specs.Queues.{capacity}
use Rattle.host.specs.Hosts as hosts
use Rattle.host.proofs.Checks.{valid-queue}
use Rattle.registers.specs.Places.{fmt}
use Rattle.turn.specs.Turns.{Turn, turn_of}
use Rattle.turn.proofs.Rounds.{Kept}
use Rattle.turn.proofs.Turns.{turn_by}
use Rattle.turn.proofs.Validity.{Sound, turn-valid, turn-host-valid}
use Rattle.device.specs.Devices.{with_regs, stream_at, valid_of}
use Rattle.device.specs.Machines.{Machine}
use Rattle.device.proofs.Checks.{device-parts}
use Rattle.device.proofs.Facts.{valid-change, with-stream-valid}
use Rattle.serve.specs.Serve.{Turns, turns_of, runs, taken_of, turn_at, goes_on, serve_of}
use Rattle.book.specs.Book.{Event}
use Rattle.book.specs.Events.{given_of, formatted_events, turn_events, serve_events}
use Rattle.book.proofs.Ghosts.{Ghost, sees}
use Rattle.book.proofs.Loops.{each-split, each-range, each_turn}
use Rattle.book.proofs.Turns.{Same, opened-same, formatted-tied}
use Rattle.book.proofs.Machines.{Held, part-size, held-own-list, held-other-list}

-- nothing is asked of a stream
pub anything : Kept (λ s q l. Unit {0})
anything =
    record {
      times = λ s q l fraction _ h. tt;
      empties = λ s q l live h. tt;
      updates = λ s q l latency h. tt;
      moves = λ g s q connected left right l part m n h. tt;
    }

-- what the check gives of the device, the lists and the host end, and every turn keeps
pub record Fine (downstream : ℕ) (x : Machine) : Type 0 where
  pub count : length x.host.queues ≡ streams
  pub down : x.host.downstream ≡ downstream
  pub lists : list_size * streams ≤ length x.lists
  pub device : valid_of x.hda x.lists ≡ true
  pub host : hosts.valid_of x.host ≡ true

module _ (downstream nanos : ℕ) where
  -- stream j's turn
  abbrev turn_for : ℕ → Machine → Turn
  turn_for j x =
      let d = x.hda in
      turn_of d.regs d.link.codec x.host d.microphone j nanos capacity (stream_at d j) (part_of list_size j x.lists) (part_of capacity j x.queues) x.memory

  module _ (j : ℕ) (x : Machine) (few : j < streams) (f : Fine downstream x) where
    long : length (part_of list_size j x.lists) ≡ list_size
    long = part-size j x.lists few f.lists

    sound : Sound list_size (turn_for j x).turned.stream (hosts.queue_at (turn_for j x).turned.host j) (turn_for j x).list
    sound =
        let d = x.hda in
        rw long at
        (turn-valid d.regs d.link.codec x.host d.microphone j nanos capacity (stream_at d j) (part_of list_size j x.lists) (part_of capacity j x.queues) x.memory
        (omega (arith, long)) ((device-parts d x.lists f.device).streams j few) (valid-queue x.host f.host j))

    -- a turn changes neither the downstream count nor how many queues there are
    host-same : Same x.host x.hda.microphone j (turn_for j x).turned.host
    host-same =
        let d = x.hda in
        let h = x.host in
        turn_by (λ s q l. Unit {0}) anything (Same h d.microphone j) (λ t. Same h d.microphone j t.turned.host) d.regs j
        (λ refused h' y k _. (length-set h'.queues j y.engine.queue ∙ k.0, k.1))
        d.link.codec h d.microphone nanos capacity (stream_at d j) (part_of list_size j x.lists) (part_of capacity j x.queues) x.memory (refl, refl)
        (opened-same h d.microphone j) tt

    host-count : length (turn_for j x).turned.host.queues ≡ streams
    host-count = host-same.0 ∙ f.count

    host-down : (turn_for j x).turned.host.downstream ≡ downstream
    host-down = host-same.1 ∙ f.down

    taken_fine : Fine downstream (taken_of j x (turn_for j x)).machine
    taken_fine =
        let d = x.hda in
        let t = turn_for j x in
        let fits : list_size * j + list_size ≤ length x.lists = omega (arith, f.lists) in
        record {
          count = host-count;
          down = host-down;
          lists = omega (arith, f.lists, length-with-part list_size j x.lists t.list sound.sized fits);
          device = with-stream-valid (with_regs d t.regs) x.lists j few t.turned.stream t.list sound.sized f.lists
              (valid-change d (with_regs d t.regs) x.lists refl refl refl refl f.device) sound.stream;
          host = turn-host-valid d.regs d.link.codec x.host d.microphone j nanos capacity (stream_at d j) (part_of list_size j x.lists) (part_of capacity j x.queues) x.memory
              (omega (arith, long)) ((device-parts d x.lists f.device).streams j few) f.host;
        }

  module _ (F : Type 0) (i : ℕ) (own : i < streams) where
    record Served (a : Ghost) (w : Turns) : Type 0 where
      fine : Fine downstream w.machine
      held : Held F i w.machine.hda.streams w.machine.lists a

    other-turn : (a : Ghost) (j : ℕ) (w : Turns) → j < streams → (i < j) ⊎ (j < i) → Served a w → Served a (turn_at nanos j w)
    unfolding turn_at
    other-turn a j w less apart s =
        let x = w.machine in
        by_cond (Served a) (runs x.hda.regs j) (taken_of j x (turn_for j x)) w
        (λ _. record {
          fine = taken_fine j x less s.fine;
          held = held-other-list F i own x.hda.streams x.lists a s.held j less apart (turn_for j x).turned.stream (turn_for j x).list (sound j x less s.fine).sized;
        })
        (λ _. s)

    own_turn : (a : Ghost) (w : Turns) → Served a w → Served (sees (turn_events downstream nanos i w.machine) a) (turn_at nanos i w)
    unfolding turn_at turn_events turn_of
    own_turn a w s =
        let x = w.machine in
        let d = x.hda in
        let l = part_of list_size i x.lists in
        let q = part_of capacity i x.queues in
        let f = format_of (word_at 2 (fmt i) d.regs) in
        let es = formatted_events (given_of i downstream d.regs) d.regs d.link.codec x.host d.microphone i nanos capacity (stream_at d i) l q x.memory f in
        by_both (λ (y : Turns) (fs : List Event). Served (sees fs a) y) (runs d.regs i) (taken_of i x (turn_for i x)) w es []
        (λ _. record {
          fine = taken_fine i x own s.fine;
          held = held-own-list F i own d.streams x.lists a s.held (turn_for i x).turned.stream (turn_for i x).list (sees es a)
              (formatted-tied F d.regs d.link.codec x.host d.microphone i nanos capacity (stream_at d i) l q x.memory a (omega arith) downstream s.fine.down (omega (arith, s.fine.count)) s.fine.host s.held.own f);
        })
        (λ _. s)

    -- its turn and the later ones; none where an earlier one was refused
    from-own : (a : Ghost) (b : Bool) (w : Turns) (k : ℕ) → i + suc k ≡ streams → Served a w
        → Served (sees (cond b (turn_events downstream nanos i w.machine) []) a) (further b w (each_of goes_on (turn_at nanos) (suc k) i))
    from-own a true w k e s =
        let a' = sees (turn_events downstream nanos i w.machine) a in
        each_turn goes_on (turn_at nanos) (Served a') k i w (own_turn a w s)
        (λ p. each-range goes_on (turn_at nanos) (Served a') (i + 1) streams (λ j y from less. other-turn a' j y less (inl (omega arith))) k (i + 1) (turn_at nanos i w) (omega arith) (omega arith) p)
    from-own a false w k e s = s

    pub serve-held : (x : Machine) (a : Ghost) → Fine downstream x → Held F i x.hda.streams x.lists a
        → let y = (serve_of nanos x).machine in Held F i y.hda.streams y.lists (sees (serve_events downstream nanos i x) a)
    unfolding serve_of serve_events
    serve-held x a f h =
        let w = each_of goes_on (turn_at nanos) i 0 (turns_of false x) in
        let k = streams - (i + 1) in
        let count : i + suc k ≡ streams = omega arith in
        let before : Served a w = each-range goes_on (turn_at nanos) (Served a) 0 i (λ j y from less. other-turn a j y (omega arith) (inr less)) i 0 (turns_of false x) (omega arith) (omega arith)
        (record { fine = f; held = h }) in
        rw (each-split goes_on (turn_at nanos) i (suc k) streams 0 i (turns_of false x) count (omega arith) refl)
        (from-own a (goes_on w) w k count before).held
