-- The position register: a turn in which a stream is served leaves it at consumed modulo the cyclic length, the later streams' turns and the interrupt leave it so. Assumes nothing.
use Prim.Native.Nat.{ℕ, suc, ◌+◌, ◌-◌, ◌%◌, ◌^◌, ◌≤◌, ◌<◌}
use mathlib.Core.Path.{◌≡◌, refl, sym, ap, ◌∙◌}
use mathlib.Core.Bool.{Bool, true, false, cond, not, ◌||◌}
use mathlib.Core.List.{List, [], ◌∷◌}
use mathlib.Core.Logic.{◌⊎◌, inl, inr, ⊎_elim, ◌≢◌}
use native.Mathlib.Omega.{arith}
use native.Mathlib.Nat.{mod-lt}
use borrow.Author.Tests.{eqb-false}
use lib.Dec.{eqb}
use lib.ListN.{length, take, drop, set, length-set}
use lib.Seq.{take-set-le, drop-set-lt, get_or-set_same, get_or-set_other}
use Rattle.word.specs.Value.{value_of}
use Rattle.word.specs.Place.{word_at, store_at}
use Rattle.word.specs.Parts.{part_of}
use Rattle.word.specs.Each.{each_of, further}
use Rattle.word.proofs.Choices.{by_cond, by_both, by-not}
use Rattle.word.proofs.Lists.{drop-take}
use Rattle.word.proofs.Place.{word_bound, length-store, word-store, word-elsewhere}
use Rattle.std.specs.Prelude.{Option, None, Some}
use Rattle.format.specs.Format.{format_of}
use Rattle.codec.specs.declared.Codec.{Codec}
use Rattle.stream.specs.declared.Stream.{Stream}
use Rattle.stream.specs.Streams.{list_size, fresh_of}
use Rattle.stream.specs.Box.{streams}
use Rattle.queue.specs.Queues.{capacity}
use Rattle.host.specs.declared.Host.{Host}
use Rattle.registers.specs.Places.{size, base_of, gctl, intsts, walclk, ctl, sts, lpib, cbl, fmt, byte_at, has, keep_bits, dma_of}
use Rattle.rings.specs.Rings.{rings_of}
use Rattle.rings.proofs.Facts.{commands-outside, word-past}
use Rattle.pci.specs.Interrupts.{update_of, status_of}
use Rattle.turn.specs.declared.Engine.{Engine}
use Rattle.turn.specs.Setups.{setup_of}
use Rattle.turn.specs.Engines.{work_of, stopped_of, position_of, served_of}
use Rattle.turn.specs.Turns.{open_stream_of, engine_of, store_engine, Turn, formatted_of, turn_of}
use Rattle.device.specs.declared.Hda.{Hda}
use Rattle.device.specs.Devices.{stream_at}
use Rattle.device.specs.Machines.{Machine, Done, check_machine, unchanged, finish_of, answer_of, finished, commanded_of, with_commanded}
use Rattle.serve.specs.Serve.{Turns, turns_of, runs, taken_of, turn_at, goes_on, serve_of}
use Rattle.advance.specs.Advance.{ticked_of, number_of, after_commands, advance_step, advance_of}
use Rattle.calls.specs.Calls as calls
use Rattle.calls.specs.Calls.{after}
use Rattle.book.specs.Book.{Event, refused}
use Rattle.book.specs.Events.{only_if, Given, given_of, formatted_events, served_events, turn_events, serve_events, advance_events, events_of}
use Rattle.book.specs.Corollaries.{Whole, Shows, Serves, Served, Declined}
use Rattle.book.proofs.Loops.{each-split, each-range, each_turn}
use Rattle.book.proofs.Consequences.{told}

-- a byte set elsewhere leaves a word
word_set : (n at i v : ℕ) (l : List ℕ) → (at + n ≤ i) ⊎ (i < at) → word_at n at (set l i v) ≡ word_at n at l
unfolding word_at
word_set n at i v l =
    ⊎_elim (λ (h : at + n ≤ i). ap value_of (sym (drop-take at n (set l i v)) ∙ ap (drop at) (take-set-le (at + n) l i v h) ∙ drop-take at n l))
    (λ (h : i < at). ap (λ (b : List ℕ). value_of (take n b)) (drop-set-lt at l i v h))

-- a position is within the register
position-small : (consumed cbl : ℕ) → cbl < 256 ^ 4 → position_of consumed cbl < 256 ^ 4
position-small consumed cbl small =
    by_cond (λ (n : ℕ). n < 256 ^ 4) (eqb cbl 0) 0 (consumed % cbl) (λ _. omega arith) (λ e. omega (arith, mod-lt consumed {m = cbl} (omega (arith, eqb-false cbl 0 e))))

-- an engine put back into the registers: its own eight bytes alone
module _ (i : ℕ) (e : Engine) (regs : List ℕ) (few : i < streams) (sized : length regs ≡ size) where
  abbrev stated : List ℕ
  stated = set regs (sts i) e.status

  abbrev placed : List ℕ
  placed = store_at 4 (lpib i) e.position stated

  fits : lpib i + 4 ≤ length stated
  fits = omega (arith, length-set regs (sts i) e.status)

  placed-size : length placed ≡ size
  placed-size = length-store 4 (lpib i) e.position stated fits ∙ length-set regs (sts i) e.status ∙ sized

  pub stored-size : length (store_engine i e regs) ≡ size
  unfolding store_engine
  stored-size =
      by_cond (λ (l : List ℕ). length l ≡ size) e.running placed (keep_bits (ctl i) 0xfd placed) (λ _. placed-size) (λ _. length-set placed (ctl i) _ ∙ placed-size)

  stored-position : e.position < 256 ^ 4 → word_at 4 (lpib i) (store_engine i e regs) ≡ e.position
  unfolding store_engine
  stored-position small =
      let there : word_at 4 (lpib i) placed ≡ e.position = word-store 4 (lpib i) e.position stated fits small in
      by_cond (λ (l : List ℕ). word_at 4 (lpib i) l ≡ e.position) e.running placed (keep_bits (ctl i) 0xfd placed) (λ _. there)
      (λ _. word_set 4 (lpib i) (ctl i) _ placed (inr (omega arith)) ∙ there)

  pub stored-elsewhere : (n at : ℕ) → (at + n ≤ base_of i) ⊎ (base_of i + 8 ≤ at) → word_at n at (store_engine i e regs) ≡ word_at n at regs
  unfolding store_engine
  stored-elsewhere n at h =
      let near : (at + n ≤ sts i) ⊎ (sts i < at) = ⊎_elim (λ (b : at + n ≤ base_of i). inl (omega arith)) (λ (b : base_of i + 8 ≤ at). inr (omega arith)) h in
      let far : (at + n ≤ lpib i) ⊎ (lpib i + 4 ≤ at) = ⊎_elim (λ (b : at + n ≤ base_of i). inl (omega arith)) (λ (b : base_of i + 8 ≤ at). inr (omega arith)) h in
      let first : (at + n ≤ ctl i) ⊎ (ctl i < at) = ⊎_elim (λ (b : at + n ≤ base_of i). inl (omega arith)) (λ (b : base_of i + 8 ≤ at). inr (omega arith)) h in
      let kept : word_at n at placed ≡ word_at n at regs = word-elsewhere 4 (lpib i) e.position stated fits n at far ∙ word_set n at (sts i) e.status regs near in
      by_cond (λ (l : List ℕ). word_at n at l ≡ word_at n at regs) e.running placed (keep_bits (ctl i) 0xfd placed) (λ _. kept)
      (λ _. word_set n at (ctl i) _ placed first ∙ kept)

-- every turn ends with an engine put back
module _ (regs : List ℕ) (codec : Codec) (h : Host) (microphone : Bool) (i nanos limit : ℕ) (s : Stream) (l part m : List ℕ) where
  pub turn-regs : (P : List ℕ → Type 0) → ((e : Engine) → P (store_engine i e regs)) → P (turn_of regs codec h microphone i nanos limit s l part m).regs
  unfolding turn_of
  turn-regs P stores = go (format_of (word_at 2 (fmt i) regs))
    where
      go : (f : Option ℕ) → P (formatted_of regs codec h microphone i nanos limit s l part m f).regs
      go None = stores (stopped_of (engine_of regs h i s))
      go (Some rate) = by_cond (λ (t : Turn). P t.regs) (open_stream_of h microphone i).ok _ _ (λ _. stores _) (λ _. stores _)

  -- its own, where it is served
  module _ (few : i < streams) (sized : length regs ≡ size) (small : word_at 4 (cbl i) regs < 256 ^ 4) where
    served-shows : (rate downstream : ℕ) (e : Engine)
        → let x = (served_of (setup_of regs codec i downstream limit) rate nanos (work_of e l part m)).engine in
        word_at 4 (lpib i) (store_engine i x regs) ≡ position_of x.stream.consumed (word_at 4 (cbl i) (store_engine i x regs))
    unfolding setup_of
    served-shows rate downstream e =
        let g = setup_of regs codec i downstream limit in
        let x = (served_of g rate nanos (work_of e l part m)).engine in
        let c = word_at 4 (cbl i) regs in
        let place : x.position ≡ position_of x.stream.consumed c = (told g rate nanos (work_of e l part m)).position in
        stored-position i x regs few sized (rw place (position-small x.stream.consumed c small))
        ∙ place
        ∙ ap (position_of x.stream.consumed) (sym (stored-elsewhere i x regs few sized 4 (cbl i) (inr (omega arith))))

    formatted-shows : (v : Given) (f : Option ℕ) → Serves (formatted_events v regs codec h microphone i nanos limit s l part m f)
        → let t = formatted_of regs codec h microphone i nanos limit s l part m f in
        word_at 4 (lpib i) t.regs ≡ position_of t.turned.stream.consumed (word_at 4 (cbl i) t.regs)
    formatted-shows v None none = absurd none
    formatted-shows v (Some rate) some =
        let o = open_stream_of h microphone i in
        by_both (λ (t : Turn) (es : List Event). Serves es → word_at 4 (lpib i) t.regs ≡ position_of t.turned.stream.consumed (word_at 4 (cbl i) t.regs))
        o.ok _ _ _ (refused ∷ []) (λ _ _. served-shows rate o.host.downstream (engine_of regs o.host i s)) (λ _ none. absurd none) some

-- the machine before a stream's turn, and after it
module _ (downstream nanos i : ℕ) (own : i < streams) where
  record Waits (d : Hda) : Type 0 where
    sized : length d.regs ≡ size
    count : length d.streams ≡ streams
    cyclic : word_at 4 (cbl i) d.regs < 256 ^ 4

  record Shown (d : Hda) : Type 0 where
    sized : length d.regs ≡ size
    shows : Shows i d

  abbrev turn_for : ℕ → Machine → Turn
  turn_for j x =
      let d = x.hda in
      turn_of d.regs d.link.codec x.host d.microphone j nanos capacity (stream_at d j) (part_of list_size j x.lists) (part_of capacity j x.queues) x.memory

  -- what holds of the registers with any engine put back holds after a turn
  after_turn : (j : ℕ) (x : Machine) (P : List ℕ → Type 0) → ((e : Engine) → P (store_engine j e x.hda.regs)) → P (turn_for j x).regs
  after_turn j x P stores =
      let d = x.hda in
      turn-regs d.regs d.link.codec x.host d.microphone j nanos capacity (stream_at d j) (part_of list_size j x.lists) (part_of capacity j x.queues) x.memory P stores

  -- another stream's turn
  module _ (j : ℕ) (w : Turns) (less : j < streams) (apart : (i < j) ⊎ (j < i)) where
    other : i ≢ j
    other = ⊎_elim (λ (b : i < j) e. omega arith) (λ (b : j < i) e. omega arith) apart

    elsewhere : (at : ℕ) → base_of i ≤ at → at + 4 ≤ base_of i + 12 → (at + 4 ≤ base_of j) ⊎ (base_of j + 8 ≤ at)
    elsewhere at from to = ⊎_elim (λ (b : i < j). inl (omega arith)) (λ (b : j < i). inr (omega arith)) apart

    turn-word : (at : ℕ) → base_of i ≤ at → at + 4 ≤ base_of i + 12 → length w.machine.hda.regs ≡ size → word_at 4 at (turn_for j w.machine).regs ≡ word_at 4 at w.machine.hda.regs
    turn-word at from to sized =
        let regs = w.machine.hda.regs in
        after_turn j w.machine (λ l. word_at 4 at l ≡ word_at 4 at regs) (λ e. stored-elsewhere j e regs less sized 4 at (elsewhere at from to))

    turn-size : length w.machine.hda.regs ≡ size → length (turn_for j w.machine).regs ≡ size
    turn-size sized = after_turn j w.machine (λ l. length l ≡ size) (λ e. stored-size j e w.machine.hda.regs less sized)

    other-waits : Waits w.machine.hda → Waits (turn_at nanos j w).machine.hda
    unfolding turn_at
    other-waits t =
        let x = w.machine in
        by_cond (λ (v : Turns). Waits v.machine.hda) (runs x.hda.regs j) (taken_of j x (turn_for j x)) w
        (λ _. record {
          sized = turn-size t.sized;
          count = length-set x.hda.streams j _ ∙ t.count;
          cyclic = rw (turn-word (cbl i) (omega arith) (omega arith) t.sized) t.cyclic;
        })
        (λ _. t)

    other-shown : Shown w.machine.hda → Shown (turn_at nanos j w).machine.hda
    unfolding turn_at
    other-shown t =
        let x = w.machine in
        by_cond (λ (v : Turns). Shown v.machine.hda) (runs x.hda.regs j) (taken_of j x (turn_for j x)) w
        (λ _. record {
          sized = turn-size t.sized;
          shows = rw (
            turn-word (lpib i) (omega arith) (omega arith) t.sized,
            turn-word (cbl i) (omega arith) (omega arith) t.sized,
            get_or-set_other x.hda.streams j i (turn_for j x).turned.stream fresh_of other,
          ) t.shows;
        })
        (λ _. t)

  -- its own
  own-shown : (w : Turns) → Waits w.machine.hda → Serves (turn_events downstream nanos i w.machine) → Shown (turn_at nanos i w).machine.hda
  unfolding turn_at turn_events turn_of
  own-shown w t some =
      let x = w.machine in
      let d = x.hda in
      let l = part_of list_size i x.lists in
      let q = part_of capacity i x.queues in
      let f = format_of (word_at 2 (fmt i) d.regs) in
      by_both (λ (v : Turns) (es : List Event). Serves es → Shown v.machine.hda) (runs d.regs i) (taken_of i x (turn_for i x)) w
      (formatted_events (given_of i downstream d.regs) d.regs d.link.codec x.host d.microphone i nanos capacity (stream_at d i) l q x.memory f) []
      (λ _ some. record {
        sized = after_turn i x (λ l. length l ≡ size) (λ e. stored-size i e d.regs own t.sized);
        shows = rw (get_or-set_same d.streams i (turn_for i x).turned.stream fresh_of (omega (arith, t.count)))
            (formatted-shows d.regs d.link.codec x.host d.microphone i nanos capacity (stream_at d i) l q x.memory own t.sized t.cyclic (given_of i downstream d.regs) f some);
      })
      (λ _ none. absurd none) some

  from-own : (b : Bool) (w : Turns) (k : ℕ) → i + suc k ≡ streams → Waits w.machine.hda → Serves (cond b (turn_events downstream nanos i w.machine) [])
      → Shown (further b w (each_of goes_on (turn_at nanos) (suc k) i)).machine.hda
  from-own true w k e t some =
      each_turn goes_on (turn_at nanos) (λ v. Shown v.machine.hda) k i w (own-shown w t some)
      (λ p. each-range goes_on (turn_at nanos) (λ v. Shown v.machine.hda) (i + 1) streams (λ j y from less. other-shown j y less (inl (omega arith))) k (i + 1) (turn_at nanos i w)
      (omega arith) (omega arith) p)
  from-own false w k e t none = absurd none

  serve-shown : (x : Machine) → Waits x.hda → Serves (serve_events downstream nanos i x) → Shown (serve_of nanos x).machine.hda
  unfolding serve_of serve_events
  serve-shown x t some =
      let w = each_of goes_on (turn_at nanos) i 0 (turns_of false x) in
      let k = streams - (i + 1) in
      let count : i + suc k ≡ streams = omega arith in
      let before : Waits w.machine.hda = each-range goes_on (turn_at nanos) (λ v. Waits v.machine.hda) 0 i
      (λ j y from less. other-waits j y (omega arith) (inr less)) i 0 (turns_of false x) (omega arith) (omega arith) t in
      rw (each-split goes_on (turn_at nanos) i (suc k) streams 0 i (turns_of false x) count (omega arith) refl)
      (from-own (goes_on w) w k count before some)

  -- the interrupt
  finished-shows : (number : ℕ) (x : Machine) → Shown x.hda → Shows i (finished number x).answer.hda
  unfolding finish_of answer_of update_of
  finished-shows number x t =
      let regs = x.hda.regs in
      let fits : intsts + 4 ≤ length regs = omega (arith, t.sized) in
      rw (word-elsewhere 4 intsts (status_of regs) regs fits 4 (lpib i) (inr (omega arith)), word-elsewhere 4 intsts (status_of regs) regs fits 4 (cbl i) (inr (omega arith))) t.shows

  -- the clock and the commands
  clocked-waits : (x : Machine) → Whole x.hda → Waits (commanded_of (ticked_of nanos x.hda) x.memory).hda
  unfolding commanded_of ticked_of
  clocked-waits x t =
      let d = ticked_of nanos x.hda in
      let regs = x.hda.regs in
      let fits : walclk + 4 ≤ length regs = omega (arith, t.sized) in
      let ticked : length d.regs ≡ size = length-store 4 walclk _ regs fits ∙ t.sized in
      let o = commands-outside (rings_of d.regs d.link x.memory) (omega (arith, ticked)) (dma_of d.config d.regs) in
      record {
        sized = o.size ∙ ticked;
        count = t.count;
        cyclic = rw (word-past o 4 (cbl i) (omega arith) ∙ word-elsewhere 4 walclk _ regs fits 4 (cbl i) (inr (omega arith)))
            (word_bound 4 (cbl i) regs (omega (arith, t.sized)) t.bytes);
      }

  commands-shows : (x : Machine) → Waits x.hda → Serves (only_if (dma_of x.hda.config x.hda.regs) (serve_events downstream nanos i x)) → Shows i (after_commands nanos x).answer.hda
  unfolding after_commands
  commands-shows x t some =
      let w = serve_of nanos x in
      by_both (λ (r : Done) (es : List Event). Serves es → Shows i r.answer.hda) (dma_of x.hda.config x.hda.regs) (finished (number_of w.refused) w.machine) (finished 0 x)
      (serve_events downstream nanos i x) [] (λ _ some. finished-shows (number_of w.refused) w.machine (serve-shown x t some)) (λ _ none. absurd none) some

  -- a stream that runs, whose format is supported and whose opening is not refused, has an event
  format-some : (x : Machine) (f : Option ℕ) → (f ≡ None → ⊥) → (open_stream_of x.host x.hda.microphone i).ok ≡ true
      → let d = x.hda in
      Serves (formatted_events (given_of i downstream d.regs) d.regs d.link.codec x.host d.microphone i nanos capacity (stream_at d i) (part_of list_size i x.lists) (part_of capacity i x.queues) x.memory f)
  unfolding served_events
  format-some x None known live = absurd (known refl)
  format-some x (Some rate) known live = rw live tt

  served-some : (x : Machine) → Served i x → Serves (turn_events downstream nanos i x)
  unfolding turn_events
  served-some x s = rw s.runs (format-some x (format_of (word_at 2 (fmt i) x.hda.regs)) s.format s.opens)

  turned-shows : (w : Turns) → Whole w.machine.hda → Served i w.machine → Shows i (turn_at nanos i w).machine.hda
  turned-shows w t s =
      let regs = w.machine.hda.regs in
      (own-shown w (record { sized = t.sized; count = t.count; cyclic = word_bound 4 (cbl i) regs (omega (arith, t.sized)) t.bytes }) (served-some w.machine s)).shows

advanced-shows : (nanos i : ℕ) (own : i < streams) (x : Machine) → Whole x.hda → Serves (events_of i (calls.advance nanos) x) → Shows i (after (calls.advance nanos) x).hda
unfolding after events_of advance_of advance_step advance_events
advanced-shows nanos i own x t some =
    let y = with_commanded x x.host (commanded_of (ticked_of nanos x.hda) x.memory) in
    let P : Done → List Event → Type 0 = λ r es. Serves es → Shows i r.answer.hda in
    by_both P (eqb (check_machine x) 0) (advance_step nanos x) (unchanged (check_machine x) x) (advance_events nanos i x) []
    (λ _. by-not P (x.hda.paused || not (has 1 (byte_at x.hda.regs gctl))) (unchanged 0 x) (after_commands nanos y) (only_if (dma_of y.hda.config y.hda.regs) (serve_events x.host.downstream nanos i y)) []
    (λ _ none. absurd none) (λ _. commands-shows x.host.downstream nanos i own y (clocked-waits x.host.downstream nanos i own x t)))
    (λ _ none. absurd none) some

-- a refused opening is all of its turn
declined-format : (v : Given) (regs : List ℕ) (codec : Codec) (h : Host) (microphone : Bool) (i nanos limit : ℕ) (s : Stream) (l part m : List ℕ) (f : Option ℕ) → (f ≡ None → ⊥)
    → (open_stream_of h microphone i).ok ≡ false → formatted_events v regs codec h microphone i nanos limit s l part m f ≡ refused ∷ []
declined-format v regs codec h microphone i nanos limit s l part m None known closed = absurd (known refl)
declined-format v regs codec h microphone i nanos limit s l part m (Some rate) known closed = rw closed

pub declined : (i downstream nanos : ℕ) (x : Machine) → Declined i x → turn_events downstream nanos i x ≡ refused ∷ []
unfolding turn_events
declined i downstream nanos x r =
    let d = x.hda in
    rw r.runs
    (declined-format (given_of i downstream d.regs) d.regs d.link.codec x.host d.microphone i nanos capacity (stream_at d i) (part_of list_size i x.lists) (part_of capacity i x.queues) x.memory
    (format_of (word_at 2 (fmt i) d.regs)) r.format r.closed)

pub turned : (i : ℕ) → i < streams → (nanos : ℕ) (w : Turns) → Whole w.machine.hda → Served i w.machine → Shows i (turn_at nanos i w).machine.hda
turned i few nanos = turned-shows 0 nanos i few

pub advanced : (i : ℕ) → i < streams → (nanos : ℕ) (x : Machine) → Whole x.hda → Serves (events_of i (calls.advance nanos) x) → Shows i (after (calls.advance nanos) x).hda
advanced i few nanos = advanced-shows nanos i few
