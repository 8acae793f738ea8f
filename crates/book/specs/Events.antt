-- What happens to stream i in a call, read off the definitions that the calls' contracts cite: each step follows the definition of the same name and asks it what it did.
use Rattle.std.specs.Prelude.{ℕ, zero, suc, ◌+◌, ◌-◌, ◌*◌, Bool, true, false, cond, not, ◌&&◌, ◌||◌, List, [], ◌∷◌, ◌++◌, drop, ltb, eqb, Option, None, Some}
use Rattle.word.specs.Place.{word_at}
use Rattle.word.specs.Parts.{part_of}
use Rattle.word.specs.Each.{each_of, always}
use Rattle.format.specs.Format.{format_of}
use Rattle.codec.specs.declared.Codec.{Codec}
use Rattle.positions.specs.Positions.{positions_of}
use Rattle.stream.specs.declared.Stream.{Stream}
use Rattle.stream.specs.declared.Cyclic.{Cyclic}
use Rattle.stream.specs.Streams.{list_size, uncrowded_of}
use Rattle.stream.specs.Box.{captures}
use Rattle.plan.specs.Plans.{ready_of}
use Rattle.pieces.specs.Pieces.{State, state_of, piece_of}
use Rattle.queue.specs.declared.Queue.{Queue}
use Rattle.queue.specs.Queues.{capacity}
use Rattle.transfer.specs.Transfers.{silence, taken_of, captured_of}
use Rattle.host.specs.declared.Host.{Host}
use Rattle.host.specs.Hosts.{Opening}
use Rattle.registers.specs.Places.{gctl, ctl, cbl, lvi, fmt, bdpl, byte_at, has, dma_of}
use Rattle.turn.specs.declared.Setup.{Setup}
use Rattle.turn.specs.declared.Engine.{Engine}
use Rattle.turn.specs.Setups.{setup_of}
use Rattle.turn.specs.Engines.{Work, work_of, updated_of, with_updated, frames_of, transfer_at, transferred_of, round_of, accrued_of, due_of}
use Rattle.turn.specs.Turns.{open_stream_of, engine_of}
use Rattle.device.specs.Devices.{stream_at}
use Rattle.device.specs.Machines.{Machine, check_machine, with_commanded, commanded_of}
use Rattle.settle.specs.declared.Ports.{Ports}
use Rattle.settle.specs.Settle.{ports, settle_at}
use Rattle.write.specs.Writes.{written_of, controlled_of, flushed_of}
use Rattle.serve.specs.Serve as serve
use Rattle.serve.specs.Serve.{turns_of, runs, turn_at}
use Rattle.advance.specs.Advance.{ticked_of}
use Rattle.record.specs.Loads as record-loads
use Rattle.parse.specs.States.{place_of}
use Rattle.restore.specs.Restores as restore
use Rattle.calls.specs.Calls as calls
use Rattle.book.specs.Buffers.{Attempt}
use Rattle.book.specs.Book.{Event, reset, restored, moved, updated, failed, refused}

abbrev pub only_if : Bool → List Event → List Event
only_if b es = cond b es []

-- What the book has for a turn of stream i from its number, from the downstream count that the call was handed, and from the stream's registers (HDA 1.0a 3.3.38 to 3.3.43), not from what the turn makes of these.
pub record Given : Type 0 where
  pub capture : Bool
  pub downstream : ℕ
  pub base : ℕ
  pub cyclic : ℕ
  pub last : ℕ

abbrev pub given_of : ℕ → ℕ → List ℕ → Given
given_of i downstream regs =
    record { capture = captures i; downstream = downstream; base = word_at 8 (bdpl i) regs; cyclic = word_at 4 (cbl i) regs; last = word_at 2 (lvi i) regs }

-- ---- a transfer: its pieces, and that it failed
-- what the book is told of the piece that is to move next, of a transfer of `count` bytes in the state x
abbrev pub attempt_of : Given → ℕ → State → Attempt
attempt_of v count x = record { base = v.base; cyclic = v.cyclic; last = v.last; left = count - x.done; memory = x.memory }

-- whether there is one, and it moves
abbrev pub goes_on : Cyclic → ℕ → State → Bool
goes_on g count x = ltb x.done count && (piece_of g count x).ok

unfoldable pub pieces_events : Given → ℕ → Cyclic → ℕ → State → List Event
pieces_events v zero g count x = []
pieces_events v (suc fuel) g count x = only_if (goes_on g count x) (moved (attempt_of v count x) ∷ pieces_events v fuel g count (piece_of g count x).state)

-- the samples that a transfer starts with, as `capture_of` and `playback_of` have them
abbrev pub samples_of : Cyclic → Queue → Bool → ℕ → ℕ → List ℕ → ℕ → List ℕ
samples_of g q connected left right part count =
    cond g.capture (captured_of connected left right part (taken_of connected q part count) count) (silence count)

-- the state in which a transfer stands still: before the first piece that does not move, or behind the last
unfoldable pub standing_of : ℕ → Cyclic → ℕ → State → State
standing_of zero g count x = x
standing_of (suc fuel) g count x = cond (goes_on g count x) (standing_of fuel g count (piece_of g count x).state) x

-- A transfer has failed where the device says so, and where submitted has not grown by all its bytes, by whatever name the device calls that; `x` is where it stands still.
abbrev pub failure_events : Given → ℕ → Stream → Bool → Stream → State → List Event
failure_events v count before ok after x =
    only_if (not ok || ltb after.submitted (before.submitted + count)) (failed (attempt_of v count x) ∷ [])

unfoldable pub transfer_events : Given → Setup → Work → ℕ → List Event
transfer_events v g x n =
    let c = g.cyclic in
    let e = x.engine in
    let t = (transfer_at g x n).transferred in
    let count = 4 * n in
    let s = state_of e.stream x.list x.memory (samples_of c e.queue g.connected g.left g.right x.part count) 0 in
    only_if (ready_of c) (pieces_events v count c count s) ++ failure_events v count e.stream t.ok t.stream (cond (ready_of c) (standing_of count c count s) s)

-- ---- a turn: the position update at its start, then transfers, each with an update where it succeeded
-- document 01's latency: none for a capture; for a playback the bytes queued and those downstream
abbrev pub unheard : Given → ℕ → ℕ
unheard v queued = cond v.capture 0 (queued + v.downstream)

abbrev pub update_event : Given → Engine → Event
update_event v e = updated (unheard v e.queue.length)

unfoldable pub round_events : Given → Setup → Work → List Event
round_events v g x =
    let n = frames_of g x.engine in
    let t = (transfer_at g x n).transferred in
    transfer_events v g x n ++ only_if t.ok (update_event v (transferred_of x.engine t.stream t.queue n) ∷ [])

abbrev pub again_rounds : Bool → Given → Setup → Work → (Work → List Event) → List Event
again_rounds true v g x rest = []
again_rounds false v g x rest = round_events v g x ++ rest (round_of g x)

unfoldable pub rounds_events : ℕ → Given → Setup → Work → List Event
rounds_events zero v g x = []
rounds_events (suc fuel) v g x = again_rounds (eqb (frames_of g x.engine) 0) v g x (rounds_events fuel v g)

abbrev pub timed_events : Given → Setup → ℕ → ℕ → Work → List Event
timed_events v g rate nanos x =
    let e = accrued_of rate nanos x.engine in
    rounds_events (due_of e) v g (work_of e x.list x.part x.memory)

unfoldable pub served_events : Given → Setup → ℕ → ℕ → Work → List Event
served_events v g rate nanos x =
    let y = with_updated (updated_of g x.engine x.list x.memory) x.part in
    update_event v x.engine ∷ only_if y.engine.running (timed_events v g rate nanos y)

-- an unsupported format serves nothing, nor does a refused opening
abbrev pub opened_events : Given → List ℕ → Codec → ℕ → ℕ → ℕ → ℕ → Stream → List ℕ → List ℕ → List ℕ → Opening → List Event
opened_events v regs codec i rate nanos room s l part m o =
    cond o.ok (served_events v (setup_of regs codec i o.host.downstream room) rate nanos (work_of (engine_of regs o.host i s) l part m)) (refused ∷ [])

abbrev pub formatted_events : Given → List ℕ → Codec → Host → Bool → ℕ → ℕ → ℕ → Stream → List ℕ → List ℕ → List ℕ → Option ℕ → List Event
formatted_events v regs codec h microphone i nanos room s l part m None = []
formatted_events v regs codec h microphone i nanos room s l part m (Some rate) =
    opened_events v regs codec i rate nanos room s l part m (open_stream_of h microphone i)

unfoldable pub turn_events : ℕ → ℕ → ℕ → Machine → List Event
turn_events downstream nanos i x =
    let d = x.hda in
    only_if (runs d.regs i)
    (formatted_events (given_of i downstream d.regs) d.regs d.link.codec x.host d.microphone i nanos capacity (stream_at d i) (part_of list_size i x.lists) (part_of capacity i x.queues) x.memory
    (format_of (word_at 2 (fmt i) d.regs)))

-- ---- advance: stream i's turn finds what the turns before it left, and is not taken where one of them was refused
unfoldable pub serve_events : ℕ → ℕ → ℕ → Machine → List Event
serve_events downstream nanos i x =
    let w = each_of serve.goes_on (turn_at nanos) i 0 (turns_of false x) in
    only_if (serve.goes_on w) (turn_events downstream nanos i w.machine)

unfoldable pub advance_events : ℕ → ℕ → Machine → List Event
advance_events nanos i x =
    let y = with_commanded x x.host (commanded_of (ticked_of nanos x.hda) x.memory) in
    only_if (not (x.hda.paused || not (has 1 (byte_at x.hda.regs gctl)))) (only_if (dma_of y.hda.config y.hda.regs) (serve_events x.host.downstream nanos i y))

-- ---- a register write: the controller's reset, and the stream's own, which finds what the streams before it left
abbrev pub controller_events : List ℕ → Ports → List Event
controller_events old x = only_if (has 1 (byte_at old gctl) && not (has 1 (byte_at x.hda.regs gctl))) (reset ∷ [])

abbrev pub settle_events : List ℕ → ℕ → Ports → List Event
settle_events old i x = only_if (has 1 (byte_at (each_of always (settle_at old) i 0 x).hda.regs (ctl i))) (reset ∷ [])

unfoldable pub write_events : ℕ → List ℕ → ℕ → Machine → List Event
write_events offset bytes i x =
    let old = x.hda.regs in
    let p = ports (written_of x.hda offset bytes) x.host in
    controller_events old p ++ settle_events old i (flushed_of (controlled_of old p))

-- ---- restore, where it is accepted: the counts and positions of the state, of a list that is crowded and not refused none (request T-09)
abbrev pub restored_event : List ℕ → ℕ → Event
restored_event s i =
    let t = record-loads.stream_at (place_of s i) s in
    let list = drop (place_of s i + 34) s in
    restored t.submitted t.consumed (cond (uncrowded_of t list) (positions_of t.pending list) []) t.descriptor t.offset

unfoldable pub restore_events : Bool → List ℕ → ℕ → Machine → List Event
restore_events strict s i x = only_if (eqb (restore.number_of strict s x.hda x.host) 0) (restored_event s i ∷ [])

-- ---- every call; one that its check refuses does nothing
unfoldable pub events_of : ℕ → calls.Call → Machine → List Event
events_of i (calls.advance nanos) x = only_if (eqb (check_machine x) 0) (advance_events nanos i x)
events_of i (calls.read offset into) x = []
events_of i (calls.write offset bytes) x = only_if (eqb (check_machine x) 0) (write_events offset bytes i x)
events_of i (calls.bar_read bar offset into) x = []
events_of i (calls.bar_write bar offset bytes) x = only_if (eqb bar 0 && eqb (check_machine x) 0) (write_events offset bytes i x)
events_of i (calls.config_read register) x = []
events_of i (calls.config_write register offset bytes) x = []
events_of i (calls.pin_change node) x = []
events_of i (calls.pause paused) x = []
events_of i (calls.feed frames) x = []
events_of i (calls.pull into) x = []
events_of i (calls.playback_fails fails) x = []
events_of i (calls.capture_fails fails) x = []
events_of i (calls.downstream n) x = []
events_of i (calls.save into) x = []
events_of i (calls.restore strict state) x = only_if (eqb (check_machine x) 0) (restore_events strict state i x)
events_of i (calls.advance_bounds shortest longest lists queues memory into) x = []
