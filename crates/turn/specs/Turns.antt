-- A stream's turn in `advance` (document 01, "Stream transfer" and "Numbers returned", 1; the Rust's loop body in `advance`).
use Rattle.std.specs.Prelude.{ℕ, ◌≤◌, ◌<◌, Bool, true, false, cond, not, ◌&&◌, List, length, set, Option, Some, None}
use Rattle.word.specs.Place.{word_at, store_at}
use Rattle.format.specs.Format.{format_of}
use Rattle.codec.specs.declared.Codec.{Codec}
use Rattle.stream.specs.declared.Stream.{Stream}
use Rattle.stream.specs.Streams.{places, list_size}
use Rattle.stream.specs.Box.{streams, captures}
use Rattle.host.specs.declared.Host.{Host}
use Rattle.queue.specs.Queues.{capacity}
use Rattle.host.specs.Hosts.{Opening, opening_of, open_of, queue_at, with_queue}
use Rattle.registers.specs.Places.{ctl, sts, lpib, fmt, byte_at, keep_bits}
use Rattle.turn.specs.declared.Setup.{Setup}
use Rattle.turn.specs.declared.Engine.{Engine}
use Rattle.turn.specs.declared.Turned.{Turned}
use Rattle.turn.specs.Setups.{setup_of}
use Rattle.turn.specs.Engines.{Work, work_of, engine, stopped_of, served_of}

-- An input stream opens only on a device with a microphone; without one it stays closed, and that is no refusal (the Rust's `open_stream`).
unfoldable pub open_stream_of : Host → Bool → ℕ → Opening
open_stream_of h microphone i = cond (captures i && not microphone) (opening_of true h) (open_of h i)

-- the engine as the registers and the host end have it; a turn is taken by a stream that runs
abbrev pub engine_of : List ℕ → Host → ℕ → Stream → Engine
engine_of regs h i s = engine true (byte_at regs (sts i)) (word_at 4 (lpib i) regs) s (queue_at h i)

-- and back into the registers: status, position, and RUN cleared where it stopped
unfoldable pub store_engine : ℕ → Engine → List ℕ → List ℕ
store_engine i e regs =
    let r = store_at 4 (lpib i) e.position (set regs (sts i) e.status) in
    cond e.running r (keep_bits (ctl i) 0xfd r)

-- all that a turn leaves
pub record Turn : Type 0 where
  pub turned : Turned
  pub regs : List ℕ
  pub list : List ℕ
  pub part : List ℕ
  pub memory : List ℕ

abbrev pub turn_out : Turned → List ℕ → List ℕ → List ℕ → List ℕ → Turn
turn_out r regs l part m = record { turned = r; regs = regs; list = l; part = part; memory = m }

-- whether an opening was refused, and what the work left, put back
abbrev pub turned_of : Bool → Host → ℕ → Engine → Turned
turned_of refused h i e = record { refused = refused; stream = e.stream; host = with_queue h i e.queue }

abbrev pub finished : Bool → List ℕ → Host → ℕ → Work → Turn
finished refused regs h i x = turn_out (turned_of refused h i x.engine) (store_engine i x.engine regs) x.list x.part x.memory

abbrev pub opened_of : List ℕ → Codec → ℕ → ℕ → ℕ → ℕ → Stream → List ℕ → List ℕ → List ℕ → Opening → Turn
opened_of regs codec i rate nanos limit s l part m o =
    let x = work_of (engine_of regs o.host i s) l part m in
    cond o.ok (finished false regs o.host i (served_of (setup_of regs codec i o.host.downstream limit) rate nanos x))
    (finished true regs o.host i (work_of (stopped_of x.engine) l part m))

-- an unsupported format stops the stream, and that is no refusal
abbrev pub formatted_of : List ℕ → Codec → Host → Bool → ℕ → ℕ → ℕ → Stream → List ℕ → List ℕ → List ℕ → Option ℕ → Turn
formatted_of regs codec h microphone i nanos limit s l part m None = finished false regs h i (work_of (stopped_of (engine_of regs h i s)) l part m)
formatted_of regs codec h microphone i nanos limit s l part m (Some rate) =
    opened_of regs codec i rate nanos limit s l part m (open_stream_of h microphone i)

-- The turn of stream i: format, opening, position update, time, transfers. `limit` is what its queue may hold: 2,048 bytes for a lone device.
unfoldable pub turn_of : List ℕ → Codec → Host → Bool → ℕ → ℕ → ℕ → Stream → List ℕ → List ℕ → List ℕ → Turn
turn_of regs codec h microphone i nanos limit s l part m =
    formatted_of regs codec h microphone i nanos limit s l part m (format_of (word_at 2 (fmt i) regs))

-- what a position update requires: a stream of the box, and room for every position
pub record UpdateNeeds (g : Setup) (s : Stream) (list : List ℕ) : Type 0 where
  pub stream : g.index < streams
  pub pending : s.pending ≤ places
  pub long : list_size ≤ length list

-- what an engine at work requires: a stream of the box, a queue within its limit, and room for every position and for the queue
pub record WorkNeeds (g : Setup) (e : Engine) (list part : List ℕ) : Type 0 where
  pub stream : g.index < streams
  pub pending : e.stream.pending ≤ places
  pub queued : e.queue.length ≤ capacity
  pub limited : g.limit ≤ capacity
  pub long : list_size ≤ length list
  pub space : capacity ≤ length part

-- and a turn: a stream of the box whose list and queue are within their limits
pub record TurnNeeds (h : Host) (i limit : ℕ) (s : Stream) (list part : List ℕ) : Type 0 where
  pub stream : i < streams
  pub pending : s.pending ≤ places
  pub queued : (queue_at h i).length ≤ capacity
  pub limited : limit ≤ capacity
  pub long : list_size ≤ length list
  pub space : capacity ≤ length part
