-- The calls `restore` (document 01, "Numbers returned" and "Where port and Rust part"; the Rust's `restore_state`) and, for states with crowded lists, `restore_emptied`
-- (request T-09): `strict` is true for the first, which refuses them, and false for the second, which empties those lists.
use Rattle.std.specs.Prelude.{ℕ, zero, suc, ◌+◌, ◌*◌, ◌≤◌, ◌<◌, Bool, false, cond, not, ◌&&◌, ◌||◌, List, length, take, drop, eqb, ltb, None}
use Rattle.word.specs.Place.{put_at, store_at}
use Rattle.word.specs.Each.{each_of, always}
use Rattle.clock.specs.declared.Clock.{Clock}
use Rattle.clock.specs.Clock.{shown_of}
use Rattle.stream.specs.declared.Stream.{Stream}
use Rattle.stream.specs.Streams.{places, list_size, uncrowded_of, emptied_of}
use Rattle.stream.specs.Box.{streams, captures}
use Rattle.queue.specs.declared.Queue.{Queue}
use Rattle.queue.specs.Queues.{queue}
use Rattle.host.specs.declared.Host.{Host}
use Rattle.host.specs.Hosts as hosts
use Rattle.registers.specs.Places.{walclk, ctl, byte_at, has}
use Rattle.device.specs.declared.Hda.{Hda}
use Rattle.device.specs.declared.Answer.{Answer}
use Rattle.device.specs.Devices.{hda}
use Rattle.device.specs.Machines.{check_of, answer_of, finish_of}
use Rattle.record.specs.Layout.{numbers_size}
use Rattle.record.specs.Rows.{row_of}
use Rattle.record.specs.Loads.{flag_at, block_at, link_at, clock_at, stream_at}
use Rattle.parse.specs.States.{place_of, state_number}

-- a stream of the state is to be open where it runs, an input only on a device with a microphone; the registers stand at 262
abbrev pub opens_of : List ℕ → Bool → ℕ → Bool
opens_of s microphone i = has 2 (byte_at s (262 + ctl i)) && (not (captures i) || microphone)

-- 1 where the host refuses one of them; all are asked before anything changes
unfoldable pub refused_from : ℕ → ℕ → List ℕ → Bool → Host → Bool
refused_from zero i s microphone h = false
refused_from (suc n) i s microphone h = (opens_of s microphone i && hosts.fails_of h i) || refused_from n (i + 1) s microphone h

unfoldable pub opening_number : List ℕ → Bool → Host → ℕ
opening_number s microphone h = cond (refused_from streams 0 s microphone h) 1 0

-- the later of the two clocks
unfoldable pub later_of : Clock → Clock → Clock
later_of own other = cond (ltb own.ticks other.ticks || (eqb own.ticks other.ticks && ltb own.fraction other.fraction)) other own

-- stream i of a state
abbrev pub stream_of : List ℕ → ℕ → Stream
stream_of s i = stream_at (place_of s i) s

-- an accepted state has all of its streams, and none has more positions than places
pub record Fits (s : List ℕ) : Type 0 where
  pub whole : place_of s streams ≤ length s
  pub few : (i : ℕ) → i < streams → (stream_of s i).pending ≤ places

-- its positions, and what follows them
abbrev pub list_of : List ℕ → ℕ → List ℕ
list_of s i = drop (place_of s i + numbers_size) s

-- a stream as it is put in force: with an empty list where its own is crowded and that is not refused
abbrev pub kept_of : Bool → Stream → List ℕ → Stream
kept_of strict t list = cond (strict || uncrowded_of t list) t (emptied_of t)

abbrev pub restored_stream : Bool → List ℕ → ℕ → Stream
restored_stream strict s i = kept_of strict (stream_of s i) (list_of s i)

-- stream i and those after it
abbrev pub restored_streams : Bool → ℕ → ℕ → List ℕ → List Stream
restored_streams strict n i s = row_of (restored_stream strict s) n i

-- its positions, at the start of its part of the lists
abbrev pub positions_at : Bool → List ℕ → ℕ → List ℕ
positions_at strict s i = take (8 * (restored_stream strict s i).pending) (list_of s i)

abbrev pub put_positions : Bool → List ℕ → ℕ → List ℕ → List ℕ
put_positions strict s i lists = put_at (list_size * i) (positions_at strict s i) lists

unfoldable pub restored_lists : Bool → List ℕ → List ℕ → List ℕ
restored_lists strict s lists = each_of always (put_positions strict s) streams 0 lists

-- queues are empty, and open where the stream is to be
abbrev pub restored_queues : ℕ → ℕ → List ℕ → Bool → List Queue
restored_queues n i s microphone = row_of (λ k. queue (opens_of s microphone k) 0) n i

abbrev pub restored_host : List ℕ → Bool → Host → Host
restored_host s microphone h = hosts.host h.playback h.capture h.downstream (restored_queues streams 0 s microphone)

-- the device of the state with the later clock, which register 0x30 shows; no message is asserted
unfoldable pub restored_device : Bool → List ℕ → Hda → Hda
restored_device strict s d =
    let c = later_of d.clock (clock_at s) in
    hda (block_at 6 s) (store_at 4 walclk (shown_of c) (block_at 262 s)) (link_at s) (restored_streams strict streams 0 s) c d.microphone (flag_at 5 s) false

-- what restore leaves: its answer, and the lent lists
pub record Restored : Type 0 where
  pub answer : Answer
  pub lists : List ℕ

abbrev pub restored_out : Answer → List ℕ → Restored
restored_out answer lists = record { answer = answer; lists = lists }

-- a refusal changes nothing
abbrev pub refused_of : ℕ → Hda → Host → List ℕ → Restored
refused_of number d h lists = restored_out (answer_of number None d h) lists

-- the number of a state on a device that passes the check
abbrev pub number_of : Bool → List ℕ → Hda → Host → ℕ
number_of strict s d h =
    let number = state_number strict s d.microphone d.config in
    cond (eqb number 0) (opening_number s d.microphone h) number

-- accepted: the change, then the interrupt
abbrev pub accepted_of : Bool → List ℕ → Hda → Host → List ℕ → Restored
accepted_of strict s d h lists = restored_out (finish_of 0 (restored_device strict s d) (restored_host s d.microphone h)) (restored_lists strict s lists)

unfoldable pub restore_step : Bool → List ℕ → Hda → Host → List ℕ → Restored
restore_step strict s d h lists = cond (eqb (number_of strict s d h) 0) (accepted_of strict s d h lists) (refused_of (number_of strict s d h) d h lists)

unfoldable pub restore_of : Bool → List ℕ → Hda → Host → List ℕ → ℕ → Restored
restore_of strict s d h lists queues =
    let number = check_of d h lists queues in
    cond (eqb number 0) (restore_step strict s d h lists) (refused_of number d h lists)
