-- The device's rings in HDA's terms, and whole runs of the command ring as HDA has them: what the theorems of proofs/ speak of.
use Rattle.std.specs.Prelude.{ℕ, zero, suc, ◌≡◌, true, false, cond, List, eqb, length, get_or, set}
use Rattle.std.proofs.Math.Option.{Option, none, some}
use Rattle.std.specs.Int.Bits.{bit_and}
use Rattle.word.specs.Value.{value_of, Bytes}
use Rattle.word.specs.Place.{word_at, store_at}
use Rattle.codec.specs.declared.Codec.{Codec}
use Rattle.std.specs.Prelude.{Option as Reply, Some as Value, None as Nothing}
use Rattle.codec.specs.Codecs.{verb_of}
use Rattle.registers.specs.Places.{corbbase, corbrp, corbwp, rirbbase, rirbctl, byte_at, has, dma_of}
use Rattle.rings.specs.Rings as rings
use Rattle.rings.specs.Rings.{Rings, rings_of, link_of, with_regs, entry_at, answered_of, current_of, halted_of, running_of}
use Rattle.rings_hda.specs.Hda as hda
use Rattle.rings_hda.specs.Hda.{Next, Rest, Use, bit, State, state_of, Fetch, Resting, Fetched, Failed, Unsaid}
use Rattle.rings_hda.specs.Exceptions.{None, command_exception}

-- the device's rings as HDA's state, and back with a codec
abbrev pub ring_state : Rings → State
ring_state x = state_of x.regs x.link.responses x.memory

abbrev pub rings_from : Codec → State → Rings
rings_from codec s = rings_of s.regs (link_of codec s.since) s.memory

-- ---- the device
-- the entry of its next fetch
abbrev pub device_command : List ℕ → List ℕ → Next
device_command config regs =
    cond (running_of (dma_of config regs) regs)
    (cond (eqb (current_of regs corbrp) (current_of regs corbwp)) Rest (Use (rings.next_command regs) (entry_at (word_at 8 corbbase regs) 4 (rings.next_command regs))))
    Rest

-- the fetch
abbrev pub read_by : Rings → Fetch
read_by x =
    cond (rings.fetch_of x).moved (Fetched (value_of (rings.fetch_of x).bytes) (ring_state (with_regs x (store_at 2 corbrp (rings.next_command x.regs) x.regs))))
    (Failed (ring_state (halted_of x)))

abbrev pub device_fetch : List ℕ → Rings → Fetch
device_fetch config x =
    cond (running_of (dma_of config x.regs) x.regs) (cond (eqb (current_of x.regs corbrp) (current_of x.regs corbwp)) Resting (read_by x)) Resting

-- what the codec makes of a fetched command, with the response where there is one; `rest` goes on
abbrev pub after_fetch : Rings → Fetch → (Rings → Rings) → Rings
after_fetch x Resting rest = x
after_fetch x (Fetched w s) rest = let o = verb_of x.link.codec w in rest (answered_of (rings_from x.link.codec s) o.codec o.reply)
after_fetch x (Failed s) rest = rings_from x.link.codec s
after_fetch x Unsaid rest = x

-- where a response goes, which the device has only with DMA on
abbrev pub device_response : List ℕ → Next
device_response regs = cond (has 2 (byte_at regs rirbctl)) (Use (rings.next_response regs) (entry_at (word_at 8 rirbbase regs) 8 (rings.next_response regs))) Rest

-- ---- HDA's answers, with what the device does at a named exception of docs/DIFFERENCES.md
-- A fetch: at `MemoryError` the run bit is cleared too. (`Unsaid` is an exception: it never comes here.)
abbrev pub stopped : State → State
stopped s = state_of (set s.regs 0x4c (bit_and (get_or s.regs 0x4c 0) 0xfd)) s.since s.memory

abbrev pub halting : Fetch → Fetch
halting Resting = Resting
halting (Fetched w s) = Fetched w s
halting (Failed s) = Failed (stopped s)
halting Unsaid = Unsaid

-- A response: at `ResponseOff` and `ResponseOutside` it is an overrun.
abbrev pub losing : State → Option State → State
losing s none = hda.overrun_of s
losing s (some t) = t

-- ---- runs
-- what HDA says of a run: it ends here, with none to fetch; a memory error ends it here, all but the run bit; or nothing
pub data Run : Type 0 where
  Ended : Rings → Run
  Errored : Rings → Run
  Silent : Run

-- As HDA has them, with the device's codec (address 0) behind the link: what comes next is asked anew after each command, until none does.
abbrev pub replied_by : List ℕ → State → Reply ℕ → Option State
replied_by config s Nothing = some s
replied_by config s (Value v) = hda.response_of config s 0 false v

abbrev pub followed : Codec → Option State → (Rings → Run) → Run
followed codec none rest = Silent
followed codec (some s) rest = rest (rings_from codec s)

abbrev pub continued : List ℕ → Rings → Fetch → (Rings → Run) → Run
continued config x Resting rest = Ended x
continued config x (Fetched w s) rest = let o = verb_of x.link.codec w in followed o.codec (replied_by config s o.reply) rest
continued config x (Failed s) rest = Errored (rings_from x.link.codec s)
continued config x Unsaid rest = Silent

unfoldable pub run_of : ℕ → List ℕ → Rings → Run
run_of zero config x = Ended x
run_of (suc fuel) config x = continued config x (hda.fetch_of config (ring_state x)) (run_of fuel config)

-- where the device is behind such a run: at `MemoryError` the run bit is cleared too
abbrev pub landing : Run → Option Rings
landing (Ended y) = some y
landing (Errored y) = some (rings_from y.link.codec (stopped (ring_state y)))
landing Silent = none

-- The commands as HDA names them, whatever becomes of the responses, with the device's stop at a memory error.
unfoldable pub hda_fetches : ℕ → List ℕ → Rings → Rings
hda_fetches zero config x = x
hda_fetches (suc fuel) config x = after_fetch x (halting (hda.fetch_of config (ring_state x))) (hda_fetches fuel config)

-- ---- ring states
-- a register file
pub record File (regs : List ℕ) : Type 0 where
  pub size : length regs ≡ 256
  pub range : Bytes regs

-- one whose command ring runs, with HDA saying all of where its next command is
pub record Regular (config regs : List ℕ) : Type 0 where
  pub size : length regs ≡ 256
  pub range : Bytes regs
  pub dma : hda.dma_of config regs ≡ true
  pub runs : bit 2 (get_or regs 0x4c 0) ≡ true
  pub plain : command_exception config regs ≡ None
