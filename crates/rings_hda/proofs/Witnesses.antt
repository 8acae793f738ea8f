-- No exception is idle: for each a ring state that raises it, of which HDA 1.0a says nothing, or something else, and the device does something.
use Prim.Native.Nat.{ℕ, ◌+◌}
use mathlib.Core.Path.{◌≡◌, refl}
use mathlib.Core.Bool.{true, false}
use mathlib.Core.List.{List, []}
use mathlib.Core.Option.{none, some}
use lib.ListN.{set, replicate}
use Rattle.word.specs.Place.{word_at, store_at, put_at}
use Rattle.memory.specs.Memory.{read_of, write_of}
use Rattle.node.specs.Parameters.{parameter_of}
use Rattle.codec.specs.Codecs.{fresh_of, verb_of}
use Rattle.registers.specs.Places.{gctl, corbwp, corbrp, corbctl, corbsize, rirbbase, rirbwp, rirbctl, rirbsts, rirbsize, byte_at, dma_of}
use Rattle.rings.specs.Rings.{Rings, rings_of, link_of, response_of, fetches_of, commands_of}
use Rattle.rings_hda.specs.Hda as hda
use Rattle.rings_hda.specs.Hda.{Next, Rest, Use, Open, bit, State, Failed}
use Rattle.rings_hda.specs.Exceptions.{Exception, None, SizeReserved, PointerOutside, ResetHeld, MemoryError, ResponseOff, ResponseOutside, IdleUnseen, command_exception, fetch_exception, response_exception, store_exception, idle_exception}
use Rattle.rings_hda.specs.Steps.{ring_state, device_command, device_fetch, device_response, stopped, run_of, landing}

-- bus master on, and registers out of reset
abbrev master : List ℕ
master = set (replicate 256 0) 4 4

abbrev zeros : List ℕ
zeros = set (replicate 256 0) gctl 1

-- ---- the command ring: it runs, its size is 2 but for the first
abbrev runs : List ℕ
runs = set zeros corbctl 2

abbrev Command : List ℕ → Exception → Next → Type 0
Command regs e does = (command_exception master regs ≡ e) × (hda.next_command master regs ≡ Open) × (device_command master regs ≡ does)

-- size code 3, 17 fetched of 18: the ring has 256 entries
pub command-size : Command (set (set (set runs corbsize 3) corbrp 17) corbwp 18) SizeReserved (Use 18 72)
unfolding command_exception hda.next_command hda.dma_of dma_of word_at
command-size = (refl, refl, refl)

-- write pointer 5: entry 1
pub command-pointer : Command (set runs corbwp 5) PointerOutside (Use 1 4)
unfolding command_exception hda.next_command hda.dma_of dma_of word_at
command-pointer = (refl, refl, refl)

-- the reset bit: none is fetched
pub command-reset : Command (set (set runs (corbrp + 1) 0x80) corbwp 1) ResetHeld Rest
unfolding command_exception hda.next_command hda.dma_of dma_of word_at
command-reset = (refl, refl, refl)

-- a command waits, and there is no memory: HDA leaves the run bit, the device clears it
abbrev missing : Rings
missing = rings_of (set runs corbwp 1) (link_of fresh_of 0) []

abbrev failed : State
failed = hda.memory_error_of (ring_state missing)

pub command-memory : (fetch_exception master (ring_state missing) ≡ MemoryError) × (hda.fetch_of master (ring_state missing) ≡ Failed failed)
    × (device_fetch master missing ≡ Failed (stopped failed)) × (bit 2 (byte_at failed.regs corbctl) ≡ true) × (bit 2 (byte_at (stopped failed).regs corbctl) ≡ false)
unfolding fetch_exception command_exception hda.fetch_of hda.next_command hda.dma_of dma_of read_of word_at
command-memory = (refl, refl, refl, refl, refl)

-- ---- the response ring: it is on
abbrev on : List ℕ
on = set zeros rirbctl 2

abbrev Response : List ℕ → Exception → Next → Type 0
Response regs e does = (response_exception master regs ≡ e) × (hda.next_response master regs ≡ Open) × (device_response regs ≡ does)

pub response-size : Response (set (set on rirbsize 3) rirbwp 17) SizeReserved (Use 18 144)
unfolding response_exception hda.next_response hda.dma_of word_at
response-size = (refl, refl, refl)

-- write pointer 65,535
pub response-pointer : Response (set (set on rirbwp 255) (rirbwp + 1) 255) PointerOutside (Use 0 0)
unfolding response_exception hda.next_response hda.dma_of word_at
response-pointer = (refl, refl, refl)

-- a response that the device loses, as HDA does in an overrun
abbrev Lost : Rings → Exception → Type 0
Lost x e =
    (store_exception master (ring_state x) ≡ e) × (hda.response_of master (ring_state x) 0 true 7 ≡ none) × (ring_state (response_of x 7 0x10) ≡ hda.overrun_of (ring_state x))

-- the ring is off
pub response-off : Lost (rings_of zeros (link_of fresh_of 0) (replicate 16 0)) ResponseOff
unfolding store_exception response_exception hda.response_of hda.next_response hda.dma_of response_of
response-off = (refl, refl, refl)

-- memory ends before the entry does
pub response-memory : Lost (rings_of on (link_of fresh_of 0) (replicate 15 0)) ResponseOutside
unfolding store_exception response_exception hda.response_of hda.next_response hda.dma_of response_of write_of word_at
response-memory = (refl, refl, refl)

-- ---- an idle frame
-- an unsolicited response, and then a guest's write, with the command ring stopped: HDA reports it at the next frame, the device when commands run
abbrev answered : Rings
answered = response_of (rings_of on (link_of fresh_of 0) (replicate 16 0)) 7 0x10

abbrev waiting : Rings
waiting = commands_of (dma_of master answered.regs) answered

pub idle-unseen : (idle_exception master (ring_state answered) ≡ IdleUnseen) × (bit 1 (byte_at (hda.count_of true (ring_state answered)).regs rirbsts) ≡ true)
    × (bit 1 (byte_at waiting.regs rirbsts) ≡ false)
unfolding idle_exception response_of commands_of hda.interrupt_of hda.dma_of dma_of write_of put_at store_at word_at
idle-unseen = (refl, refl, refl)

-- ---- none
-- the same ring, with its command in memory: HDA fetches it with bus master on, and rests with it off
pub bus-master : (hda.next_command master (set runs corbwp 1) ≡ Use 1 4) × (hda.next_command (replicate 256 0) (set runs corbwp 1) ≡ Rest)
    × (fetch_exception master (ring_state (rings_of (set runs corbwp 1) (link_of fresh_of 0) (replicate 8 0))) ≡ None)
unfolding fetch_exception command_exception hda.next_command hda.dma_of word_at
bus-master = (refl, refl, refl)

-- ---- a run of which HDA says all
-- entry 1 of the command ring asks the root node for its vendor; the answer goes to entry 1 of the response ring, which stands at 128
abbrev asking : Rings
asking = rings_of (set (set (set runs corbwp 1) rirbctl 2) rirbbase 128) (link_of fresh_of 0) (store_at 4 4 0x000f0000 (replicate 144 0))

pub one-command : (landing (run_of 2 master asking) ≡ some (fetches_of 2 asking)) × (word_at 4 136 (fetches_of 2 asking).memory ≡ 0x1af40022)
    × (word_at 2 corbrp (fetches_of 2 asking).regs ≡ 1) × (word_at 2 rirbwp (fetches_of 2 asking).regs ≡ 1)
unfolding run_of fetches_of hda.fetch_of hda.response_of hda.next_command hda.next_response hda.interrupt_of hda.dma_of response_of read_of write_of put_at store_at word_at verb_of parameter_of
one-command = (refl, refl, refl, refl)
