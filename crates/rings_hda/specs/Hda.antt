-- The rings as HDA 1.0a has them (registers 3.3.18 to 3.3.31, use 4.4.1 and 4.4.2): which command is fetched next, where the next response goes, when the engines
-- stop, and when a status is set. Written from its tables, not from the device.
use Rattle.std.specs.Prelude.{ℕ, ◌+◌, ◌*◌, ◌/◌, ◌%◌, Bool, false, cond, ◌&&◌, ◌||◌, List, ◌++◌, length, get_or, set, eqb, leb, ltb}
use Rattle.std.proofs.Math.Option.{Option, none, some}
use Rattle.std.specs.Int.Bits.{bit_or}
use Rattle.word.specs.Value.{bytes_of}
use Rattle.word.specs.Place.{word_at, store_at, put_at}

-- bit n of a register, counted by its weight
abbrev pub bit : ℕ → ℕ → Bool
bit weight v = eqb (v / weight % 2) 1

-- ---- what comes next
-- Ring DMA needs PCI's bus master (command register, bit 2) and the controller out of reset (GCTL, bit 0). Without them both engines rest.
unfoldable pub dma_of : List ℕ → List ℕ → Bool
dma_of config regs = bit 4 (get_or config 4 0) && bit 1 (get_or regs 8 0)

-- entries by the size code in bits 1 and 0; code 3 is reserved
abbrev pub size_of : ℕ → Option ℕ
size_of code = cond (eqb code 0) (some 2) (cond (eqb code 1) (some 16) (cond (eqb code 2) (some 256) none))

-- what a ring engine does next: nothing, use the entry with this index at this address, or what HDA leaves open
pub data Next : Type 0 where
  Rest : Next
  Use : ℕ → ℕ → Next
  Open : Next

-- entry (pointer + 1) modulo the size, in a ring on a 128-byte boundary; a pointer outside the ring is open
abbrev pub entry_of : ℕ → ℕ → ℕ → ℕ → Next
entry_of base width entries pointer =
    cond (ltb pointer entries) (Use ((pointer + 1) % entries) (base / 128 * 128 + width * ((pointer + 1) % entries))) Open

abbrev pub sized : Option ℕ → (ℕ → Next) → Next
sized none f = Open
sized (some entries) f = f entries

-- The command ring: while CORBCTL's run bit is set and the read pointer, the command last fetched, is not the write pointer, the command last placed, the entry
-- behind it is fetched, 4 bytes long. While the read pointer's reset bit is set the engine has to be stopped: open.
abbrev pub command_of : ℕ → ℕ → ℕ → ℕ → Next
command_of base read write entries = cond (ltb write entries) (cond (eqb read write) Rest (entry_of base 4 entries read)) Open

unfoldable pub next_command : List ℕ → List ℕ → Next
next_command config regs =
    cond (dma_of config regs && bit 2 (get_or regs 0x4c 0))
    (cond (bit 0x8000 (word_at 2 0x4a regs)) Open
    (sized (size_of (get_or regs 0x4e 0 % 4)) (command_of (word_at 8 0x40 regs) (word_at 2 0x4a regs % 0x8000) (word_at 2 0x48 regs))))
    Rest

-- The response ring: while RIRBCTL's DMA bit is set, a response goes to the entry behind the write pointer, the one last written, 8 bytes long.
unfoldable pub next_response : List ℕ → List ℕ → Next
next_response config regs =
    cond (dma_of config regs && bit 2 (get_or regs 0x5c 0))
    (sized (size_of (get_or regs 0x5e 0 % 4)) (λ (entries : ℕ). entry_of (word_at 8 0x50 regs) 8 entries (word_at 2 0x58 regs)))
    Rest

-- The response interrupt status is set when as many responses have come since the last time as RINTCNT has (0 means 256), or at a frame without a response
-- after one. (Whether RIRBCTL bit 0 has to be set for it is not sure: docs/DIFFERENCES.md has it as open.)
abbrev pub batch_of : ℕ → ℕ
batch_of n = cond (eqb n 0) 256 n

unfoldable pub interrupt_of : List ℕ → ℕ → Bool → Bool
interrupt_of regs responses idle = leb (batch_of (get_or regs 0x5a 0)) responses || (idle && ltb 0 responses)

-- ---- what then happens
-- the registers, the responses since the response interrupt status was last set, and memory
pub record State : Type 0 where
  pub regs : List ℕ
  pub since : ℕ
  pub memory : List ℕ

abbrev pub state_of : List ℕ → ℕ → List ℕ → State
state_of regs since memory = record { regs = regs; since = since; memory = memory }

abbrev pub with_bit : ℕ → ℕ → List ℕ → List ℕ
with_bit at weight regs = set regs at (bit_or (get_or regs at 0) weight)

-- a command was fetched: the read pointer becomes its index
abbrev pub taken_of : State → ℕ → State
taken_of x i = state_of (store_at 2 0x4a i x.regs) x.since x.memory

-- A command could not be fetched: a memory error, CORBSTS bit 0. Of the run bit nothing is said.
abbrev pub memory_error_of : State → State
memory_error_of x = state_of (with_bit 0x4d 1 x.regs) x.since x.memory

-- A response overrun, RIRBSTS bit 2: the response is lost.
abbrev pub overrun_of : State → State
overrun_of x = state_of (with_bit 0x5d 4 x.regs) x.since x.memory

-- the response interrupt status, RIRBSTS bit 0, where it is to be set; the count then starts anew
abbrev pub count_of : Bool → State → State
count_of idle x = cond (interrupt_of x.regs x.since idle) (state_of (with_bit 0x5d 1 x.regs) 0 x.memory) x

-- a response was written: the write pointer becomes its index
abbrev pub stored_of : State → ℕ → ℕ → List ℕ → State
stored_of x i a entry = count_of false (state_of (store_at 2 0x58 i x.regs) (x.since + 1) (put_at a entry x.memory))

-- what HDA says of a fetch: none, this command with the state behind it, a memory error (all but the run bit), or nothing
pub data Fetch : Type 0 where
  Resting : Fetch
  Fetched : ℕ → State → Fetch
  Failed : State → Fetch
  Unsaid : Fetch

abbrev pub fetched : State → Next → Fetch
fetched x Rest = Resting
fetched x (Use i a) = cond (leb (a + 4) (length x.memory)) (Fetched (word_at 4 a x.memory) (taken_of x i)) (Failed (memory_error_of x))
fetched x Open = Unsaid

unfoldable pub fetch_of : List ℕ → State → Fetch
fetch_of config x = fetched x (next_command config x.regs)

-- What HDA says of a response: the state behind it, or nothing. Nothing where the ring is off or open, or memory does not have the entry: an overrun is a response
-- that came faster than the ones before it were written.
abbrev pub stored : State → List ℕ → Next → Option State
stored x entry Rest = none
stored x entry (Use i a) = cond (leb (a + 8) (length x.memory)) (some (stored_of x i a entry)) none
stored x entry Open = none

-- an entry: the response, and a word with the codec's address in bits 3..0 and bit 4 for an unsolicited one
abbrev pub entry_bytes : ℕ → Bool → ℕ → List ℕ
entry_bytes codec unsolicited value = bytes_of 4 value ++ bytes_of 4 (codec + cond unsolicited 16 0)

unfoldable pub response_of : List ℕ → State → ℕ → Bool → ℕ → Option State
response_of config x codec unsolicited value = stored x (entry_bytes codec unsolicited value) (next_response config x.regs)
