-- Where HDA 1.0a leaves open what happens in a ring, or the device does otherwise, by name (docs/DIFFERENCES.md lists them): the Rust decides there.
use Rattle.std.specs.Prelude.{ℕ, ◌+◌, ◌%◌, Bool, true, false, cond, not, ◌&&◌, List, length, get_or, leb, ltb}
use Rattle.std.proofs.Math.Option.{Option, none, some}
use Rattle.word.specs.Place.{word_at}
use Rattle.rings_hda.specs.Hda.{bit, dma_of, size_of, Next, Rest, Use, Open, next_command, next_response, State}

pub data Exception : Type 0 where
  None : Exception
  -- size code 3: reserved in HDA; the device's ring has 256 entries
  SizeReserved : Exception
  -- a pointer past the end of its ring: HDA does not say what it means; the device takes it modulo the entries
  PointerOutside : Exception
  -- the read pointer's reset bit while the ring runs: HDA has software stop the ring first; the device's rests
  ResetHeld : Exception
  -- a command that memory does not have: a memory error in both; HDA says nothing of the run bit, the device clears it
  MemoryError : Exception
  -- a response while the response ring is off: HDA says nothing; the device loses it, as in an overrun
  ResponseOff : Exception
  -- a response whose entry memory does not have: HDA says nothing; the device loses it, as in an overrun
  ResponseOutside : Exception
  -- a frame without a response after one, while the command ring does not run: HDA sets the response interrupt status; the device when the ring next runs
  IdleUnseen : Exception

abbrev pub is_none : Exception → Bool
is_none None = true
is_none SizeReserved = false
is_none PointerOutside = false
is_none ResetHeld = false
is_none MemoryError = false
is_none ResponseOff = false
is_none ResponseOutside = false
is_none IdleUnseen = false

-- the first of two
abbrev pub or_else : Exception → Exception → Exception
or_else e f = cond (is_none e) f e

-- of a ring, by its size and whether its pointers are entries of it
abbrev pub ring_exception : Option ℕ → (ℕ → Bool) → Exception
ring_exception none inside = SizeReserved
ring_exception (some entries) inside = cond (inside entries) None PointerOutside

-- which command comes next
unfoldable pub command_exception : List ℕ → List ℕ → Exception
command_exception config regs =
    cond (dma_of config regs && bit 2 (get_or regs 0x4c 0))
    (cond (bit 0x8000 (word_at 2 0x4a regs)) ResetHeld
    (ring_exception (size_of (get_or regs 0x4e 0 % 4)) (λ (entries : ℕ). ltb (word_at 2 0x48 regs) entries && ltb (word_at 2 0x4a regs % 0x8000) entries)))
    None

-- and its fetch
abbrev pub unread : List ℕ → Next → Exception
unread memory Rest = None
unread memory (Use i a) = cond (leb (a + 4) (length memory)) None MemoryError
unread memory Open = None

unfoldable pub fetch_exception : List ℕ → State → Exception
fetch_exception config x = or_else (command_exception config x.regs) (unread x.memory (next_command config x.regs))

-- where the next response goes
unfoldable pub response_exception : List ℕ → List ℕ → Exception
response_exception config regs =
    cond (dma_of config regs && bit 2 (get_or regs 0x5c 0)) (ring_exception (size_of (get_or regs 0x5e 0 % 4)) (ltb (word_at 2 0x58 regs))) None

-- and what becomes of it
abbrev pub unwritten : List ℕ → Next → Exception
unwritten memory Rest = ResponseOff
unwritten memory (Use i a) = cond (leb (a + 8) (length memory)) None ResponseOutside
unwritten memory Open = None

unfoldable pub store_exception : List ℕ → State → Exception
store_exception config x = or_else (response_exception config x.regs) (unwritten x.memory (next_response config x.regs))

-- the frames behind the last response
unfoldable pub idle_exception : List ℕ → State → Exception
idle_exception config x = cond (ltb 0 x.since && not (dma_of config x.regs && bit 2 (get_or x.regs 0x4c 0))) IdleUnseen None
