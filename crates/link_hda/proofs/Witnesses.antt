-- No exception is idle: for each a state that raises it, of which HDA 1.0a says nothing, or something else than what the device does.
use Prim.Native.Nat.{ℕ, ◌+◌, ◌*◌, ◌^◌}
use mathlib.Core.Path.{◌≡◌, refl}
use mathlib.Core.Bool.{Bool, true, false}
use mathlib.Core.List.{List, []}
use mathlib.Core.Option.{none, some}
use lib.ListN.{set, replicate}
use Rattle.word.specs.Place.{word_at, store_at, put_at}
use Rattle.memory.specs.Memory.{write_of}
use Rattle.node.specs.Nodes.{node_verb_of, set_of, fresh_node_of}
use Rattle.node.specs.Parameters.{parameter_of}
use Rattle.codec.specs.declared.Codec.{Codec}
use Rattle.codec.specs.Codecs as codec
use Rattle.codec.specs.Codecs.{verb_of}
use Rattle.codec_hda.specs.HdaParameters.{declared}
use Rattle.registers.specs.Places.{gctl, corbwp, corbctl, rirbwp, rirbctl, rirbsts, rirbsize, icoi, icii, icis, byte_at, dma_of}
use Rattle.immediate.specs.Immediate.{Immediate, immediately, immediate_of}
use Rattle.rings.specs.Rings.{link_of, response_of}
use Rattle.rings_hda.specs.Hda as rings
use Rattle.rings_hda.specs.Exceptions.{SizeReserved, PointerOutside, ResponseOff, ResponseOutside, response_exception, store_exception}
use Rattle.host.specs.Hosts as host
use Rattle.clock.specs.Clock as clock
use Rattle.device.specs.Devices.{hda}
use Rattle.device.specs.Machines.{Machine, machine, unchanged}
use Rattle.hda.specs.Calls.{unsolicited, pin_step}
use Rattle.link_hda.specs.Unsolicited.{declares, sent_of, change_of}
use Rattle.link_hda.specs.Immediate.{written_of}
use Rattle.link_hda.specs.Exceptions.{Exception, None, Undeclared, DmaOff, InRing, InReset, BusySet, RingsRun, unsolicited_exception, immediate_exception}
use Rattle.link_hda.specs.Steps.{state_in, control_in}

-- ---- a pin's change of presence
-- the fresh codec after verb 0x708 has set pin 3's byte: enabled, the reserved bit, tag 5
abbrev listening : Codec
listening = (verb_of codec.fresh_of 0x0037_08c5).codec

abbrev pin : List ℕ → List ℕ → List ℕ → Machine
pin config regs memory = machine (hda config regs (link_of listening 0) [] clock.fresh_of false false false) host.fresh_of [] [] memory

-- bus master on; out of reset, unsolicited responses accepted, the response ring on with two entries at 0
abbrev master : List ℕ
master = set (replicate 256 0) 4 4

abbrev accepting : List ℕ
accepting = set (set (replicate 256 0) gctl 1) (gctl + 1) 1

abbrev on : List ℕ
on = set accepting rirbctl 2

abbrev able : ℕ → Bool
able node = true

-- with memory for them
abbrev ready : Machine
ready = pin master on (replicate 16 0)

-- No exception, if pin 3 were to declare it: HDA's word has tag 5, and entry 1 the word and its mark.
pub tagged : (unsolicited_exception able master (state_in ready) 3 (control_in ready 3) ≡ None) × (sent_of able on 3 (control_in ready 3) ≡ some (5 * 2 ^ 26))
    × (word_at 8 8 (pin_step 3 ready).memory ≡ 16 * 2 ^ 32 + 5 * 2 ^ 26)
unfolding unsolicited_exception store_exception response_exception rings.next_response rings.dma_of dma_of sent_of declared word_at store_at put_at write_of response_of pin_step verb_of node_verb_of set_of codec.fresh_of fresh_node_of
tagged = (refl, refl, refl)

-- It does not: HDA sends nothing, and the device that same entry.
pub undeclared : (unsolicited_exception declares master (state_in ready) 3 (control_in ready 3) ≡ Undeclared)
    × (change_of declares master (state_in ready) 3 (control_in ready 3) ≡ some (state_in ready)) × (word_at 8 8 (pin_step 3 ready).memory ≡ 16 * 2 ^ 32 + 5 * 2 ^ 26)
unfolding unsolicited_exception change_of rings.dma_of dma_of sent_of declared word_at store_at put_at write_of response_of pin_step verb_of node_verb_of set_of codec.fresh_of fresh_node_of
undeclared = (refl, refl, refl)

-- Where HDA is silent: the exception, and what the device has done before the end of the call.
abbrev Silent : Machine → Exception → Type 0
Silent x e =
    (unsolicited_exception able x.hda.config (state_in x) 3 (control_in x 3) ≡ e) × (change_of able x.hda.config (state_in x) 3 (control_in x 3) ≡ none)

abbrev overrun : Machine → ℕ
overrun x = byte_at (unsolicited x.hda x.memory 3).hda.regs rirbsts

-- bus master is off: nothing
abbrev masterless : Machine
masterless = pin (replicate 256 0) on (replicate 16 0)

pub dma-off : Silent masterless DmaOff × (pin_step 3 masterless ≡ unchanged 0 masterless)
unfolding unsolicited_exception change_of rings.response_of rings.next_response rings.dma_of dma_of sent_of declared word_at pin_step verb_of node_verb_of set_of codec.fresh_of fresh_node_of
dma-off = ((refl, refl), refl)

-- the response ring is off, or memory ends before the entry does: an overrun
pub ring-off : Silent (pin master accepting (replicate 16 0)) (InRing ResponseOff) × (overrun (pin master accepting (replicate 16 0)) ≡ 4)
unfolding unsolicited_exception store_exception response_exception change_of rings.response_of rings.next_response rings.dma_of sent_of declared word_at response_of verb_of node_verb_of set_of codec.fresh_of fresh_node_of
ring-off = ((refl, refl), refl)

pub ring-outside : Silent (pin master on (replicate 15 0)) (InRing ResponseOutside) × (overrun (pin master on (replicate 15 0)) ≡ 4)
unfolding unsolicited_exception store_exception response_exception change_of rings.response_of rings.next_response rings.dma_of sent_of declared word_at write_of response_of verb_of node_verb_of set_of codec.fresh_of fresh_node_of
ring-outside = ((refl, refl), refl)

-- a size code that is reserved, a pointer outside the ring: entry 1, at 8
abbrev large : Machine
large = pin master (set on rirbsize 3) (replicate 16 0)

pub ring-size : Silent large (InRing SizeReserved) × (word_at 8 8 (pin_step 3 large).memory ≡ 16 * 2 ^ 32 + 5 * 2 ^ 26)
unfolding unsolicited_exception store_exception response_exception change_of rings.response_of rings.next_response rings.dma_of dma_of sent_of declared word_at store_at put_at write_of response_of pin_step verb_of node_verb_of set_of codec.fresh_of fresh_node_of
ring-size = ((refl, refl), refl)

abbrev far : Machine
far = pin master (set on rirbwp 2) (replicate 16 0)

pub ring-pointer : Silent far (InRing PointerOutside) × (word_at 8 8 (pin_step 3 far).memory ≡ 16 * 2 ^ 32 + 5 * 2 ^ 26)
unfolding unsolicited_exception store_exception response_exception change_of rings.response_of rings.next_response rings.dma_of dma_of sent_of declared word_at store_at put_at write_of response_of pin_step verb_of node_verb_of set_of codec.fresh_of fresh_node_of
ring-pointer = ((refl, refl), refl)

-- ---- the immediate command
-- out of reset, and the root node asked for its vendor
abbrev asking : List ℕ
asking = store_at 4 icoi 0x000f_0000 (set (replicate 256 0) gctl 1)

-- what a write leaves: status and input
abbrev Left : Immediate → ℕ → ℕ → Type 0
Left o status input = (byte_at o.regs icis ≡ status) × (word_at 4 icii o.regs ≡ input)

abbrev made : List ℕ → ℕ → Immediate
made regs written = immediate_of regs codec.fresh_of written

-- No exception: one write, as firmware does it, clears valid and sends the command; its answer is there, and valid.
pub answered : (immediate_exception (set asking icis 2) 3 ≡ None) × Left (made (set asking icis 2) 3) 2 0x1af4_0022
unfolding immediate_exception immediate_of store_at word_at verb_of parameter_of
answered = (refl, (refl, refl))

-- A command to codec 1 has no answer and stays busy; a 0 clears busy, and a 1 in valid valid.
abbrev unanswered : List ℕ
unanswered = store_at 4 icoi 0x100f_0000 (set (replicate 256 0) gctl 1)

pub stuck : (immediate_exception unanswered 1 ≡ None) × Left (made unanswered 1) 1 0 × (immediate_exception (set unanswered icis 3) 2 ≡ None) × Left (made (set unanswered icis 3) 2) 0 0
unfolding immediate_exception immediate_of store_at word_at verb_of
stuck = (refl, (refl, refl), refl, (refl, refl))

-- in reset: HDA ignores the write, and the device clears both
abbrev resting : List ℕ
resting = set (replicate 256 0) icis 3

pub in-reset : (immediate_exception resting 2 ≡ InReset) × (written_of resting codec.fresh_of 2 ≡ some (immediately resting codec.fresh_of)) × Left (made resting 2) 0 0
unfolding immediate_exception written_of immediate_of word_at
in-reset = (refl, refl, (refl, refl))

-- busy already: HDA sends nothing, and the device the command
abbrev busy : List ℕ
busy = set asking icis 1

pub busy-set : (immediate_exception busy 1 ≡ BusySet) × (written_of busy codec.fresh_of 1 ≡ some (immediately busy codec.fresh_of)) × Left (made busy 1) 2 0x1af4_0022
unfolding immediate_exception written_of immediate_of store_at word_at verb_of parameter_of
busy-set = (refl, refl, (refl, refl))

-- a ring runs: HDA says nothing; the device sends with the command ring caught up or stopped, and drops the command with one waiting
abbrev Running : List ℕ → Type 0
Running regs = (immediate_exception regs 1 ≡ RingsRun) × (written_of regs codec.fresh_of 1 ≡ none)

pub command-ring : Running (set asking corbctl 2) × Left (made (set asking corbctl 2) 1) 2 0x1af4_0022
unfolding immediate_exception written_of immediate_of store_at word_at verb_of parameter_of
command-ring = ((refl, refl), (refl, refl))

pub response-ring : Running (set asking rirbctl 2) × Left (made (set asking rirbctl 2) 1) 2 0x1af4_0022
unfolding immediate_exception written_of immediate_of store_at word_at verb_of parameter_of
response-ring = ((refl, refl), (refl, refl))

pub waiting : Running (set (set asking corbctl 2) corbwp 1) × Left (made (set (set asking corbctl 2) corbwp 1) 1) 0 0
unfolding immediate_exception written_of immediate_of store_at word_at verb_of
waiting = ((refl, refl), (refl, refl))
