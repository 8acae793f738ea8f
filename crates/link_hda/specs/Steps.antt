-- The device in HDA's terms: what the theorems of proofs/ speak of.
use Rattle.std.specs.Prelude.{ℕ, ◌≡◌, Bool, false, cond, List, get_or}
use Rattle.std.proofs.Math.Option.{some}
use Rattle.node.specs.Nodes.{byte}
use Rattle.codec.specs.declared.Codec.{Codec}
use Rattle.codec.specs.Codecs.{node_at}
use Rattle.immediate.specs.Immediate.{Immediate, immediate_allowed}
use Rattle.rings.specs.Rings.{link_of}
use Rattle.rings_hda.specs.Hda.{bit, State, state_of}
use Rattle.device.specs.Devices.{with_regs, with_link}
use Rattle.device.specs.Machines.{Machine, machine, Done, unchanged, finished}
use Rattle.hda.specs.Calls.{listens, pin_step}
use Rattle.link_hda.specs.Unsolicited.{change_of}
use Rattle.link_hda.specs.Immediate.{is_busy, without_response, sent_of}

-- ---- a pin's change of presence
-- a machine's rings as HDA's state, and back
abbrev pub state_in : Machine → State
state_in x = state_of x.hda.regs x.hda.link.responses x.memory

abbrev pub with_state : Machine → State → Machine
with_state x s = machine (with_link (with_regs x.hda s.regs) (link_of x.hda.link.codec s.since)) x.host x.lists x.queues s.memory

-- a node's control byte, which verb 0x708 sets
abbrev pub control_in : Machine → ℕ → ℕ
control_in x node = byte (node_at x.hda.link.codec node) 8

-- the end of the call: the interrupt's, where the device listens to the pin
abbrev pub ended : ℕ → Machine → Machine → Done
ended node x y = cond (listens x.hda node) (finished 0 y) (unchanged 0 y)

-- HDA says what becomes of the change, and the call leaves just that: of the registers, the responses that wait and guest memory what HDA says, and the rest as it was.
pub record Delivers (able : ℕ → Bool) (node : ℕ) (x : Machine) : Type 0 where
  pub state : State
  pub said : change_of able x.hda.config (state_in x) node (control_in x node) ≡ some state
  pub made : pin_step node x ≡ ended node x (with_state x state)

-- ---- the immediate command
-- what the device does with the byte: whether it sends the command goes by reset and the command ring, and not by busy
abbrev pub made_of : List ℕ → Codec → ℕ → Immediate
made_of regs codec written =
    cond (bit 1 written)
    (cond (immediate_allowed regs) (sent_of regs codec written) (without_response regs codec written (is_busy (get_or regs 0x68 0))))
    (without_response regs codec written false)
