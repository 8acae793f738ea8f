-- The interrupt line and message (document 01, "Host end, added": "the INTx level it leaves and at most one MSI message"; the Rust's `update_irq`).
use Rattle.std.specs.Prelude.{ℕ, ◌+◌, ◌-◌, ◌^◌, Bool, cond, not, ◌&&◌, ◌||◌, List, [], ◌∷◌, eqb, Option, Some, None}
use Rattle.std.specs.Int.Bits.{bit_and}
use Rattle.word.specs.Place.{word_at, store_at}
use Rattle.word.specs.Each.{each_of, always}
use Rattle.stream.specs.Box.{streams}
use Rattle.registers.specs.Places.{wakeen, statests, intctl, intsts, corbctl, corbsts, rirbctl, rirbsts, ctl, sts, byte_at, has, with_bits, keep_bits}
use Rattle.pci.specs.declared.Message.{Message}
use Rattle.pci.specs.declared.Interrupt.{Interrupt}
use Rattle.pci.specs.declared.Signal.{Signal}

-- an enabled status: the rings' memory error, response and overrun, and a codec's state change
abbrev pub controller_of : List ℕ → Bool
controller_of regs =
    has 1 (bit_and (byte_at regs corbsts) (byte_at regs corbctl))
    || has 5 (bit_and (byte_at regs rirbsts) (byte_at regs rirbctl))
    || not (eqb (bit_and (word_at 2 statests regs) (word_at 2 wakeen regs)) 0)

-- a stream's completion, FIFO or descriptor status, enabled
abbrev pub stream_of : List ℕ → ℕ → Bool
stream_of regs i = has 0x1c (bit_and (byte_at regs (sts i)) (byte_at regs (ctl i)))

-- the sources: bit 30 for the controller, bit i for stream i
unfoldable pub sources_of : List ℕ → ℕ
sources_of regs = each_of always (λ (i n : ℕ). cond (stream_of regs i) (n + 2 ^ i) n) streams 0 (cond (controller_of regs) (2 ^ 30) 0)

-- global interrupt status: the sources, and bit 31 where there is any
abbrev pub status_of : List ℕ → ℕ
status_of regs = cond (eqb (sources_of regs) 0) 0 (sources_of regs + 2 ^ 31)

-- an interrupt is pending, of global status and control: global enable, and an enabled source
abbrev pub pending_by : ℕ → ℕ → Bool
pending_by status control = has (2 ^ 31) control && not (eqb (bit_and (bit_and status control) (2 ^ 30 + (2 ^ streams - 1))) 0)

unfoldable pub pending_of : List ℕ → Bool
pending_of regs = pending_by (status_of regs) (word_at 4 intctl regs)

-- whether the interrupt goes as a message
abbrev pub messages : List ℕ → Bool
messages config = has 1 (byte_at config 0x62)

-- The INTx level: a function of registers and configuration.
unfoldable pub level_of : List ℕ → List ℕ → Bool
level_of config regs = pending_of regs && (not (messages config) && not (has 4 (byte_at config 0x05)))

-- the messages that a case stands for, as address and data: none, or one
pub record Sent : Type 0 where
  pub address : ℕ
  pub value : ℕ

abbrev pub sent_of : Option Message → List Sent
sent_of None = []
sent_of (Some m) = record { address = m.address; value = m.value } ∷ []

-- the message that the configuration asks for
abbrev pub message_of : List ℕ → Option Message
message_of config = Some (record { address = word_at 8 0x64 config; value = word_at 2 0x6c config })

-- What the files say of the interrupt, where a message was `asserted` before or not: one is sent when an interrupt is pending that goes as a message and was not.
abbrev pub interrupt_of : List ℕ → List ℕ → Bool → Interrupt
interrupt_of config regs asserted =
    let pending = pending_of regs in
    let message = messages config in
    record {
      status = status_of regs;
      shown = pending && not message;
      asserted = pending && message;
      level = level_of config regs;
      msi = cond (pending && message && not asserted) (message_of config) None;
    }

-- the interrupt status bit of the configuration
abbrev pub shown_of : Bool → List ℕ → List ℕ
shown_of on config = cond on (with_bits 0x06 8 config) (keep_bits 0x06 0xf7 config)

-- all that an update leaves
pub record Update : Type 0 where
  pub config : List ℕ
  pub regs : List ℕ
  pub signal : Signal

abbrev pub update_out : List ℕ → List ℕ → Signal → Update
update_out config regs signal = record { config = config; regs = regs; signal = signal }

abbrev pub signal_of : Bool → Option Message → Signal
signal_of asserted msi = record { asserted = asserted; msi = msi }

-- Global status is recomputed, and the interrupt status bit of the configuration follows where no message is used.
unfoldable pub update_of : List ℕ → List ℕ → Bool → Update
update_of config regs asserted =
    let i = interrupt_of config regs asserted in
    update_out (shown_of i.shown config) (store_at 4 intsts i.status regs) (signal_of i.asserted i.msi)
