-- What a C function returns (docs/LAYOUT.md), and the test of the records that it is handed.
use Rattle.std.specs.Prelude.{ℕ, ◌+◌, ◌*◌, ◌%◌, ◌^◌, Bool, true, false, cond, ◌&&◌, List, Option, None, Some}
use Rattle.pci.specs.declared.Message.{Message}
use Rattle.device.specs.Machines.{short_of}
use Rattle.record.specs.Loads.{is_device}
use Rattle.host_record.specs.Hosts.{is_host}

-- whether there is a message to send; its address and data are those of the configuration that the call leaves
abbrev pub is_sent : Option Message → Bool
is_sent None = false
is_sent (Some _) = true

abbrev pub bit_of : Bool → ℕ → ℕ
bit_of on place = cond on place 0

-- document 01's number in bits 7..0, the INTx level in bit 8, a message in bit 9, and from bit 32 on a value: frames, bytes, or a configuration register
abbrev pub reply_of : ℕ → Bool → Bool → ℕ → ℕ
reply_of number level sent value = number % 256 + bit_of level 0x100 + bit_of sent 0x200 + 2 ^ 32 * value

-- where a call fills lent space: its number in bits 7..0, the bytes that it wrote in bits 43..8, since the largest take as a file (T-02) has more than 32 bits can say, and from bit 44 on the take's frames a second
abbrev pub fill_reply_of : ℕ → ℕ → ℕ → ℕ
fill_reply_of number count rate = number % 256 + 2 ^ 8 * (count % 2 ^ 36) + 2 ^ 44 * (rate % 2 ^ 20)

-- bytes that are no record give 9, after 10 for short spaces (document 01, "What must change shape" and "Numbers returned"); there is then no level to report
abbrev pub unreadable_of : ℕ → ℕ → ℕ
unreadable_of lists queues = cond (short_of lists queues) 10 9

abbrev pub is_machine : List ℕ → List ℕ → Bool
is_machine device host = is_device device && is_host host
