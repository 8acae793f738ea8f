-- The immediate command as HDA 1.0a has it (3.4): what a byte written to its status leaves. Written from its tables, not from the device. The codec's own answer is
-- the device's; crate codec_hda says where it is HDA's.
use Rattle.std.specs.Prelude.{ℕ, ◌+◌, ◌*◌, ◌/◌, Bool, true, false, cond, not, ◌&&◌, ◌||◌, List, get_or, set}
use Rattle.std.proofs.Math.Option.{Option, none, some}
use Rattle.word.specs.Place.{word_at, store_at}
use Rattle.codec.specs.declared.Codec.{Codec}
use Rattle.std.specs.Prelude.{Option as Reply, Some as Value, None as Nothing}
use Rattle.codec.specs.Codecs.{verb_of}
use Rattle.immediate.specs.Immediate.{Immediate, immediately}
use Rattle.rings_hda.specs.Hda.{bit}

-- The status (3.4.3): 7..4 the codec that answered, 3 and 2 nothing here, 1 valid, 0 busy. Only valid and busy can be written.
abbrev pub is_valid : ℕ → Bool
is_valid status = bit 2 status

abbrev pub is_busy : ℕ → Bool
is_busy status = bit 1 status

abbrev pub status_of : ℕ → Bool → Bool → ℕ
status_of status valid busy = status / 4 * 4 + (cond valid 2 0 + cond busy 1 0)

-- Where no response comes, a write leaves the status alone changed: a one in valid clears it.
abbrev pub without_response : List ℕ → Codec → ℕ → Bool → Immediate
without_response regs codec written busy =
    immediately (set regs 0x68 (status_of (get_or regs 0x68 0) (is_valid (get_or regs 0x68 0) && not (bit 2 written)) busy)) codec

-- A response goes to ICII (3.4.2), is valid, and the command no longer busy; the codec that answered is codec 0.
abbrev pub with_response : List ℕ → Codec → ℕ → Immediate
with_response regs codec value = immediately (set (store_at 4 0x64 value regs) 0x68 (0 * 16 + 2)) codec

-- with no response the command stays busy
abbrev pub answered_of : List ℕ → Codec → ℕ → Reply ℕ → Immediate
answered_of regs codec written Nothing = without_response regs codec written true
answered_of regs codec written (Value value) = with_response regs codec value

-- the command in ICOI (3.4.1), sent
abbrev pub sent_of : List ℕ → Codec → ℕ → Immediate
sent_of regs codec written = let o = verb_of codec (word_at 4 0x60 regs) in answered_of regs o.codec written o.reply

-- the command ring or the response ring runs: CORBCTL and RIRBCTL, bit 1
abbrev pub rings_run : List ℕ → Bool
rings_run regs = bit 2 (get_or regs 0x4c 0) || bit 2 (get_or regs 0x5c 0)

-- What HDA says of the byte: in reset (GCTL bit 0 clear) it is ignored. A command is sent where busy goes from 0 to 1, which software must not do while the rings run; a 0
-- clears a busy that is stuck.
unfoldable pub written_of : List ℕ → Codec → ℕ → Option Immediate
written_of regs codec written =
    cond (bit 1 (get_or regs 0x08 0))
    (cond (bit 1 written)
    (cond (is_busy (get_or regs 0x68 0)) (some (without_response regs codec written true)) (cond (rings_run regs) none (some (sent_of regs codec written))))
    (some (without_response regs codec written false)))
    (some (immediately regs codec))
