-- The fields of a 32-bit codec command: HDA 1.0a 7.3, "Node addressing and verb format". The device and the HDA definitions both read commands by them.
use Rattle.std.specs.Prelude.{ℕ, ◌/◌, ◌%◌, Bool, eqb}

-- bit `place` of a number, where `place` is a power of two
abbrev pub bit : ℕ → ℕ → Bool
bit place x = eqb (x / place % 2) 1

-- 31..28: the codec that the command is for; this device has codec 0 alone
abbrev pub address_of : ℕ → ℕ
address_of x = x / 0x1000_0000

-- 27: the indirect node form
abbrev pub indirect : ℕ → Bool
indirect x = bit 0x0800_0000 x

-- 26..20: the node
abbrev pub node_of : ℕ → ℕ
node_of x = x / 0x0010_0000 % 128

-- 19..16: a verb of four bits, with the payload 15..0
abbrev pub short_verb_of : ℕ → ℕ
short_verb_of x = x / 0x0001_0000 % 16

abbrev pub wide_payload_of : ℕ → ℕ
wide_payload_of x = x % 0x0001_0000

-- 19..8: a verb of twelve bits, with the payload 7..0
abbrev pub long_verb_of : ℕ → ℕ
long_verb_of x = x / 256 % 4096

abbrev pub payload_of : ℕ → ℕ
payload_of x = x % 256
