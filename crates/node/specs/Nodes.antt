-- A node's record, what a verb stores in it and what it replies: the Rust's `Codec::execute_verb` on one record of 24 bytes.
use Rattle.std.specs.Prelude.{ℕ, ◌+◌, ◌-◌, ◌*◌, ◌/◌, ◌%◌, Bool, cond, [], ◌∷◌, get_or, set, eqb, leb, ltb}
use Rattle.word.specs.Place.{word_at}
use Rattle.node.specs.declared.Node.{Node}
use Rattle.node.specs.declared.Answer.{Answer}
use Rattle.node.specs.Command.{bit, short_verb_of, wide_payload_of, long_verb_of, payload_of}

abbrev pub byte : Node → ℕ → ℕ
byte n i = get_or n.bytes i 0

abbrev pub put : Node → ℕ → ℕ → Node
put n i v = record { bytes = set n.bytes i v }

-- `put` where the test holds
abbrev pub put_if : Bool → Node → ℕ → ℕ → Node
put_if t n i v = cond t (put n i v) n

-- `v` for left (payload bit 13) and right (bit 12) of the amplifier whose bytes start at `i`
abbrev pub put_sides : Node → ℕ → ℕ → ℕ → Node
put_sides n i w v = put_if (bit 0x1000 w) (put_if (bit 0x2000 w) n i v) (i + 1) v

-- Set amplifier: payload bit 15 names the output side, bit 14 the input side beside it.
-- Without bit 15 the input side is written, named or not (document 01, "Where port and Rust part", kept from the Rust).
unfoldable pub set_amplifier_of : Node → ℕ → ℕ → Node
set_amplifier_of n w v =
    cond (bit 0x8000 w)
    (cond (bit 0x4000 w) (put_sides (put_sides n 2 w v) 0 w v) (put_sides n 2 w v))
    (put_sides n 0 w v)

-- Get amplifier: payload bit 15 set is the output side, bit 13 set is left
unfoldable pub amplifier_of : Node → ℕ → ℕ
amplifier_of n w = byte n (w / 0x8000 % 2 * 2 + (1 - w / 0x2000 % 2))

abbrev pub set_format_of : Node → ℕ → Node
set_format_of n w = put (put n 10 (w % 256)) 11 (w / 256)

abbrev pub format_of : Node → ℕ
format_of n = word_at 2 10 n.bytes

-- the verbs 0x7xx: each keeps its payload in a byte of its own
unfoldable pub set_of : Node → ℕ → ℕ → Node
set_of n verb v =
    cond (eqb verb 0x701) (put n 4 v)
    (cond (eqb verb 0x705) (put n 5 (v % 4))
    (cond (eqb verb 0x706) (put n 6 v)
    (cond (eqb verb 0x707) (put n 7 v)
    (cond (eqb verb 0x708) (put n 8 v)
    (cond (eqb verb 0x70c) (put n 9 (v % 8))
    (cond (leb 0x71c verb) (cond (ltb verb 0x720) (put n (verb - 0x710) v) n)
    n))))))

-- the connection lists: the output pin hears node 2, the input converter node 5
unfoldable pub entry_of : ℕ → ℕ → ℕ
entry_of node p = cond (eqb p 0) (cond (eqb node 3) 2 (cond (eqb node 4) 5 0)) 0

-- the verbs 0xfxx
unfoldable pub get_of : Node → ℕ → ℕ → ℕ → ℕ
get_of n node verb p =
    cond (eqb verb 0xf01) (byte n 4)
    (cond (eqb verb 0xf02) (entry_of node p)
    (cond (eqb verb 0xf05) (byte n 5 * 0x11)
    (cond (eqb verb 0xf06) (byte n 6)
    (cond (eqb verb 0xf07) (byte n 7)
    (cond (eqb verb 0xf08) (byte n 8)
    (cond (eqb verb 0xf09) 0x8000_0000
    (cond (eqb verb 0xf0c) (byte n 9)
    (cond (eqb verb 0xf1c) (word_at 4 12 n.bytes)
    (cond (eqb verb 0xf20) 0x1af4_0022 0)))))))))

abbrev pub answer : Node → ℕ → Answer
answer n v = record { node = n; value = v }

-- a command to one of the nodes 1 to 5: four verbs have four bits and a payload of sixteen, all others twelve bits and eight
unfoldable pub node_verb_of : Node → ℕ → ℕ → Answer
node_verb_of n node x =
    cond (eqb (short_verb_of x) 0x2) (answer (set_format_of n (wide_payload_of x)) 0)
    (cond (eqb (short_verb_of x) 0x3) (answer (set_amplifier_of n (wide_payload_of x) (payload_of x)) 0)
    (cond (eqb (short_verb_of x) 0xa) (answer n (format_of n))
    (cond (eqb (short_verb_of x) 0xb) (answer n (amplifier_of n (wide_payload_of x)))
    (answer (set_of n (long_verb_of x) (payload_of x)) (get_of n node (long_verb_of x) (payload_of x))))))

-- A node's record at reset: both amplifiers muted at 0 dB, EAPD on, 48,000 16-bit stereo, and the pin's control and configuration default (lowest byte first).
unfoldable pub fresh_node_of : ℕ → ℕ → ℕ → ℕ → Node
fresh_node_of pin a b c =
    record { bytes = 0xca ∷ 0xca ∷ 0xca ∷ 0xca ∷ 0 ∷ 0 ∷ 0 ∷ pin ∷ 0 ∷ 2 ∷ 0x11 ∷ 0 ∷ a ∷ b ∷ c ∷ 0 ∷ 0 ∷ 0 ∷ 0 ∷ 0 ∷ 0 ∷ 0 ∷ 0 ∷ 0 ∷ [] }
