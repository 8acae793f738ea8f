-- The verbs by HDA 1.0a 7.3.3: which nodes have a verb follows from what they declare (HdaParameters), and a verb that a node lacks changes
-- nothing and replies 0 (7.3.1). Written from the specification's tables; proofs/Agreement says where the device does the same.
use Rattle.std.specs.Prelude.{ℕ, ◌+◌, ◌-◌, ◌*◌, ◌/◌, ◌%◌, ◌^◌, max, ◌≡◌, Bool, cond, not, ◌&&◌, ◌||◌, List, [], ◌∷◌, set, eqb, leb, ltb, Option, None, Some}
use Rattle.word.specs.Place.{word_at}
use Rattle.node.specs.declared.Node.{Node}
use Rattle.codec.specs.declared.Codec.{Codec}
use Rattle.node.specs.Command.{bit, address_of, indirect, node_of, short_verb_of, wide_payload_of, long_verb_of, payload_of}
use Rattle.node.specs.Nodes.{byte, put, put_if}
use Rattle.codec.specs.Codecs.{node_at, fresh_of}
use Rattle.codec_hda.specs.HdaParameters.{declared, output_converter, input_converter, pin_complex, input_amplifier, output_amplifier, unsolicited, connection_list, power_control, swap, impedance_sense, presence_detect, balanced, eapd}

-- ---- which nodes have what (7.3.4)
-- the function group's subordinate nodes are widgets
abbrev pub is_widget : ℕ → Bool
is_widget node = leb (declared 1 0x04 / 2 ^ 16) node && ltb node (declared 1 0x04 / 2 ^ 16 + declared 1 0x04 % 256)

abbrev pub kind_of : ℕ → ℕ
kind_of node = declared node 0x09 / 2 ^ 20 % 16

abbrev pub capable : ℕ → ℕ → Bool
capable capability node = is_widget node && bit (2 ^ capability) (declared node 0x09)

abbrev pub is_converter : ℕ → Bool
is_converter node = is_widget node && (eqb (kind_of node) output_converter || eqb (kind_of node) input_converter)

abbrev pub is_pin : ℕ → Bool
is_pin node = is_widget node && eqb (kind_of node) pin_complex

abbrev pub pin_capable : ℕ → ℕ → Bool
pin_capable capability node = is_pin node && bit (2 ^ capability) (declared node 0x0c)

-- a choice of connection needs a list longer than one entry (7.3.3.2)
abbrev pub selects : ℕ → Bool
selects node = capable connection_list node && ltb 1 (declared node 0x0e)

abbrev pub powers : ℕ → Bool
powers node = eqb node 1 || capable power_control node

-- bit 8 of the function group's type, bit 7 of a widget's capabilities (7.3.3.14)
abbrev pub responds : ℕ → Bool
responds node = (eqb node 1 && bit (2 ^ 8) (declared 1 0x05)) || capable unsolicited node

abbrev pub senses : ℕ → Bool
senses node = pin_capable presence_detect node || pin_capable impedance_sense node

-- EAPD, balanced output or swapped channels (7.3.3.16)
abbrev pub enables : ℕ → Bool
enables node = pin_capable eapd node || pin_capable balanced node || capable swap node

-- ---- the connection lists (7.3.3.3): the output pin hears the output converter, the input converter the input pin
abbrev pub connection_of : ℕ → ℕ
connection_of node = cond (eqb node 3) 2 (cond (eqb node 4) 5 0)

-- four entries from `first` on, an entry a byte; past the list's one entry they are 0
abbrev pub connections_of : ℕ → ℕ → ℕ
connections_of node first = cond (capable connection_list node && ltb first (declared node 0x0e)) (connection_of node) 0

-- ---- amplifiers (7.3.3.7): payload 15 output, 14 input (neither: nothing), 13 left, 12 right, 7 mute, 6..0 gain
-- (the index 11..8 belongs to mixers and selectors, and this codec has none)
abbrev pub hda_sides : Bool → Node → ℕ → ℕ → ℕ → Node
hda_sides t n i w v = put_if (t && bit 0x1000 w) (put_if (t && bit 0x2000 w) n i v) (i + 1) v

unfoldable pub hda_set_amplifier_of : Node → ℕ → ℕ → ℕ → Node
hda_set_amplifier_of n node w v =
    hda_sides (bit 0x4000 w && capable input_amplifier node) (hda_sides (bit 0x8000 w && capable output_amplifier node) n 2 w v) 0 w v

-- get: payload 15 output, else input; 13 left, else right
unfoldable pub hda_amplifier_of : Node → ℕ → ℕ → ℕ
hda_amplifier_of n node w =
    cond (bit 0x8000 w)
    (cond (capable output_amplifier node) (cond (bit 0x2000 w) (byte n 2) (byte n 3)) 0)
    (cond (capable input_amplifier node) (cond (bit 0x2000 w) (byte n 0) (byte n 1)) 0)

-- ---- the converter's format (7.3.3.8)
abbrev pub hda_set_format_of : Node → ℕ → ℕ → Node
hda_set_format_of n node w = put_if (is_converter node) (put_if (is_converter node) n 10 (w % 256)) 11 (w / 256)

abbrev pub hda_format_of : Node → ℕ → ℕ
hda_format_of n node = cond (is_converter node) (word_at 2 10 n.bytes) 0

-- ---- pin control (7.3.3.13): bits 4..3 are reserved and read 0
abbrev pub unreserved : ℕ → ℕ
unreserved v = v - v / 8 % 4 * 8

-- ---- power state (7.3.3.10): 3..0 as set, 7..4 the actual one, which is never above the function group's (D0 is the highest)
abbrev pub power_of : Node → Node → ℕ
power_of group n = byte n 5 % 16 + 16 * (max (byte n 5) (byte group 5) % 16)

-- ---- the verbs of twelve bits that store a payload
unfoldable pub hda_set_of : Node → ℕ → ℕ → ℕ → Node
hda_set_of n node verb v =
    cond (eqb verb 0x701) (put_if (selects node) n 4 v)
    (cond (eqb verb 0x705) (put_if (powers node) n 5 (v % 16))
    (cond (eqb verb 0x706) (put_if (is_converter node) n 6 v)
    (cond (eqb verb 0x707) (put_if (is_pin node) n 7 (unreserved v))
    (cond (eqb verb 0x708) (put_if (responds node) n 8 v)
    (cond (eqb verb 0x70c) (put_if (enables node) n 9 (v % 8))
    (cond (leb 0x71c verb) (cond (ltb verb 0x720) (put_if (is_pin node) n (verb - 0x710) v) n)
    n))))))

-- .. and those that reply; presence is never sensed here, and processing and digital converters are absent
unfoldable pub hda_get_of : Node → Node → ℕ → ℕ → ℕ → ℕ → ℕ
hda_get_of group n node subsystem verb p =
    cond (eqb verb 0xf01) (cond (selects node) (byte n 4) 0)
    (cond (eqb verb 0xf02) (connections_of node p)
    (cond (eqb verb 0xf05) (cond (powers node) (power_of group n) 0)
    (cond (eqb verb 0xf06) (cond (is_converter node) (byte n 6) 0)
    (cond (eqb verb 0xf07) (cond (is_pin node) (unreserved (byte n 7)) 0)
    (cond (eqb verb 0xf08) (cond (responds node) (byte n 8) 0)
    (cond (eqb verb 0xf09) (cond (senses node) 0x7fff_ffff 0)
    (cond (eqb verb 0xf0c) (cond (enables node) (byte n 9) 0)
    (cond (eqb verb 0xf1c) (cond (is_pin node) (word_at 4 12 n.bytes) 0)
    (cond (eqb verb 0xf20) (cond (eqb node 1) subsystem 0) 0)))))))))

-- ---- the codec's state as HDA has it: the six records, and the subsystem identity (7.3.3.30), which firmware may set
pub record Hda : Type 0 where
  pub codec : Codec
  pub subsystem : ℕ

abbrev pub hda : Codec → ℕ → Hda
hda c s = record { codec = c; subsystem = s }

abbrev pub with_node : Hda → ℕ → Node → Hda
with_node h i n = hda (record { nodes = set h.codec.nodes i n }) h.subsystem

-- byte k of a word of four set to v
abbrev pub with_byte : ℕ → ℕ → ℕ → ℕ
with_byte word k v = word - word / 256 ^ k % 256 * 256 ^ k + v * 256 ^ k

-- What HDA fixes of a codec's reset values; the rest is its maker's choice, and here the device's own. A declared amplifier is muted and at its offset (7.3.3.7; the lowest
-- seven bits of parameters 0x0d and 0x12), and no node sends unsolicited responses (7.3.3.14).
abbrev pub reset_amplifier : ℕ → ℕ → ℕ
reset_amplifier node p = 0x80 + declared node p % 128

abbrev pub SilentNodes : List Node → Type 0
SilentNodes [] = Unit {0}
SilentNodes (n ∷ ns) = (byte n 8 / 128 ≡ 0) × SilentNodes ns

pub record ResetFixed (c : Codec) : Type 0 where
  pub outputs : (byte (node_at c 2) 2 ≡ reset_amplifier 2 0x12) × (byte (node_at c 2) 3 ≡ reset_amplifier 2 0x12)
  pub inputs : (byte (node_at c 4) 0 ≡ reset_amplifier 4 0x0d) × (byte (node_at c 4) 1 ≡ reset_amplifier 4 0x0d)
  pub unsolicited : SilentNodes c.nodes

-- function reset (7.3.3.33): every record to its reset values, a pin's configuration default excepted (7.3.3.31)
abbrev pub keep_default : Node → Node → Node
keep_default old n = put (put (put (put n 12 (byte old 12)) 13 (byte old 13)) 14 (byte old 14)) 15 (byte old 15)

unfoldable pub hda_reset_of : Codec → Codec
hda_reset_of c =
    record {
      nodes =
          node_at fresh_of 0 ∷ node_at fresh_of 1 ∷ node_at fresh_of 2 ∷ keep_default (node_at c 3) (node_at fresh_of 3)
          ∷ node_at fresh_of 4 ∷ keep_default (node_at c 5) (node_at fresh_of 5) ∷ [];
    }

-- what HDA says of a command: a state and a reply, or nothing
pub data Ruling : Type 0 where
  says : Hda → Option ℕ → Ruling
  silent : Ruling

-- a command to the function group or a widget
unfoldable pub hda_node_of : Hda → ℕ → ℕ → Ruling
hda_node_of h node x =
    let n = node_at h.codec node in
    let verb = long_verb_of x in
    let v = payload_of x in
    cond (eqb (short_verb_of x) 0x2) (says (with_node h node (hda_set_format_of n node (wide_payload_of x))) (Some 0))
    (cond (eqb (short_verb_of x) 0x3) (says (with_node h node (hda_set_amplifier_of n node (wide_payload_of x) v)) (Some 0))
    (cond (eqb (short_verb_of x) 0xa) (says h (Some (hda_format_of n node)))
    (cond (eqb (short_verb_of x) 0xb) (says h (Some (hda_amplifier_of n node (wide_payload_of x))))
    (cond (eqb node 1 && eqb verb 0x7ff) (says (hda (hda_reset_of h.codec) h.subsystem) (Some 0))
    (cond (eqb node 1 && (leb 0x720 verb && ltb verb 0x724)) (says (hda h.codec (with_byte h.subsystem (verb - 0x720) v)) (Some 0))
    (says (with_node h node (hda_set_of n node verb v)) (Some (hda_get_of (node_at h.codec 1) n node h.subsystem verb v))))))))

-- A command (7.3): another codec's is not answered; the working of the indirect form is not specified; nodes past the widgets answer 0;
-- any node has its parameters (7.3.3.1), and the root nothing else.
unfoldable pub hda_verb_of : Hda → ℕ → Ruling
hda_verb_of h x =
    cond (not (eqb (address_of x) 0)) (says h None)
    (cond (indirect x) silent
    (cond (leb 6 (node_of x)) (says h (Some 0))
    (cond (eqb (long_verb_of x) 0xf00) (says h (Some (declared (node_of x) (payload_of x))))
    (cond (eqb (node_of x) 0) (says h (Some 0))
    (hda_node_of h (node_of x) x)))))
