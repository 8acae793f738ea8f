-- Where the device and HDA 1.0a may part, by name (docs/DIFFERENCES.md lists them): the Rust decides there.
use Rattle.std.specs.Prelude.{ℕ, ◌/◌, ◌%◌, Bool, true, false, cond, not, ◌&&◌, ◌||◌, eqb, leb, ltb}
use Rattle.node.specs.declared.Node.{Node}
use Rattle.codec.specs.declared.Codec.{Codec}
use Rattle.node.specs.Command.{bit, address_of, indirect, node_of, short_verb_of, wide_payload_of, long_verb_of, payload_of}
use Rattle.node.specs.Nodes.{byte}
use Rattle.codec.specs.Codecs.{node_at, fresh_of}
use Rattle.codec_hda.specs.HdaParameters.{input_amplifier, output_amplifier}
use Rattle.codec_hda.specs.HdaVerbs.{capable, is_converter, is_pin, responds, enables, selects}

pub data Exception : Type 0 where
  None : Exception
  -- the indirect node form: HDA does not say how it works; the device does not reply
  Indirect : Exception
  -- the node lacks the verb: HDA changes nothing and replies 0; the device keeps the byte and replies it
  VerbAbsent : Exception
  -- the node lacks the amplifier that the payload names: likewise
  AmplifierAbsent : Exception
  -- a set-amplifier payload that names neither direction: HDA writes nothing; the device the input side (document 01)
  NeitherDirection : Exception
  -- power states above D3: HDA keeps four bits of the payload; the device two
  PowerState : Exception
  -- a widget's actual power state: HDA's is never above the function group's; the device replies its own
  PowerActual : Exception
  -- pin control bits 4..3: reserved in HDA; the device keeps them
  PinReserved : Exception
  -- pin sense: no pin here declares it; the device replies presence on nodes 1 to 5
  PinSense : Exception
  -- the subsystem identity: HDA has it on the function group, settable; the device replies it on nodes 1 to 5 and keeps it
  Subsystem : Exception
  -- function reset: HDA keeps the configuration defaults; the device resets them
  ResetDefaults : Exception

abbrev pub is_none : Exception → Bool
is_none None = true
is_none Indirect = false
is_none VerbAbsent = false
is_none AmplifierAbsent = false
is_none NeitherDirection = false
is_none PowerState = false
is_none PowerActual = false
is_none PinReserved = false
is_none PinSense = false
is_none Subsystem = false
is_none ResetDefaults = false

abbrev pub unless : Bool → Exception → Exception
unless t e = cond t None e

-- a payload that names neither left nor right writes nothing, in HDA and in the device
abbrev pub set_amplifier_exception : ℕ → ℕ → Exception
set_amplifier_exception node w =
    cond (not (bit 0x2000 w) && not (bit 0x1000 w)) None
    (cond (not (bit 0x8000 w) && not (bit 0x4000 w)) NeitherDirection
    (unless ((not (bit 0x8000 w) || capable output_amplifier node) && (not (bit 0x4000 w) || capable input_amplifier node)) AmplifierAbsent))

abbrev pub amplifier_exception : ℕ → ℕ → Exception
amplifier_exception node w = unless (cond (bit 0x8000 w) (capable output_amplifier node) (capable input_amplifier node)) AmplifierAbsent

abbrev pub same_default : Node → Node → Bool
same_default n m = eqb (byte n 12) (byte m 12) && (eqb (byte n 13) (byte m 13) && (eqb (byte n 14) (byte m 14) && eqb (byte n 15) (byte m 15)))

-- both pins' configuration defaults are those of reset
abbrev pub same_defaults : Codec → Bool
same_defaults c = same_default (node_at c 3) (node_at fresh_of 3) && same_default (node_at c 5) (node_at fresh_of 5)

-- the verbs of twelve bits; `group` is the function group's record, `n` the node's
unfoldable pub long_exception : Node → Node → ℕ → ℕ → ℕ → Exception
long_exception group n node verb v =
    cond (eqb verb 0x701 || eqb verb 0xf01) (unless (selects node) VerbAbsent)
    (cond (eqb verb 0x705) (unless (ltb (v % 16) 4) PowerState)
    (cond (eqb verb 0xf05) (unless (ltb (byte n 5) 16 && leb (byte group 5) (byte n 5)) PowerActual)
    (cond (eqb verb 0x706 || eqb verb 0xf06) (unless (is_converter node) VerbAbsent)
    (cond (eqb verb 0x707) (cond (is_pin node) (unless (eqb (v / 8 % 4) 0) PinReserved) VerbAbsent)
    (cond (eqb verb 0xf07) (cond (is_pin node) (unless (eqb (byte n 7 / 8 % 4) 0) PinReserved) VerbAbsent)
    (cond (eqb verb 0x708 || eqb verb 0xf08) (unless (responds node) VerbAbsent)
    (cond (eqb verb 0xf09) PinSense
    (cond (eqb verb 0x70c || eqb verb 0xf0c) (unless (enables node) VerbAbsent)
    (cond (eqb verb 0xf1c || (leb 0x71c verb && ltb verb 0x720)) (unless (is_pin node) VerbAbsent)
    (cond (eqb verb 0xf20) (unless (eqb node 1) Subsystem)
    (cond (leb 0x720 verb && ltb verb 0x724) (unless (not (eqb node 1)) Subsystem)
    None)))))))))))

unfoldable pub node_exception : Codec → ℕ → ℕ → Exception
node_exception c node x =
    cond (eqb (short_verb_of x) 0x2 || eqb (short_verb_of x) 0xa) (unless (is_converter node) VerbAbsent)
    (cond (eqb (short_verb_of x) 0x3) (set_amplifier_exception node (wide_payload_of x))
    (cond (eqb (short_verb_of x) 0xb) (amplifier_exception node (wide_payload_of x))
    (cond (eqb node 1 && eqb (long_verb_of x) 0x7ff) (unless (same_defaults c) ResetDefaults)
    (long_exception (node_at c 1) (node_at c node) node (long_verb_of x) (payload_of x)))))

unfoldable pub exception_of : Codec → ℕ → Exception
exception_of c x =
    cond (not (eqb (address_of x) 0)) None
    (cond (indirect x) Indirect
    (cond (leb 6 (node_of x)) None
    (cond (eqb (long_verb_of x) 0xf00) None
    (cond (eqb (node_of x) 0) None
    (node_exception c (node_of x) x)))))
