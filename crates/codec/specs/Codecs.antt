-- The codec: its fresh state, a command, whether a converter is live, and the amplifiers of a side (document 01, "Codec"; the Rust's `Codec`).
use Rattle.std.specs.Prelude.{ℕ, ◌+◌, ◌/◌, ◌%◌, Bool, true, false, cond, not, ◌&&◌, ◌||◌, List, [], ◌∷◌, get_or, set, replicate, eqb, leb, Option, None, Some}
use Rattle.node.specs.declared.Node.{Node}
use Rattle.node.specs.declared.Answer.{Answer}
use Rattle.codec.specs.declared.Codec.{Codec}
use Rattle.codec.specs.declared.Outcome.{Outcome}
use Rattle.node.specs.Command.{address_of, indirect, node_of, long_verb_of, payload_of, bit}
use Rattle.node.specs.Parameters.{parameter_of}
use Rattle.node.specs.Nodes.{byte, format_of, node_verb_of, fresh_node_of}

-- the words that a reply puts on the link: none, or one
abbrev pub words_of : Option ℕ → List ℕ
words_of None = []
words_of (Some v) = v ∷ []

-- The Rust's `Codec::default`: root, function group, output converter and pin, input converter and pin.
unfoldable pub fresh_of : Codec
fresh_of =
    record {
      nodes =
          record { bytes = replicate 24 0 }
          ∷ fresh_node_of 0 0 0 0
          ∷ fresh_node_of 0 0 0 0
          ∷ fresh_node_of 0x40 0x10 0x40 0
          ∷ fresh_node_of 0 0 0 0
          ∷ fresh_node_of 0x20 0x20 0x50 0x80
          ∷ [];
    }

-- what the list of nodes has past its end
abbrev pub absent : Node
absent = record { bytes = [] }

abbrev pub node_at : Codec → ℕ → Node
node_at c i = get_or c.nodes i absent

abbrev pub outcome : Codec → Option ℕ → Outcome
outcome c r = record { codec = c; reply = r }

-- the node's record put back, and its value as the reply
abbrev pub stored : Codec → ℕ → Answer → Outcome
stored c i a = outcome (record { nodes = set c.nodes i a.node }) (Some a.value)

-- A command (the Rust's `Codec::verb`). Function reset, 0x7ff on node 1, replaces all six records and puts none back.
unfoldable pub verb_of : Codec → ℕ → Outcome
verb_of c x =
    cond (not (eqb (address_of x) 0) || indirect x) (outcome c None)
    (cond (leb 6 (node_of x)) (outcome c (Some 0))
    (cond (eqb (long_verb_of x) 0xf00) (outcome c (Some (parameter_of (node_of x) (payload_of x))))
    (cond (eqb (node_of x) 0) (outcome c (Some 0))
    (cond (eqb (node_of x) 1 && eqb (long_verb_of x) 0x7ff) (outcome fresh_of (Some 0))
    (stored c (node_of x) (node_verb_of (node_at c (node_of x)) (node_of x) x))))))

-- A converter is live: stream tag and channel 0, the stream's format, group, converter and pin in D0, and the pin enabled (`mask`).
unfoldable pub live_of : Node → Node → Node → ℕ → ℕ → ℕ → Bool
live_of n group pin mask tag format =
    not (eqb tag 0)
    && eqb (byte n 6 / 16) tag
    && eqb (byte n 6 % 16) 0
    && eqb (format_of n) format
    && eqb (byte group 5) 0
    && eqb (byte n 5) 0
    && eqb (byte pin 5) 0
    && bit mask (byte pin 7)

-- The Rust's `Codec::connected`; `true` is the input.
unfoldable pub connected_of : Codec → Bool → ℕ → ℕ → Bool
connected_of c true tag format = live_of (node_at c 4) (node_at c 1) (node_at c 5) 0x20 tag format
connected_of c false tag format = live_of (node_at c 2) (node_at c 1) (node_at c 3) 0x40 tag format

-- The amplifier byte of a side, left 0 and right 1: the input converter's input amplifier, the output converter's output amplifier.
abbrev pub amplifier_byte_of : Codec → Bool → ℕ → ℕ
amplifier_byte_of c true side = byte (node_at c 4) side
amplifier_byte_of c false side = byte (node_at c 2) (2 + side)
