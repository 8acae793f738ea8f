-- A codec that the code holds is well formed: what the types `[Node; 6]` and `[u8; 24]` say of a value. Assumes nothing.
use Prim.Native.Nat.{ℕ, zero, suc, ◌<◌}
use mathlib.Core.Path.{◌≡◌}
use mathlib.Core.List.{List, [], ◌∷◌}
use native.Mathlib.Omega.{arith}
use native.Mathlib.Nat.{not-suc-le-zero}
use lib.ListN.{length, get_or}
use mir.Syntax.{w8}
use mir.Val.{Val}
use denote.Laws.{Is}
use denote.Shadow.{shadow}
use denote.Array.{each}
use denote.Plain.{UInt}
use Rattle.word.specs.Value.{Bytes}
use Rattle.node.specs.declared.Node.{Node}
use Rattle.codec.specs.declared.Codec.{Codec}
use Rattle.codec.specs.Codecs.{absent}
use Rattle.codec.specs.WellFormed.{WellFormedNode, WellFormed}
use Rattle.node.specs.contracts.Node as node
use Rattle.codec.specs.contracts.Codec as codec

-- an array's elements, each at its machine value
bytes-held : (l : List ℕ) (us : List Val) → shadow (each ℕ (UInt w8).own_val l us) → Bytes l
bytes-held [] [] s i = omega arith
bytes-held [] (u ∷ us) s i = absurd s
bytes-held (x ∷ l) [] s i = absurd s
bytes-held (x ∷ l) (u ∷ us) s zero = s.0.1
bytes-held (x ∷ l) (u ∷ us) s (suc i) = bytes-held l us s.1 i

node-held : (n : Node) (vs : List Val) → Is node.the_row n vs → WellFormedNode n
node-held n vs s =
    let array = s.1.1.0 in
    record { size = array.1.0.1; range = bytes-held n.bytes array.0 array.1.1 }

nodes-held : (ns : List Node) (us : List Val) → shadow (each (node.the_row).Denot (node.the_row).own_val ns us)
    → (i : ℕ) → i < length ns → WellFormedNode (get_or ns i absent)
nodes-held [] us s i b = absurd (not-suc-le-zero b)
nodes-held (n ∷ ns) [] s i b = absurd s
nodes-held (n ∷ ns) (u ∷ us) s zero b = node-held n (u ∷ []) s.0
nodes-held (n ∷ ns) (u ∷ us) s (suc i) b = nodes-held ns us s.1 i (omega arith)

pub held-well-formed : (c : Codec) (vs : List Val) → Is codec.the_row c vs → WellFormed c
held-well-formed c vs s =
    let array = s.1.1.0 in
    let six : length c.nodes ≡ 6 = array.1.0.1 in
    record { count = six; each = λ i b. nodes-held c.nodes array.0 array.1.1 i (omega arith) }
