-- What the code's types say of a codec, said of the definitions' codecs: six records of 24 bytes. So a codec crosses the C boundary as 144 bytes.
use Rattle.std.specs.Prelude.{ℕ, ◌<◌, ◌≡◌, length}
use Rattle.word.specs.Value.{Bytes}
use Rattle.node.specs.declared.Node.{Node}
use Rattle.codec.specs.declared.Codec.{Codec}
use Rattle.codec.specs.Codecs.{node_at}

pub record WellFormedNode (n : Node) : Type 0 where
  pub size : length n.bytes ≡ 24
  pub range : Bytes n.bytes

pub record WellFormed (c : Codec) : Type 0 where
  pub count : length c.nodes ≡ 6
  pub each : (i : ℕ) → i < 6 → WellFormedNode (node_at c i)
