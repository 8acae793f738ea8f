-- The device's reset values are what HDA 1.0a fixes of them. Assumes nothing.
use mathlib.Core.Path.{refl}
use Rattle.node.specs.Nodes.{fresh_node_of}
use Rattle.codec.specs.Codecs.{fresh_of}
use Rattle.codec_hda.specs.HdaParameters.{declared}
use Rattle.codec_hda.specs.HdaVerbs.{ResetFixed}

pub reset-fixed : ResetFixed fresh_of
unfolding fresh_of fresh_node_of declared
reset-fixed = record { outputs = (refl, refl); inputs = (refl, refl); unsolicited = (refl, (refl, (refl, (refl, (refl, (refl, tt)))))) }
