-- The marked lines hold, by computation. Assumes nothing.
use mathlib.Core.Path.{refl}
use lib.Ieee.{mul, of_int, of_bits}
use Rattle.gain.specs.Gain.{patterns, factor, gain_of, whole_of, rounded, scaled}
use Rattle.clock.specs.Clock.{advance_of}
use Rattle.node.specs.Parameters.{parameter_of}
use Rattle.codec.specs.Codecs.{verb_of}
use Rattle.worked.specs.Marked.{Marked}

pub worked : Marked
unfolding patterns factor gain_of whole_of rounded scaled mul of_int of_bits advance_of verb_of parameter_of
worked =
    record {
      unity = λ z. refl;
      muted = λ z. refl;
      louder = refl;
      top = refl;
      bottom = refl;
      below_half = refl;
      half = refl;
      minus-half = refl;
      unheard = refl;
      heard = refl;
      no-tick = refl;
      one-tick = refl;
      vendor = λ c. refl;
      other-codec = λ c. refl;
    }
