-- A refusal's number is not 0, which says that a call was carried out. Assumes nothing.
use Prim.Native.Nat.{◌<◌}
use native.Mathlib.Omega.{arith}
use Rattle.refusal.specs.declared.Refusal.{Refusal}
use Rattle.refusal.specs.declared.Refusal.TheVariants.{HostClosed, ShortState, WrongMark, Microphone, Format, ListLength, ListOrder, Stream, State, LentSpace, OddFrames, Latency, Wav, ShortSpace, Crowded, Reversed}
use Rattle.refusal.specs.Refusals.{number_of}

pub number_positive : (r : Refusal) → 0 < number_of r
number_positive HostClosed = omega arith
number_positive ShortState = omega arith
number_positive WrongMark = omega arith
number_positive Microphone = omega arith
number_positive Format = omega arith
number_positive ListLength = omega arith
number_positive ListOrder = omega arith
number_positive Stream = omega arith
number_positive State = omega arith
number_positive LentSpace = omega arith
number_positive OddFrames = omega arith
number_positive Latency = omega arith
number_positive Wav = omega arith
number_positive ShortSpace = omega arith
number_positive Crowded = omega arith
number_positive Reversed = omega arith
