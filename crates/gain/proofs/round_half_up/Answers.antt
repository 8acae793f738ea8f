-- `round_half_up` meets its contract: proofs/Rounding.antt has what its two sums give. Assumes nothing.
use lib.Ieee.{of_bits}
use Rattle.gain.proofs.Rounding.{rounds}
use Rattle.gain.proofs.round_half_up.Goals as goal

pub float_to_bits-even : goal.float_to_bits-even
unfolding of_bits
float_to_bits-even c =
    (rounds c.args.magnitude c.requires).even

pub float_to_bits-odd : goal.float_to_bits-odd
unfolding of_bits
float_to_bits-odd c =
    (rounds c.args.magnitude c.requires).odd

pub overflow_add-result : goal.overflow_add-result
unfolding of_bits
overflow_add-result c =
    record { fits = (rounds c.args.magnitude c.requires).fits }

pub returns : goal.returns
unfolding of_bits
returns c =
    (rounds c.args.magnitude c.requires).is
