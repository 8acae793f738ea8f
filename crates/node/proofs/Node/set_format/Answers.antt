-- `set_format` stores a word of two bytes, the low one first. Assumes nothing.
use Rattle.std.proofs.Common.{◌≡◌, ◌/◌, ◌%◌, arith}
use Rattle.word.proofs.Place.{store_pair}
use Rattle.node.proofs.Node.set_format.Goals as goal

pub returns : goal.returns
returns c =
    let high : c.args.payload / 256 % 256 ≡ c.args.payload / 256 = omega arith in
    rw (c.put.ensures, store_pair 10 c.args.self.bytes (omega arith) c.args.payload, high)
