-- `load_block` is `block_at`: a copy of 256 bytes over all of a fresh block.
use mathlib.Core.Path.{refl}
use Rattle.word.proofs.Copies.{copied-out}
use Rattle.record.proofs.load_block.Goals as goal

pub returns : goal.returns
returns c =
    copied-out 256 c.args.at c.args.from.now c.requires _ c.copy.new.into refl c.copy.ensures
