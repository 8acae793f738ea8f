-- `put` is `put_at`: a copy of all the bytes over as many at the place.
use mathlib.Core.Path.{refl}
use lib.ListN.{length}
use Rattle.word.proofs.Copies.{copied-in}
use Rattle.record.proofs.put.Goals as goal

pub returns : goal.returns
returns c =
    let bytes = c.args.bytes.now in
    copied-in (length bytes) c.args.at c.args.into.now c.requires bytes c.copy.new.into refl c.copy.ensures
