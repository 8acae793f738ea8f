-- `u16`'s `put_into` meets its contract. Assumes nothing.
use Rattle.std.proofs.Common.{sym}
use Rattle.word.proofs.Endian.{bytes2}
use Rattle.word.proofs.Place.{store-put}
use Rattle.word.proofs.U16Word.put_into.Goals as goal

pub returns : goal.returns
returns c =
    rw (c.put_bytes.ensures, c.to_le_bytes.ensures, bytes2 c.args.self) (sym (store-put 2 c.args.at c.args.self c.args.s.now))
