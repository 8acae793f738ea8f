-- `u16`'s `get_from` meets its contract. Assumes nothing.
use Rattle.word.proofs.Endian.{read2}
use Rattle.word.proofs.U16Word.get_from.Goals as goal

pub returns : goal.returns
returns c =
    rw (c.from_le_bytes.ensures, c.bytes_at.ensures) (read2 c.args.at c.args.s.now c.requires)
