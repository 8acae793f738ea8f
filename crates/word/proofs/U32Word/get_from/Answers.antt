-- `u32`'s `get_from` meets its contract. Assumes nothing.
use Rattle.word.proofs.Endian.{read4}
use Rattle.word.proofs.U32Word.get_from.Goals as goal

pub returns : goal.returns
returns c =
    rw (c.from_le_bytes.ensures, c.bytes_at.ensures) (read4 c.args.at c.args.s.now c.requires)
