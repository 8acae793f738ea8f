-- `formats::line` meets its contract: each byte is what `digit` ensures.
-- Assumes nothing.
use Rattle.formats.specs.Line.{line_of}
use Rattle.formats.proofs.line.Goals as goal

pub returns : goal.returns
unfolding line_of
returns c =
    rw (
      c.digit.ensures,
      c.digit-2.ensures,
      c.digit-3.ensures,
      c.digit-4.ensures,
      c.digit-5.ensures,
      c.digit-6.ensures,
      c.digit-7.ensures,
      c.digit-8.ensures,
      c.digit-9.ensures,
    )
