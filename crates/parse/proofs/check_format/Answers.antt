-- `check_format` is `format_number`: nothing where the register is 0 and the stream stands, else what the word decodes to.
use mathlib.Core.Path.{refl}
use Rattle.parse.proofs.Parts.{format-idle, format-set}
use Rattle.parse.proofs.check_format.Goals as goal

pub returns-then-idle : goal.returns-then-idle
returns-then-idle c =
    format-idle _ c.args.index _ refl c.get-raw.ensures c.if-idle.true

pub returns : goal.returns
returns c =
    format-set _ c.args.index _ refl c.get-raw.ensures c.if-idle.false c.check_format_word.ensures
