-- `answer` is `saved_of`, with the line's level.
use Rattle.snapshot.proofs.answer.Goals as goal

pub returns : goal.returns
returns c =
    rw c.level.ensures
