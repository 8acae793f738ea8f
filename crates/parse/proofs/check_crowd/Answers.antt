-- `check_crowd` is `crowd_number`: the list is read in the part of the state from `at` to the end. Assumes nothing.
use Rattle.parse.proofs.Parts.{crowd-free, crowd-close}
use Rattle.parse.proofs.check_crowd.Goals as goal

pub returns-then-uncrowded : goal.returns-then-uncrowded
returns-then-uncrowded c =
    crowd-free _ _ _ c.uncrowded.ensures c.if-uncrowded.true

pub returns-else-uncrowded : goal.returns-else-uncrowded
returns-else-uncrowded c =
    crowd-close _ _ _ c.uncrowded.ensures c.if-uncrowded.false
