-- `movable` is `movable_by` of the frames due. Assumes nothing.
use Rattle.jitter.proofs.Cases.{movable-all, movable-room}
use borrow.Author.Rules.{rules}
use Rattle.jitter.proofs.movable.Goals as goal

pub returns-then-capture : goal.returns-then-capture
returns-then-capture c =
    movable-all c.args.capture c.args.queued c.frames_by-frames.result _ (search rules) c.frames_by-frames.ensures

pub returns : goal.returns
returns c =
    movable-room c.args.capture c.args.queued c.frames_by-frames.result _ c.saturating_sub.result c.min.result (search rules) c.frames_by-frames.ensures (search rules) (search rules)
