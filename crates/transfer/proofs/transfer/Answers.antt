-- `transfer` meets its contract: not ready, or frames moved over a period that is silent at first. Assumes nothing.
use mathlib.Core.Path.{sym, ◌∙◌}
use Rattle.stream.specs.Streams.{period}
use Rattle.transfer.proofs.Laws.{take-silence, ready-cyclic}
use Rattle.transfer.proofs.transfer.Goals as goal

pub move_frames-requires : goal.move_frames-requires
move_frames-requires c =
    (c.requires, ready-cyclic c.args.g (sym c.ready.ensures ∙ c.if-not-ready.false), take-silence c.args.count period c.requires.short)
