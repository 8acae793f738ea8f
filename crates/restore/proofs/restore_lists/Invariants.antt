-- `restore_lists` puts `restored_lists`. The loop's invariant: `at` is the place of the next stream, what the streams left put gives what all of them do.
use Prim.Native.Nat.{ℕ, ◌+◌}
use mathlib.Core.Path.{◌≡◌}
use Rattle.word.specs.Each.{each_of, always}
use Rattle.stream.specs.Box.{streams}
use Rattle.parse.specs.States.{place_of}
use Rattle.restore.specs.Restores.{put_positions}
use Rattle.restore.proofs.restore_lists.Given as goal

abbrev pub invariant-loop-index : goal.invariant-loop-index
invariant-loop-index l =
    (l.at ≡ place_of l.state l.index)
    × (n : ℕ) × (l.index + n ≡ streams) × (each_of always (put_positions l.strict l.state) n l.index l.lists ≡ each_of always (put_positions l.strict l.state) streams 0 l.initial.lists)
