-- `check_streams` is `streams_step`. The invariant: the streams from `index` on, at `at`, leave what all of them leave.
use Prim.Native.Nat.{ℕ, ◌+◌, ◌≤◌}
use mathlib.Core.Path.{◌≡◌}
use Rattle.word.specs.Each.{each_of}
use Rattle.stream.specs.Box.{streams}
use Rattle.parse.specs.States.{step_out, step_at, goes_on}
use Rattle.parse.proofs.check_streams.Given as goal

abbrev pub invariant-loop-index : goal.invariant-loop-index
invariant-loop-index l =
    (680 ≤ l.at) × (n : ℕ) × (l.index + n ≡ streams)
    × (each_of goes_on (step_at l.strict l.state) n l.index (step_out 0 l.at) ≡ each_of goes_on (step_at l.strict l.state) streams 0 (step_out 0 680))
