-- `put_streams` puts `streams_bytes`: a turn, and the end.
use Prim.Native.Nat.{ℕ, ◌+◌, ◌*◌}
use mathlib.Core.Path.{sym, ◌∙◌}
use native.Mathlib.Omega.{arith}
use lib.ListN.{get_or}
use Rattle.stream.specs.Streams.{fresh_of}
use Rattle.stream.specs.Box.{streams}
use Rattle.record.specs.Devices.{numbers_of}
use Rattle.record.proofs.Sizes.{length-numbers}
use Rattle.record.proofs.Rows.{runs-turn, runs-end}
use Rattle.record.proofs.put_streams.Goals as goal

pub loop-index-preserved : goal.loop-index-preserved
unfolding fresh_of
loop-index-preserved c =
    let bank = c.args.bank in
    let i = c.loop-index.index in
    runs-turn (λ (k : ℕ). numbers_of (get_or bank k fresh_of)) streams i (680 + 34 * i) (680 + 34 * (i + 1)) c.loop-index.into c.put_numbers.new.into
    (omega arith) (omega (arith, length-numbers (get_or bank i fresh_of))) (omega arith) c.put_numbers.ensures
    ∙ c.loop-index.invariant

pub returns : goal.returns
returns c =
    let bank = c.args.bank in
    let i = c.loop-index.index in
    sym (runs-end (λ (k : ℕ). numbers_of (get_or bank k fresh_of)) streams i (680 + 34 * i) c.loop-index.into (omega arith)) ∙ c.loop-index.invariant
