-- A stream that is not valid ends the scan, and one that is leaves it to those after it.
use Rattle.std.proofs.Common.{ℕ, ◌≡◌, ◌+◌, ◌-◌, ◌*◌, sym, ap, ◌∙◌, arith}
use Rattle.stream.specs.Box.{streams}
use Rattle.stream.specs.Streams.{list_size, fresh_of}
use Rattle.device.specs.Devices.{streams_valid}
use Rattle.device.proofs.Scan.{scan-more, scan-stop, scan-end}
use Rattle.device.proofs.Hda.streams_valid.Goals as goal

pub returns-then-not-valid : goal.returns-then-not-valid
unfolding fresh_of
returns-then-not-valid c =
    let i = c.loop-index.index in
    let a = c.args in
    let part : list_size * i + list_size - list_size * i ≡ list_size = omega arith in
    let bad = rw part at (sym c.valid.ensures ∙ c.if-not-valid.true) in
    sym (scan-stop a.self a.lists.now streams i (streams - i) (omega arith) (omega arith) bad) ∙ c.loop-index.invariant

pub loop-index-preserved : goal.loop-index-preserved
unfolding fresh_of
loop-index-preserved c =
    let i = c.loop-index.index in
    let a = c.args in
    let part : list_size * i + list_size - list_size * i ≡ list_size = omega arith in
    let good = rw part at (sym c.valid.ensures ∙ c.if-not-valid.false) in
    let k = scan-more a.self a.lists.now streams i (streams - i) (omega arith) (omega arith) good in
    let left : streams - (i + 1) ≡ k.0 = omega (arith, k.1) in
    ap (λ (n : ℕ). streams_valid n (i + 1) a.self a.lists.now) left ∙ sym k.2 ∙ c.loop-index.invariant

pub returns : goal.returns
returns c =
    let i = c.loop-index.index in
    sym (scan-end c.args.self c.args.lists.now streams i (streams - i) (omega arith) (omega arith)) ∙ c.loop-index.invariant
