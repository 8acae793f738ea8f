-- A turn writes a byte as the definition does.
use Rattle.std.proofs.Common.{◌+◌, List, ℕ, drop, sym, ap, ◌∙◌, arith}
use Rattle.configuration.specs.Configuration.{write_of}
use Rattle.configuration.proofs.Writes.{write-past, write-turn, write-end}
use Rattle.configuration.proofs.write.Goals as goal

pub returns-then-a-ge-SIZE : goal.returns-then-a-ge-SIZE
returns-then-a-ge-SIZE c =
    let l = c.loop-byte in
    sym (write-past l.config l.a (drop l.byte-index c.args.bytes.now) (omega arith)) ∙ l.invariant

pub loop-byte-preserved : goal.loop-byte-preserved
loop-byte-preserved c =
    let l = c.loop-byte in
    let bs : List ℕ = c.args.bytes.now in
    ap (λ (config : List ℕ). write_of config (l.a + 1) (drop (l.byte-index + 1) bs)) c.write_byte.ensures
    ∙ sym (write-turn l.config l.a bs l.byte-index (omega arith))
    ∙ l.invariant

pub returns : goal.returns
returns c =
    let l = c.loop-byte in
    sym (write-end l.config l.a c.args.bytes.now l.byte-index (omega arith)) ∙ l.invariant
