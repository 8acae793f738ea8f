-- Each byte of a plain write is plain.
use Rattle.std.proofs.Common.{ℕ, List, length, sym, ap, ◌∙◌, arith}
use Rattle.bus.specs.Bus.{front_of}
use Rattle.bus.proofs.Laws.{bytes-far, byte-plain, bytes-step, bytes-end, plain-each}
use Rattle.bus.proofs.write_plain.Goals as goal

pub returns-then-at : goal.returns-then-at
returns-then-at c = λ l. sym (bytes-far _ _ _ (omega arith)) ∙ c.loop-value.invariant.1 l

pub loop-value-preserved : goal.loop-value-preserved
loop-value-preserved c =
    let s = c.loop-value in
    let plain = plain-each c.args.offset (length c.args.bytes.now) s.value-index s.at c.requires (omega arith) s.invariant.0 in (
      omega (arith, s.invariant.0),
      λ l.
          bytes-step (front_of s.regs l) s.at s.value-index _ _ (omega arith)
          (ap (λ (regs : List ℕ). front_of regs l) c.write_byte.ensures ∙ byte-plain (front_of s.regs l) s.at _ (omega arith) plain)
          ∙ s.invariant.1 l,
    )

pub returns : goal.returns
returns c = λ l. bytes-end (front_of c.loop-value.regs l) c.loop-value.at c.loop-value.value-index _ (omega arith) ∙ c.loop-value.invariant.1 l
