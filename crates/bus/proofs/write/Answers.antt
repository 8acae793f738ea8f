-- Each way of a turn is a byte of the definition.
use Rattle.std.proofs.Common.{ℕ, List, ◌≡◌, get_or, sym, ap, ◌∙◌, arith}
use Rattle.bus.specs.Bus.{Front, front_of, byte_of}
use Rattle.bus.proofs.Laws.{bytes-far, byte-plain, bytes-step, bytes-end}
use Rattle.bus.proofs.write.Goals as goal
use Rattle.bus.proofs.write.Goals.{then-is_plain, else-is_plain}

pub returns-then-address : goal.returns-then-address
returns-then-address c =
    let l = c.loop-byte in
    sym (bytes-far _ _ _ (omega arith)) ∙ l.invariant

pub loop-byte-preserved : goal.loop-byte-preserved
loop-byte-preserved c =
    let l = c.loop-byte in
    let x : Front = front_of l.regs l.link in
    let turn : front_of c.if-is_plain.regs c.if-is_plain.link ≡ byte_of x l.address (get_or c.args.bytes.now l.byte-index 0) =
    elim c.if-is_plain.branch [
      | then-is_plain w ↦
          rw (w.regs-is, w.link-is)
          (ap (λ (regs : List ℕ). front_of regs l.link) w.write_byte.ensures
          ∙ byte-plain x l.address _ (omega arith) (sym c.is_plain.ensures ∙ w.if-is_plain.true))
      | else-is_plain w ↦ rw (w.regs-is, w.link-is) w.write_byte-link.ensures
    ] in
    bytes-step x l.address l.byte-index _ _ (omega arith) turn ∙ l.invariant

pub returns : goal.returns
returns c =
    let l = c.loop-byte in
    bytes-end (front_of l.regs l.link) l.address l.byte-index _ (omega arith) ∙ l.invariant
