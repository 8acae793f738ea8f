-- `save_step` is `save_step`: the size is tested, then the head and the streams are put one behind the other.
use mathlib.Core.Path.{ap, ◌∙◌}
use Prim.Native.Nat.{ℕ}
use native.Mathlib.Omega.{arith}
use Rattle.record.proofs.Held.{held-sized}
use Rattle.snapshot.specs.States.{size_of}
use Rattle.snapshot.proofs.Sizes.{size-bound}
use Rattle.snapshot.proofs.Outcomes.{state-put, short, done}
use Rattle.snapshot.specs.Saves.{saved_of}
use Rattle.snapshot.proofs.save_step.Goals as goal

pub returns-then-into-bytes : goal.returns-then-into-bytes
returns-then-into-bytes c =
    let a = c.args in
    short a.hda a.lists.now a.into.now c.size-bytes.result c.size-bytes.ensures c.answer.result c.if-into-bytes.true (c.answer.ensures ∙ ap (λ (n : ℕ). saved_of n a.hda 0) c.number.ensures)

-- the size is the head's 680 bytes and more
pub put_head-requires : goal.put_head-requires
unfolding size_of
put_head-requires c =
    omega (arith, c.size-bytes.ensures)

pub overflow_cast-bytes : goal.overflow_cast-bytes
overflow_cast-bytes c =
    omega (arith, c.size-bytes.ensures, size-bound c.args.hda c.requires.few)

pub returns : goal.returns
unfolding size_of
returns c =
    let d = c.args.hda in
    let lists = c.args.lists.now in
    let into = c.args.into.now in
    let left = c.put_streams.new.into in
    done d lists into c.size-bytes.result c.size-bytes.ensures c.answer-2.result left c.if-into-bytes.false
    (state-put d lists into c.put_head.new.into left (held-sized d _ c.well_formed.0) c.requires (omega (arith, c.size-bytes.ensures))
    c.put_head.ensures c.put_streams.ensures)
    c.answer-2.ensures
