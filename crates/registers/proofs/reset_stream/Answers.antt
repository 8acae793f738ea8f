-- What is filled is as many zeros as a stream has registers.
use Rattle.std.proofs.Common.{ℕ, replicate, ◌≡◌, ◌+◌, ◌-◌, ◌*◌, ap, ◌∙◌, arith, length}
use borrow.Rule.Slice.PartMut.{mid_of, mid_len}
use Rattle.word.specs.Place.{store_at}
use Rattle.registers.specs.Reset.{reset_stream_of}
use Rattle.registers.proofs.Zeros.{zeros_put}
use Rattle.registers.proofs.reset_stream.Goals as goal

pub returns : goal.returns
unfolding reset_stream_of
returns c =
    let i = c.args.index in
    let part : length (mid_of (128 + 32 * i) (128 + 32 * i + 32 - (128 + 32 * i)) c.args.regs.now) ≡ 32 = omega (arith, mid_len (128 + 32 * i) (128 + 32 * i + 32) c.args.regs.now) in
    let zeros : c.fill.new.self ≡ replicate 32 0 = c.fill.ensures.after (λ y e. e) ∙ ap (λ (k : ℕ). replicate k 0) part in
    c.put.ensures ∙ ap (store_at 2 (128 + 32 * i + 16) 1023) (zeros_put (128 + 32 * i) _ 32 c.args.regs.now c.fill.new.self (omega arith) zeros)
