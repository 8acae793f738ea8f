-- `frames_into` meets its contract: both sides silent, both as they are, or blocks. Assumes nothing.
use lib.ListN.{drop}
use Rattle.gain.proofs.Passes.{all-silent, all-unity, zeros-front, copied-front}
use Rattle.gain.proofs.frames_into.Goals as goal

pub returns-then-silent : goal.returns-then-silent
returns-then-silent c =
    let a = c.args in
    all-silent a.left a.right _ _ a.pcm.now _ a.whole c.is_silence.ensures c.is_silence-2.ensures c.if-silent.true c.requires.0 c.requires.2
    (zeros-front a.into.now c.fill.new.self a.whole c.requires.1 (c.fill.ensures.after (λ y e. e)))

pub returns-then-same : goal.returns-then-same
returns-then-same c =
    let a = c.args in
    all-unity a.left a.right _ _ a.pcm.now _ a.whole c.is_unity.ensures c.is_unity-2.ensures c.if-same.true (λ k. (c.type_inv.pcm k).fits)
    (copied-front a.pcm.now c.copy_from_slice.new.self (drop a.whole a.into.now) a.whole c.requires.2 c.copy_from_slice.ensures.after)
