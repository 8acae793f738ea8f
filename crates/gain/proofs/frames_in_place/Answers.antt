-- `frames_in_place` meets its contract: both sides silent, both as they are, or blocks. Assumes nothing.
use mathlib.Core.Path.{refl}
use Rattle.gain.proofs.Passes.{all-silent, all-unity, zeros-front, same-behind}
use Rattle.gain.proofs.frames_in_place.Goals as goal

pub returns-then-silent : goal.returns-then-silent
returns-then-silent c =
    let a = c.args in (
      all-silent a.left a.right _ _ a.pcm.now _ a.whole c.is_silence.ensures c.is_silence-2.ensures c.if-silent.true c.requires.0 c.requires.1
          (zeros-front a.pcm.now c.fill.new.self a.whole c.requires.1 (c.fill.ensures.after (λ y e. e))),
      same-behind a.pcm.now c.fill.new.self a.whole c.requires.1 c.fill.ensures.len,
    )

pub returns-else-not-same : goal.returns-else-not-same
returns-else-not-same c =
    let a = c.args in
    (all-unity a.left a.right _ _ a.pcm.now a.pcm.now a.whole c.is_unity.ensures c.is_unity-2.ensures c.if-not-same.false (λ k. (c.type_inv.pcm k).fits) (λ m h. refl), (λ m h. refl))
