-- `answer_gain` meets its contract: the samples, copied behind themselves, are amplified where they stand. Assumes nothing.
use Rattle.std.proofs.Common.{◌-◌, ◌+◌, ◌∙◌, arith}
use Rattle.replay.proofs.Records.{gain-short, gain-other, gain-answer, copied-behind}
use Rattle.replay.proofs.answers.answer_gain.Goals as goal

pub returns-then-bytes-lt4 : goal.returns-then-bytes-lt4
returns-then-bytes-lt4 c =
    gain-short _ c.if-bytes-lt4.true

pub returns-then-bytes-pcm : goal.returns-then-bytes-pcm
returns-then-bytes-pcm c =
    gain-other c.args.bytes.now _ c.if-bytes-lt4.false (c.from-pcm.ensures ∙ c.get.ensures) c.if-bytes-pcm.true

pub returns : goal.returns
returns c =
    let b = c.args.bytes.now in
    let pcm = c.from-pcm.result in
    gain-answer b pcm c.if-bytes-pcm.false c.copy_within.new.self c.amplify.new.pcm c.gain_of-left.result c.gain_of-right.result c.if-bytes-lt4.false
    (c.from-pcm.ensures ∙ c.get.ensures) c.gain_of-left.ensures c.gain_of-right.ensures
    (copied-behind b pcm c.if-bytes-pcm.false c.copy_within.new.self (4 + pcm - 4) (omega arith) c.copy_within.ensures.after) c.amplify.ensures
