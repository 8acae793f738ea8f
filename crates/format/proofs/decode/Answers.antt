-- `format::decode` meets its contract: the fields that it tests are those that make a word 16-bit stereo PCM, and the rate is tested as the definition has it.
-- Assumes nothing.
use Rattle.std.proofs.Common.{◌≡◌, true, false, arith}
use Rattle.std.proofs.lemmas.Grind.{common_steps}
use Rattle.format.proofs.Laws.{stereo_fields, refused, rated}
use Rattle.format.proofs.decode.Goals as goal

pub returns-then-not-stereo16 : goal.returns-then-not-stereo16
returns-then-not-stereo16 c =
    let h : stereo_fields c.args.word ≡ false = grind (arith, common_steps) in
    refused _ h

pub returns : goal.returns
returns c =
    let h : stereo_fields c.args.word ≡ true = grind (arith, common_steps) in
    let e = rated c.args.word h in
    grind (arith, common_steps)
