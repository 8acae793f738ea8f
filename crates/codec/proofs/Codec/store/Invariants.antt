-- The loop's invariant: the records from node `i` on, put into what is there, give `store_codec_at`.
use Rattle.std.proofs.Common.{◌≡◌}
use Rattle.codec.specs.Bytes.{store_codec_at}
use Rattle.codec.proofs.Bytes.{put_from}
use Rattle.codec.proofs.Codec.store.Given as goal

abbrev pub invariant-loop-i : goal.invariant-loop-i
invariant-loop-i l = put_from l.i l.at l.fn.self l.bytes ≡ store_codec_at l.at l.fn.self l.initial.bytes
