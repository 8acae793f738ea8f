-- `digest` meets its contract. The loop's invariant: the digest of the bytes that are left, behind that of those before, is that of all. Assumes nothing.
use Rattle.std.proofs.Common.{◌≡◌, drop}
use Rattle.rehearse.specs.Digest.{digest_of}
use Rattle.rehearse.proofs.digest.digest.Given as goal

abbrev pub invariant-loop-byte : goal.invariant-loop-byte
invariant-loop-byte l = digest_of l.sum (drop l.byte-index l.bytes) ≡ digest_of l.start l.bytes
