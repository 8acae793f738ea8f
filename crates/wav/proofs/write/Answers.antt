-- `wav::write` meets its contract: it refuses as the definition does, and past its tests puts the header at the start of the space and the frames behind it.
-- Assumes nothing.
use Prim.Native.Nat.{◌+◌, ◌≤◌}
use mathlib.Core.Path.{refl, sym, ◌∙◌}
use native.Mathlib.Omega.{arith}
use lib.ListN.{length}
use Rattle.word.proofs.Copies.{copied-in}
use Rattle.wav.proofs.Files.{storable-says, write-refused, write-short, write-whole}
use Rattle.wav.proofs.write.Goals as goal

pub returns-then-not-is_storable : goal.returns-then-not-is_storable
returns-then-not-is_storable c =
    write-refused _ _ _ (sym c.is_storable.ensures ∙ c.if-not-is_storable.true)

pub returns-then-into-count : goal.returns-then-into-count
returns-then-into-count c =
    write-short _ _ _ (sym c.is_storable.ensures ∙ c.if-not-is_storable.false) c.if-into-count.true

pub overflow_cast-frames : goal.overflow_cast-frames
overflow_cast-frames c =
    record { fits = omega (arith, (storable-says c.args.rate (length c.args.frames.now) (sym c.is_storable.ensures ∙ c.if-not-is_storable.false)).small) }

pub header-first-requires : goal.header-first-requires
header-first-requires c =
    let s = storable-says c.args.rate (length c.args.frames.now) (sym c.is_storable.ensures ∙ c.if-not-is_storable.false) in (s.slow, s.small)

pub returns : goal.returns
returns c =
    let a = c.args in
    let after = c.copy.new.into in
    let room : 44 + length a.frames.now ≤ length after = omega arith in
    rw (copied-in (length a.frames.now) 44 after room a.frames.now c.copy-2.new.into refl c.copy-2.ensures)
    (write-whole a.rate a.frames.now a.into.now (sym c.is_storable.ensures ∙ c.if-not-is_storable.false) _ after c.header-first.ensures (omega arith) c.copy.ensures)
