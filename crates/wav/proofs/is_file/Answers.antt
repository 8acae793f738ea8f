-- `wav::is_file` meets its contract: its tests are those of the definition, of a file that has a whole header.
-- Assumes nothing.
use Prim.Native.Nat.{◌-◌}
use mathlib.Core.Path.{◌≡◌, sym, ◌∙◌}
use mathlib.Core.Bool.{true}
use native.Mathlib.Omega.{arith}
use lib.ListN.{length, take}
use Rattle.wav.specs.Files.{storable}
use Rattle.wav.proofs.Files.{storable-says, short-refused, unstorable-refused, file-begins}
use Rattle.wav.proofs.Same.{same_pointwise}
use Rattle.wav.proofs.is_file.Goals as goal

pub returns-then-file-lt-HEADER_BYTES : goal.returns-then-file-lt-HEADER_BYTES
returns-then-file-lt-HEADER_BYTES c =
    short-refused _ c.if-file-lt-HEADER_BYTES.true

pub returns-then-not-is_storable : goal.returns-then-not-is_storable
returns-then-not-is_storable c =
    unstorable-refused _ c.get-rate.result c.get-rate.ensures (sym c.is_storable.ensures ∙ c.if-not-is_storable.true)

pub overflow_cast-size : goal.overflow_cast-size
overflow_cast-size c =
    record { fits = omega (arith, (storable-says c.get-rate.result (length c.args.file.now - 44) (sym c.is_storable.ensures ∙ c.if-not-is_storable.false)).small) }

pub header-written-requires : goal.header-written-requires
header-written-requires c =
    let s = storable-says c.get-rate.result (length c.args.file.now - 44) (sym c.is_storable.ensures ∙ c.if-not-is_storable.false) in
    (s.slow, s.small)

pub returns : goal.returns
returns c =
    let stored : storable c.get-rate.result (length c.args.file.now - 44) ≡ true = sym c.is_storable.ensures ∙ c.if-not-is_storable.false in
    c.starts_with.ensures.value ∙ same_pointwise (take (length c.header-written.result) c.args.file.now) c.header-written.result ∙ file-begins _ c.get-rate.result c.get-rate.ensures stored _ c.header-written.ensures
