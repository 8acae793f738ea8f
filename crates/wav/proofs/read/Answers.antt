-- `wav::read` meets its contract: it refuses as the definition does, and past its tests copies all that stands behind the header.
-- Assumes nothing.
use Prim.Native.Nat.{◌-◌}
use mathlib.Core.Path.{sym, ◌∙◌}
use native.Mathlib.Omega.{arith}
use borrow.Author.Rules.{part_to_end}
use lib.ListN.{length, take, drop}
use Rattle.wav.proofs.Files.{file-long, read-refused, read_short, read_whole}
use Rattle.wav.proofs.read.Goals as goal

pub returns-then-not-is_file : goal.returns-then-not-is_file
returns-then-not-is_file c =
    read-refused _ _ (sym c.is_file.ensures ∙ c.if-not-is_file.true)

pub overflow_sub-size : goal.overflow_sub-size
overflow_sub-size c =
    file-long _ (sym c.is_file.ensures ∙ c.if-not-is_file.false)

pub returns-then-into-size : goal.returns-then-into-size
returns-then-into-size c =
    read_short _ _ (sym c.is_file.ensures ∙ c.if-not-is_file.false) c.if-into-size.true

pub get-rate-requires : goal.get-rate-requires
get-rate-requires c =
    omega (arith, file-long c.args.file.now (sym c.is_file.ensures ∙ c.if-not-is_file.false))

pub slice_bounds-copy-count : goal.slice_bounds-copy-count
slice_bounds-copy-count c =
    omega (arith, file-long c.args.file.now (sym c.is_file.ensures ∙ c.if-not-is_file.false))

pub slice_bounds-copy-start : goal.slice_bounds-copy-start
slice_bounds-copy-start c =
    omega (arith, file-long c.args.file.now (sym c.is_file.ensures ∙ c.if-not-is_file.false))

pub returns : goal.returns
returns c =
    let bytes = c.args.file.now in
    rw c.get-rate.ensures
    (read_whole bytes c.args.into.now (sym c.is_file.ensures ∙ c.if-not-is_file.false) (take (length bytes - 44) (drop 44 bytes)) c.copy.new.into (part_to_end bytes 44) (omega arith) c.copy.ensures)
