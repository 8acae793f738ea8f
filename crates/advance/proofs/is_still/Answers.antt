-- `is_still` meets its contract: the two bytes are the record's. Assumes nothing.
use native.Mathlib.Omega.{arith}
use borrow.Author.Rules.{rules}
use lib.ListN.{drop}
use lib.Seq.{get_or-take, get_or-drop}
use Rattle.record.specs.Loads.{device_at}
use Rattle.advance.proofs.is_still.Goals as goal

pub returns : goal.returns
unfolding device_at
returns c =
    let b = c.args.device.now in
    rw (get_or-take 256 (drop 262 b) 8 0 (omega arith), get_or-drop 262 b 8 0)
