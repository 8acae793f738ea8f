-- `streams_valid` meets its contract: the closure tests one stream.
use Prim.Native.Nat.{◌*◌}
use mathlib.Core.Path.{◌∙◌, refl}
use borrow.Author.Rules.{rules}
use Rattle.std.proofs.Common.{tests}
use Rattle.std.proofs.lemmas.Iterator.{YieldsList-from_range}
use Rattle.std.proofs.lemmas.Iterator.Search.{all_from_yields_List}
use native.Mathlib.Omega.{arith}
use Rattle.word.proofs.Lists.{part_count}
use Rattle.stream.specs.Streams.{list_size}
use Rattle.stream.specs.Box.{streams}
use Rattle.read.proofs.Records.{held_at, valid_list}
use Rattle.read.proofs.streams_valid.Goals as goal

pub returns : goal.returns
returns c =
    let b = c.args.device.now in
    let lists = c.args.lists.now in
    all_from_yields_List (held_at b lists) _ _ c.all.result c.all.ensures.ran (YieldsList-from_range 0 streams streams refl refl)
    (λ x r q called. (search (rules, tests), search (rules, tests, part_count list_size (list_size * x) lists)))
    ∙ valid_list b lists streams 0 (omega arith)
