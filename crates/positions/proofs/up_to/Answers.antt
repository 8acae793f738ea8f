-- `positions::up_to` meets its contract: each turn counts one position, and the first above `c` ends the count. Assumes nothing.
use Rattle.std.proofs.Common.{arith}
use Rattle.positions.proofs.Scan.{up_more, up-stop, up-end}
use Rattle.positions.proofs.up_to.Goals as goal

pub returns-then-get-c : goal.returns-then-get-c
returns-then-get-c c =
    let a = c.args in
    (omega (arith, up-stop a.n a.list.now c.loop-i.i c.get.result c.loop-i-test.true c.get.ensures a.c (omega arith)), omega arith)

pub loop-i-preserved : goal.loop-i-preserved
loop-i-preserved c =
    let a = c.args in
    omega (arith, up_more a.n a.list.now c.loop-i.i c.get.result c.loop-i-test.true c.get.ensures a.c (omega arith))

pub returns : goal.returns
returns c =
    let a = c.args in
    (omega (arith, up-end a.n a.list.now c.loop-i.i c.loop-i-test.false a.c), omega arith)
