-- `opened` meets its contract: refused, or served. Assumes nothing.
use Rattle.turn.proofs.Turns.{work-needs}
use Rattle.turn.proofs.opened.Goals as goal

pub served-next-requires : goal.served-next-requires
served-next-requires c =
    let e = c.load-e in
    let g = c.setup_of-g in
    let a = c.args in
    work-needs a.regs.now a.codec a.host a.index a.host.downstream a.limit a.s a.list.now a.part.now g.result e.result g.ensures e.ensures
    c.requires.1
