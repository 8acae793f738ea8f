-- `frames_by` is `frames_by`. Assumes nothing.
use Rattle.jitter.proofs.Cases.{frames-none, frames-rated}
use borrow.Author.Rules.{rules}
use Rattle.jitter.proofs.frames_by.Goals as goal

pub returns-in-None : goal.returns-in-None
returns-in-None c =
    let f = c.decode in
    let a = c.args in
    frames-none a.fraction a.nanos f.result _ f.ensures c.in-None.is

pub returns-in-Some : goal.returns-in-Some
returns-in-Some c =
    let f = c.decode in
    let a = c.args in
    frames-rated a.fraction a.nanos f.result _ c.in-Some.rate c.accrue.result c.whole_frames.result f.ensures c.in-Some.is c.accrue.ensures c.whole_frames.ensures
