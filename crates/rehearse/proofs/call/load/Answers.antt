-- `load` is `call_at`: each word at its place. Assumes nothing.
use Rattle.rehearse.specs.Recorded.{call_at}
use Rattle.rehearse.proofs.call.load.Goals as goal

pub returns : goal.returns
unfolding call_at
returns c =
    rw (c.get-6.ensures, c.get-5.ensures, c.get-4.ensures, c.get-3.ensures, c.get-2.ensures, c.get.ensures)
