-- `report` meets its contract, by the verdict. Assumes nothing.
use Rattle.replay.specs.Printed.{report_of}
use Rattle.replay.proofs.Written.{appends-none, appends-then}
use Rattle.replay.proofs.lines.report.Goals as goal

pub returns-in-Same : goal.returns-in-Same
unfolding report_of
returns-in-Same g c = rw c.in-Same.is (appends-none _)

pub returns-in_ok-print_line-in-Differs : goal.returns-in_ok-print_line-in-Differs
unfolding report_of
returns-in_ok-print_line-in-Differs g c =
    rw c.in-Differs.is (appends-then _ _ _ _ _ _ c.in_ok-print_line-in-Differs.ensures c.print_own.ensures)

pub returns-in_ok-print_line-in-Unreadable : goal.returns-in_ok-print_line-in-Unreadable
unfolding report_of
returns-in_ok-print_line-in-Unreadable g c =
    rw c.in-Unreadable.is (appends-then _ _ _ _ _ _ c.in_ok-print_line-in-Unreadable.ensures c.write_all.ensures.bytes)
