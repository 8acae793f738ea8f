-- `read` meets its contract: refused by the check, or the registers shown. Assumes nothing.
use lib.ListN.{length}
use Rattle.registers.specs.Reads as registers
use Rattle.record.specs.Loads.{device_at}
use Rattle.read.specs.Reads.{read_of}
use Rattle.read.proofs.Reading.{hidden, shown}
use Rattle.device.specs.Machines.{check_of}
use mathlib.Core.Path.{refl}
use Rattle.refusal.proofs.Laws.{refused, refused-none, number-nonzero}
use Rattle.read.proofs.read.Goals as goal

pub returns-in-Err : goal.returns-in-Err
unfolding read_of
returns-in-Err c =
    let a = c.args in
    let d = device_at a.device.now in
    let n = c.number.result in
    let same = refused c.check.result (check_of d a.host a.lists.now (length a.queues.now)) c.check.ensures c.in-Err.refusal c.in-Err.is n c.number.ensures in
    let none = number-nonzero c.in-Err.refusal n c.number.ensures in
    hidden d a.host a.lists.now (length a.queues.now) n same c.status_of.result c.status_of.ensures a.into.now (registers.read_of d.regs a.offset (length a.into.now)) none

pub returns : goal.returns
unfolding read_of device_at
returns c =
    let a = c.args in
    let d = device_at a.device.now in
    let same = refused-none c.check.result (check_of d a.host a.lists.now (length a.queues.now)) c.check.ensures c.in_default.field-0 c.in_default.is in
    shown d a.host a.lists.now (length a.queues.now) 0 same c.status_of-2.result c.status_of-2.ensures a.into.now (registers.read_of d.regs a.offset (length a.into.now)) c.read_in.new.into refl c.read_in.ensures
