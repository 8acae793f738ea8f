-- `bar_read` meets its contract: the registers' read, or zeros behind the check. Assumes nothing.
use lib.ListN.{length, replicate}
use Rattle.record.specs.Loads.{device_at}
use Rattle.read.specs.Reads.{shown_of}
use Rattle.read.proofs.Reading.{hidden, shown, bar-registers, bar-zeros}
use Rattle.device.specs.Machines.{check_of}
use mathlib.Core.Path.{refl}
use Rattle.refusal.proofs.Laws.{refused, refused-none, number-nonzero}
use Rattle.read.proofs.bar_read.Goals as goal

pub returns-then-bar-eq0 : goal.returns-then-bar-eq0
returns-then-bar-eq0 c =
    let r = c.read in
    let a = c.args in
    bar-registers a.bar a.offset (device_at a.device.now) a.host a.lists.now (length a.queues.now) a.into.now (shown_of r.result r.new.into) c.if-bar-eq0.true r.ensures

pub returns-in-Err : goal.returns-in-Err
returns-in-Err c =
    let a = c.args in
    let d = device_at a.device.now in
    let n = c.number.result in
    let same = refused c.check.result (check_of d a.host a.lists.now (length a.queues.now)) c.check.ensures c.in-Err.refusal c.in-Err.is n c.number.ensures in
    let none = number-nonzero c.in-Err.refusal n c.number.ensures in
    bar-zeros a.bar a.offset d a.host a.lists.now (length a.queues.now) a.into.now (shown_of c.status_of.result a.into.now) c.if-bar-eq0.false
    (hidden d a.host a.lists.now (length a.queues.now) n same c.status_of.result c.status_of.ensures a.into.now (replicate (length a.into.now) 0) none)

pub returns : goal.returns
returns c =
    let a = c.args in
    let d = device_at a.device.now in
    let same = refused-none c.check.result (check_of d a.host a.lists.now (length a.queues.now)) c.check.ensures c.in_default.field-0 c.in_default.is in
    bar-zeros a.bar a.offset d a.host a.lists.now (length a.queues.now) a.into.now (shown_of c.status_of-2.result c.fill.new.self) c.if-bar-eq0.false
    (shown d a.host a.lists.now (length a.queues.now) 0 same c.status_of-2.result c.status_of-2.ensures a.into.now (replicate (length a.into.now) 0) c.fill.new.self refl (c.fill.ensures.after (λ y e. e)))
