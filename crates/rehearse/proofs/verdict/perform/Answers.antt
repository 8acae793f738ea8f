-- `perform` is `perform_of`: each kind's own call, in its group. Assumes nothing.
use Rattle.std.proofs.Common.{ℕ, true, false, ap, ◌∙◌}
use Rattle.port_device.specs.Calls.{lent}
use Rattle.port_reads.specs.Reads.{shown}
use Rattle.port_host.specs.Calls.{Kept, FedBytes}
use Rattle.rehearse.specs.Calls.{change_of, show_of, host_of, memory_of, settled, fed}
use Rattle.rehearse.specs.Verdict.{fresh_in, reached_in, paused_in, changed_in, shown_in, host_in, perform_of}
use Rattle.rehearse.proofs.Steps.{restored-beside}
use Rattle.rehearse.proofs.Verdicts.{perform-unknown}
use Rattle.rehearse.proofs.verdict.perform.Goals as goal

pub returns-in-Fresh : goal.returns-in-Fresh
unfolding perform_of
returns-in-Fresh c =
    let a = c.args in
    ap (fresh_in (lent a.device.now a.host.now a.lists.now a.queues.now a.memory.now) a.into.now) c.fresh.ensures ∙ rw (c.in-Fresh.ensures)

pub returns-in-Noise : goal.returns-in-Noise
unfolding perform_of memory_of
returns-in-Noise c =
    let a = c.args in
    ap (reached_in (lent a.device.now a.host.now a.lists.now a.queues.now a.memory.now) a.into.now) c.noise.ensures ∙ rw (c.in-Noise.ensures)

pub returns-in-Poke : goal.returns-in-Poke
unfolding perform_of memory_of
returns-in-Poke c =
    let a = c.args in
    ap (reached_in (lent a.device.now a.host.now a.lists.now a.queues.now a.memory.now) a.into.now) c.poke.ensures ∙ rw (c.in-Poke.ensures)

pub returns-in-Look : goal.returns-in-Look
unfolding perform_of memory_of
returns-in-Look c =
    let a = c.args in
    rw (c.in-Look.ensures)

pub returns-in-Advance : goal.returns-in-Advance
unfolding perform_of change_of
returns-in-Advance c =
    let a = c.args in
    ap (changed_in a.into.now) c.advance.ensures ∙ rw (c.in-Advance.ensures)

pub returns-in-Write : goal.returns-in-Write
unfolding perform_of change_of
returns-in-Write c =
    let a = c.args in
    ap (changed_in a.into.now) c.write.ensures ∙ rw (c.in-Write.ensures)

pub returns-in-ConfigWrite : goal.returns-in-ConfigWrite
unfolding perform_of change_of
returns-in-ConfigWrite c =
    let a = c.args in
    ap (changed_in a.into.now) c.config_write.ensures ∙ rw (c.in-ConfigWrite.ensures)

pub returns-in-BarWrite : goal.returns-in-BarWrite
unfolding perform_of change_of
returns-in-BarWrite c =
    let a = c.args in
    ap (changed_in a.into.now) c.bar_write.ensures ∙ rw (c.in-BarWrite.ensures, c.low.ensures)

pub returns-in-PinPresence : goal.returns-in-PinPresence
unfolding perform_of change_of
returns-in-PinPresence c =
    let a = c.args in
    ap (changed_in a.into.now) c.pin_presence_changed.ensures ∙ rw (c.in-PinPresence.ensures, c.low-in-PinPresence.ensures)

pub returns-in-Pause : goal.returns-in-Pause
unfolding perform_of
returns-in-Pause c =
    let a = c.args in
    ap (paused_in (lent a.device.now a.host.now a.lists.now a.queues.now a.memory.now) a.into.now) c.set_paused.ensures ∙ rw (c.in-Pause.ensures)

pub returns-in-Restore : goal.returns-in-Restore
unfolding perform_of change_of
returns-in-Restore c =
    let a = c.args in
    ap (changed_in a.into.now) (restored-beside a.memory.now true a.bytes.now a.device.now a.host.now a.lists.now a.queues.now _ _ _ _ c.restore.ensures) ∙ rw (c.in-Restore.ensures)

pub returns-in-RestoreEmptied : goal.returns-in-RestoreEmptied
unfolding perform_of change_of
returns-in-RestoreEmptied c =
    let a = c.args in
    ap (changed_in a.into.now) (restored-beside a.memory.now false a.bytes.now a.device.now a.host.now a.lists.now a.queues.now _ _ _ _ c.restore-in-RestoreEmptied.ensures) ∙ rw (c.in-RestoreEmptied.ensures)

pub returns-in-Read : goal.returns-in-Read
unfolding perform_of show_of
returns-in-Read c =
    let a = c.args in
    ap (shown_in (lent a.device.now a.host.now a.lists.now a.queues.now a.memory.now)) c.read.ensures ∙ rw (c.in-Read.ensures)

pub returns-in-Save : goal.returns-in-Save
unfolding perform_of show_of
returns-in-Save c =
    let a = c.args in
    ap (shown_in (lent a.device.now a.host.now a.lists.now a.queues.now a.memory.now)) c.save.ensures ∙ rw (c.in-Save.ensures)

pub returns-in-BarRead : goal.returns-in-BarRead
unfolding perform_of show_of
returns-in-BarRead c =
    let a = c.args in
    ap (shown_in (lent a.device.now a.host.now a.lists.now a.queues.now a.memory.now)) c.bar_read.ensures ∙ rw (c.in-BarRead.ensures, c.low-in-BarRead.ensures)

pub returns-in-ConfigRead : goal.returns-in-ConfigRead
unfolding perform_of show_of
returns-in-ConfigRead c =
    let a = c.args in
    ap (λ (n : ℕ). shown_in (lent a.device.now a.host.now a.lists.now a.queues.now a.memory.now) (shown n a.into.now)) c.config_read.ensures ∙ rw (c.in-ConfigRead.ensures)

pub returns-in-Feed : goal.returns-in-Feed
unfolding perform_of host_of
returns-in-Feed c =
    let a = c.args in
    ap (λ (f : FedBytes). host_in (lent a.device.now a.host.now a.lists.now a.queues.now a.memory.now) (fed f a.into.now)) c.feed.ensures ∙ rw (c.in-Feed.ensures)

pub returns-in-Pull : goal.returns-in-Pull
unfolding perform_of host_of
returns-in-Pull c =
    let a = c.args in
    ap (host_in (lent a.device.now a.host.now a.lists.now a.queues.now a.memory.now)) c.pull.ensures ∙ rw (c.in-Pull.ensures)

pub returns-in-PlaybackFails : goal.returns-in-PlaybackFails
unfolding perform_of host_of
returns-in-PlaybackFails c =
    let a = c.args in
    ap (λ (k : Kept). host_in (lent a.device.now a.host.now a.lists.now a.queues.now a.memory.now) (settled k a.queues.now a.into.now)) c.set_playback_fails.ensures ∙ rw (c.in-PlaybackFails.ensures)

pub returns-in-CaptureFails : goal.returns-in-CaptureFails
unfolding perform_of host_of
returns-in-CaptureFails c =
    let a = c.args in
    ap (λ (k : Kept). host_in (lent a.device.now a.host.now a.lists.now a.queues.now a.memory.now) (settled k a.queues.now a.into.now)) c.set_capture_fails.ensures ∙ rw (c.in-CaptureFails.ensures)

pub returns-in-Downstream : goal.returns-in-Downstream
unfolding perform_of host_of
returns-in-Downstream c =
    let a = c.args in
    ap (λ (k : Kept). host_in (lent a.device.now a.host.now a.lists.now a.queues.now a.memory.now) (settled k a.queues.now a.into.now)) c.set_downstream.ensures ∙ rw (c.in-Downstream.ensures, c.low-in-Downstream.ensures)

pub returns-in-Unknown : goal.returns-in-Unknown
returns-in-Unknown c =
    let a = c.args in
    perform-unknown a.call a.bytes.now (lent a.device.now a.host.now a.lists.now a.queues.now a.memory.now) a.into.now (c.in-Unknown.ensures)
