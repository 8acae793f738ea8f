-- `turn_at` meets its contract: stream, codec and microphone are the record's, and registers and stream go back into it. Assumes nothing.
use Prim.Native.Nat.{◌+◌, ◌-◌, ◌*◌, ◌≤◌}
use mathlib.Core.Path.{refl, sym, ap, ◌∙◌}
use native.Mathlib.Omega.{arith}
use borrow.Author.Rules.{rules}
use Rattle.stream.specs.Streams.{list_size}
use Rattle.queue.specs.Queues.{capacity}
use Rattle.rings.specs.declared.Link.{Link}
use Rattle.turn.specs.Turns.{Turn}
use Rattle.turn.proofs.Leaves.{turn-listed}
use Rattle.device.specs.declared.Hda.{Hda}
use Rattle.device.specs.Devices.{with_stream}
use Rattle.device.specs.Machines.{machine}
use Rattle.record.specs.Loads.{device_at}
use Rattle.record.proofs.Theorems.{record-sized, stream-loaded}
use Rattle.record.proofs.Replaced.{regs-lent}
use Rattle.serve.proofs.Turns.{turn-needs, turn-taken}
use Rattle.serve.proofs.turn_at.Goals as goal

pub turn-turned-requires : goal.turn-turned-requires
turn-turned-requires c =
    let a = c.args in
    let i = a.index in
    let x = machine (device_at a.device.now) a.host a.lists.now a.queues.now a.memory.now in
    (search rules, rw (c.load_stream-s.ensures ∙ sym (stream-loaded a.device.now i c.requires.2)) (turn-needs x i (list_size * i + list_size - list_size * i) (capacity * i + capacity - capacity * i) c.requires.4 c.requires.2 (omega arith) (omega arith)))

pub replace_stream-requires : goal.replace_stream-requires
replace_stream-requires c =
    let t = c.turn-turned in
    let s = c.load_stream-s in
    let a = c.args in
    let i = a.index in
    let b = a.device.now in
    let few : s.result.descriptor ≤ 255 = rw (s.ensures ∙ sym (stream-loaded b i c.requires.2)) (c.requires.4.listed i c.requires.2) in
    let h = regs-lent b c.requires.1 (λ j. (c.slice_known-1.given j).fits) t.new.regs t.auto.regs in
    (record-sized _ h.device, h.device, c.requires.2, rw (ap (λ (x : Turn). x.turned.stream.descriptor) t.ensures) (turn-listed _ _ _ _ _ _ _ _ _ _ _ few))

pub returns : goal.returns
unfolding device_at
returns c =
    let put = c.replace_stream in
    let t = c.turn-turned in
    let link = c.load_link in
    let s = c.load_stream-s in
    let a = c.args in
    let i = a.index in
    let b = a.device.now in
    let h = regs-lent b c.requires.1 (λ j. (c.slice_known-1.given j).fits) t.new.regs t.auto.regs in record {
      memory_after = turn-taken a.nanos i (device_at b) a.host a.lists.now a.queues.now a.memory.now link.result.codec s.result _
          (list_size * i + list_size - list_size * i) (capacity * i + capacity - capacity * i) t.result t.new.regs t.new.list t.new.part t.new.memory
          c.requires.3 (ap (λ (l : Link). l.codec) link.ensures) (s.ensures ∙ sym (stream-loaded b i c.requires.2)) refl (omega arith) (omega arith) t.ensures
          (device_at put.new.into) (put.ensures.same ∙ ap (λ (d : Hda). with_stream d i t.result.stream) h.same);
      device_after = put.ensures.device;
    }
