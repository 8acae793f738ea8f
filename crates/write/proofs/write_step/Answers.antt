-- `write_step` meets its contract: the bytes, what follows them, the commands and the interrupt. Assumes nothing.
use Rattle.settle.specs.Settle.{ports}
use Rattle.device.specs.Machines.{machine, done_of}
use Rattle.write.proofs.Writing.{write_done, write-few}
use Rattle.write.proofs.write_step.Goals as goal

pub conclude-requires : goal.conclude-requires
conclude-requires c =
    write-few c.args.offset c.args.bytes.now (ports c.args.hda c.args.host) c.written.result c.tail-ports.result
    c.written.ensures c.tail-ports.ensures c.requires

pub returns : goal.returns
returns c =
    λ lists queues.
    let k = c.conclude in
    let a = c.args in
    write_done a.offset a.bytes.now (machine a.hda a.host lists queues a.memory.now) c.written.result c.tail-ports.result
    (done_of k.result lists queues k.new.memory) c.written.ensures c.tail-ports.ensures (k.ensures lists queues)
