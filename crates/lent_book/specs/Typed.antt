-- What the types say of a machine: of its device, its host end, and the bytes of its queues and of guest memory.
use Rattle.word.specs.Value.{Bytes}
use Rattle.device.specs.Machines.{Machine}
use Rattle.record.specs.Typed.{TypedDevice}
use Rattle.host_record.specs.Typed.{TypedHost}

pub record TypedMachine (x : Machine) : Type 0 where
  pub device : TypedDevice x.hda
  pub regs : Bytes x.hda.regs
  pub host : TypedHost x.host
  pub queues : Bytes x.queues
  pub memory : Bytes x.memory
