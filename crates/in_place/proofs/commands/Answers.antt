-- `commands` meets its contract: nothing to do, or the commands with registers and link out of the record and back. Assumes nothing.
use mathlib.Core.Path.{sym, ◌∙◌}
use native.Mathlib.Omega.{arith}
use borrow.Author.Rules.{rules}
use Rattle.in_place.proofs.Steps.{commands-nothing, next-few, commands-ran}
use Rattle.in_place.proofs.commands.Goals as goal

pub returns-then-rests : goal.returns-then-rests
returns-then-rests c =
    let word = c.get-responses in
    let dma = c.dma_enabled-dma in
    let a = c.args in record { memory_after = commands-nothing a.device.now a.memory.now dma.result dma.ensures c.from.result (search rules) (sym c.rests.ensures ∙ c.if-rests.true); device_after = c.requires.1 }

pub commands-next-requires : goal.commands-next-requires
commands-next-requires c =
    rw c.load_link.ensures c.requires.2

pub replace_link-requires : goal.replace_link-requires
replace_link-requires c =
    let ran = c.commands-next in
    let link = c.load_link in
    let own = c.load_block-regs in
    let dma = c.dma_enabled-dma in
    let a = c.args in (
      c.requires.0,
      c.requires.1,
      next-few a.device.now a.memory.now dma.result dma.ensures link.result ran.result link.ensures own.result ran.new.regs ran.new.memory own.ensures
          ran.ensures c.requires.2,
    )

pub replace_registers-requires : goal.replace_registers-requires
replace_registers-requires c =
    (omega (arith, c.requires.0), c.replace_link.ensures.device)

pub returns : goal.returns
returns c =
    let regs = c.replace_registers in
    let back = c.replace_link in
    let ran = c.commands-next in
    let link = c.load_link in
    let own = c.load_block-regs in
    let dma = c.dma_enabled-dma in
    let a = c.args in record {
      memory_after = commands-ran a.device.now a.memory.now dma.result dma.ensures link.result ran.result link.ensures own.result ran.new.regs ran.new.memory own.ensures
          ran.ensures back.new.into regs.new.into back.ensures regs.ensures;
      device_after = regs.ensures.device;
    }
