-- `restored_device` is `restored_device`: its parts, each read at its place, and the later clock in the registers.
use native.Mathlib.Omega.{arith}
use Rattle.restore.proofs.Places.{fits-long}
use Rattle.restore.proofs.Outcomes.{device-made}
use Rattle.restore.proofs.restored_device.Goals as goal

pub load_clock-requires : goal.load_clock-requires
load_clock-requires c =
    fits-long c.args.state.now c.requires

pub load_block-regs-requires : goal.load_block-regs-requires
load_block-regs-requires c =
    omega (arith, fits-long c.args.state.now c.requires)

pub load_block-requires : goal.load_block-requires
load_block-requires c =
    omega (arith, fits-long c.args.state.now c.requires)

pub load_link-requires : goal.load_link-requires
load_link-requires c =
    fits-long c.args.state.now c.requires

pub bounds-state-5 : goal.bounds-state-5
bounds-state-5 c =
    omega (arith, fits-long c.args.state.now c.requires)

pub returns : goal.returns
returns c =
    let a = c.args in
    device-made a.strict a.state.now a.hda c.load_clock.ensures c.later-clock.ensures c.shown.ensures c.load_block-regs.ensures
    c.put.ensures c.load_block.ensures c.load_link.ensures c.restored_streams.ensures
