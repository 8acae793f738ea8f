-- `load_device` is `device_at`: its parts, each read at its place.
use Rattle.record.specs.Loads.{device_at}
use Rattle.record.proofs.load_device.Goals as goal

pub returns : goal.returns
unfolding device_at
returns c =
    rw (
      c.load_block.ensures,
      c.load_block-2.ensures,
      c.load_link.ensures,
      c.load_streams.ensures,
      c.load_clock.ensures,
    )
