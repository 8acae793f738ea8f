-- `store_device` puts `device_bytes`: the head, the streams and the latch, one behind the other.
use mathlib.Core.Path.{◌∙◌}
use native.Mathlib.Omega.{arith}
use lib.ListN.{length-set}
use Rattle.record.proofs.Held.{held-sized}
use Rattle.record.proofs.Stores.{device-put}
use Rattle.record.proofs.store_device.Goals as goal

pub shape_of-into : goal.shape_of-into
shape_of-into c =
    length-set c.put_streams.new.into _ c.flag_byte.result ∙ omega arith

pub returns : goal.returns
returns c =
    let d = c.args.hda in
    device-put d (held-sized d _ c.well_formed.0) c.args.into.now c.put_head.new.into c.put_streams.new.into c.flag_byte.result
    c.requires (omega arith) (omega arith) c.put_head.ensures c.put_streams.ensures c.flag_byte.ensures
