-- `put_head` puts `head_of`: the mark, the two flags, configuration and registers, one behind the other, then the rest.
use Prim.Native.Nat.{ℕ}
use mathlib.Core.Path.{◌≡◌, refl, ap, ◌∙◌}
use mathlib.Core.List.{List, [], ◌∷◌}
use native.Mathlib.Omega.{arith}
use Rattle.word.specs.Place.{put_at}
use Rattle.record.specs.Devices.{mark, flag, head_of}
use Rattle.record.proofs.Puts.{put_then}
use Rattle.record.proofs.Held.{held-sized}
use Rattle.record.proofs.put_head.Goals as goal

pub returns : goal.returns
unfolding head_of
returns c =
    let d = c.args.hda in
    let sized = held-sized d _ c.well_formed.0 in
    let two = flag d.microphone ∷ flag d.paused ∷ [] in
    let told : c.flag_byte.result ∷ c.flag_byte-2.result ∷ [] ≡ two = rw (c.flag_byte.ensures, c.flag_byte-2.ensures) in
    put_then 0 4 _ c.args.into.now (omega arith) mark refl c.put.ensures
    (put_then 4 6 _ c.put.new.into (omega arith) two refl (c.put-2.ensures ∙ ap (λ (bs : List ℕ). put_at 4 bs c.put.new.into) told)
    (put_then 6 262 _ c.put-2.new.into (omega arith) d.config (omega arith) c.put-3.ensures
    (put_then 262 518 _ c.put-3.new.into (omega arith) d.regs (omega arith) c.put-4.ensures c.put_link.ensures)))
