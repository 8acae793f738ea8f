-- `store_host` puts `host_bytes`: the two switches, the downstream count and the queues, one behind the other.
use Prim.Native.Nat.{ℕ}
use mathlib.Core.Path.{◌≡◌, refl, sym, ap, ◌∙◌}
use mathlib.Core.List.{List, [], ◌∷◌}
use native.Mathlib.Omega.{arith}
use Rattle.word.specs.Place.{put_at}
use Rattle.record.specs.Devices.{flag}
use Rattle.record.proofs.Puts.{put_then, store_then, put_all}
use Rattle.host_record.specs.Hosts.{host_bytes}
use Rattle.host_record.proofs.Sizes.{length-host}
use Rattle.host_record.proofs.store_host.Goals as goal

pub returns : goal.returns
unfolding host_bytes
returns c =
    let h = c.args.host in
    let into = c.args.into.now in
    let two = flag h.playback ∷ flag h.capture ∷ [] in
    let told : c.flag_byte.result ∷ c.flag_byte-2.result ∷ [] ≡ two = rw (c.flag_byte.ensures, c.flag_byte-2.ensures) in
    put_then 0 2 _ into (omega arith) two refl (c.put.ensures ∙ ap (λ (bs : List ℕ). put_at 0 bs into) told)
    (store_then 2 6 _ c.put.new.into (omega arith) 4 h.downstream refl c.put-2.ensures c.put_queues.ensures)
    ∙ put_all (host_bytes h) into (length-host h ∙ sym c.requires)
