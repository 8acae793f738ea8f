-- `put_queue` puts `queue_bytes`: the flag, then the length.
use Prim.Native.Nat.{ℕ, ◌+◌}
use mathlib.Core.Path.{refl, ap, ◌∙◌}
use mathlib.Core.List.{[], ◌∷◌}
use native.Mathlib.Omega.{arith}
use Rattle.word.specs.Place.{put_at}
use Rattle.word.proofs.Place.{store-put}
use Rattle.record.specs.Devices.{flag}
use Rattle.record.proofs.Puts.{put_then}
use Rattle.host_record.proofs.put_queue.Goals as goal

pub returns : goal.returns
returns c =
    let at = c.args.at in
    let q = c.args.q in
    let into = c.args.into.now in
    put_then at (at + 1) _ into (omega arith) (flag q.live ∷ []) refl
    (c.put.ensures ∙ ap (λ (x : ℕ). put_at at (x ∷ []) into) c.flag_byte.ensures)
    (c.put-2.ensures ∙ store-put 4 (at + 1) q.length c.put.new.into)
