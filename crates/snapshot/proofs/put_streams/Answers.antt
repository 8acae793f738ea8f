-- `put_streams` puts `streams_of`. The loop's invariant: the streams left, put at `at`, give what all of them give, `at` and their bytes are the whole size, and
-- no length changed. The measure is the number of streams left.
use Prim.Native.Nat.{◌+◌, ◌-◌, ◌*◌}
use mathlib.Core.Path.{◌≡◌, refl, sym, ◌∙◌}
use native.Mathlib.Omega.{arith}
use Rattle.stream.specs.Streams.{list_size, fresh_of}
use Rattle.stream.specs.Box.{streams}
use Rattle.snapshot.specs.States.{size_of}
use Rattle.snapshot.proofs.Sizes.{part_room, size-bound}
use Rattle.snapshot.proofs.Turns.{sizes-next, streams-turn, streams-end}
use Rattle.snapshot.proofs.put_streams.Goals as goal

pub loop-index-init : goal.loop-index-init
unfolding size_of
loop-index-init c =
    (refl, refl)

pub put_stream-requires : goal.put_stream-requires
unfolding fresh_of
put_stream-requires c =
    let i = c.loop-index.index in
    let part : list_size * i + list_size - list_size * i ≡ list_size = omega arith in (
      rw part (part_room c.args.hda c.args.lists.now c.requires.0 i (omega arith)),
      omega (arith, sizes-next c.args.hda streams i (omega arith), c.requires.1),
    )

pub overflow_add-at : goal.overflow_add-at
unfolding fresh_of
overflow_add-at c =
    let d = c.args.hda in
    omega (arith, sizes-next d streams c.loop-index.index (omega arith), size-bound d c.requires.0.few)

pub loop-index-preserved : goal.loop-index-preserved
unfolding fresh_of
loop-index-preserved c =
    let d = c.args.hda in
    let i = c.loop-index.index in
    let at = c.loop-index.at in
    let next = sizes-next d streams i (omega arith) in (
      omega arith,
      streams-turn d streams i c.args.lists.now at (at + c.stream_size-at.result) (list_size * i + list_size - list_size * i) c.loop-index.into
          c.put_stream.new.into c.requires.0 (omega arith) (omega arith) (omega (arith, c.requires.1)) (omega arith) (omega arith)
          c.put_stream.ensures
          ∙ c.loop-index.invariant.1,
    )

pub returns : goal.returns
returns c =
    sym (streams-end c.args.hda streams c.loop-index.index c.args.lists.now c.loop-index.at c.loop-index.into (omega arith)) ∙ c.loop-index.invariant.1
