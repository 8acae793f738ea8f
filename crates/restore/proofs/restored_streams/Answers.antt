-- `restored_streams` is `restored_streams`. The loop's invariant: `at` is the place of the next stream; the streams filled so far, and those left, are all. The
-- measure is the number of streams left.
use mathlib.Core.Path.{refl, ◌∙◌}
use native.Mathlib.Omega.{arith}
use lib.ListN.{length-set}
use Rattle.stream.specs.Box.{streams}
use Rattle.record.specs.Loads.{stream_at}
use Rattle.parse.specs.States.{place_of}
use Rattle.restore.specs.Restores.{restored_stream}
use Rattle.restore.proofs.Places.{read_next, read-room}
use Rattle.restore.proofs.Turns.{fill-turn, fill_end, read_kept}
use Rattle.restore.proofs.restored_streams.Goals as goal

pub loop-index-init : goal.loop-index-init
unfolding place_of
loop-index-init c =
    (refl, refl, refl)

pub load_stream-s-requires : goal.load_stream-s-requires
load_stream-s-requires c =
    let l = c.loop-index in
    let s = c.args.state.now in
    omega (arith, read-room s l.index l.at (stream_at l.at s) l.invariant.1 refl c.requires (omega arith))

pub overflow_add-start : goal.overflow_add-start
overflow_add-start c =
    omega (arith, read-room c.args.state.now c.loop-index.index c.loop-index.at c.load_stream-s.result c.loop-index.invariant.1 c.load_stream-s.ensures c.requires (omega arith))

pub slice_bounds-kept-count : goal.slice_bounds-kept-count
slice_bounds-kept-count c =
    omega (arith, read-room c.args.state.now c.loop-index.index c.loop-index.at c.load_stream-s.result c.loop-index.invariant.1 c.load_stream-s.ensures c.requires (omega arith))

pub slice_bounds-kept-start : goal.slice_bounds-kept-start
slice_bounds-kept-start c =
    omega (arith, read-room c.args.state.now c.loop-index.index c.loop-index.at c.load_stream-s.result c.loop-index.invariant.1 c.load_stream-s.ensures c.requires (omega arith))

pub slice_bounds-kept-end : goal.slice_bounds-kept-end
slice_bounds-kept-end c =
    omega (arith, read-room c.args.state.now c.loop-index.index c.loop-index.at c.load_stream-s.result c.loop-index.invariant.1 c.load_stream-s.ensures c.requires (omega arith))

pub kept-requires : goal.kept-requires
kept-requires c =
    omega (arith, read-room c.args.state.now c.loop-index.index c.loop-index.at c.load_stream-s.result c.loop-index.invariant.1 c.load_stream-s.ensures c.requires (omega arith))

pub overflow_add-at : goal.overflow_add-at
overflow_add-at c =
    omega (arith, read-room c.args.state.now c.loop-index.index c.loop-index.at c.load_stream-s.result c.loop-index.invariant.1 c.load_stream-s.ensures c.requires (omega arith))

pub loop-index-preserved : goal.loop-index-preserved
loop-index-preserved c =
    let l = c.loop-index in
    let a = c.args in
    let s = a.state.now in
    let t = c.load_stream-s.result in
    let u = c.kept.result in (
      length-set l.loaded l.index u ∙ l.invariant.0,
      omega (arith, read_next s l.index l.at t l.invariant.1 c.load_stream-s.ensures),
      fill-turn (restored_stream a.strict s) streams l.index l.loaded l.invariant.0 u
          (read_kept a.strict s l.index l.at t u l.invariant.1 c.load_stream-s.ensures c.kept.ensures) (omega arith)
          ∙ l.invariant.2,
    )

pub returns : goal.returns
returns c =
    let l = c.loop-index in
    let a = c.args in
    fill_end (restored_stream a.strict a.state.now) streams l.index l.loaded l.invariant.0 (omega arith) ∙ l.invariant.2
