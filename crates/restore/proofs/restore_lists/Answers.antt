-- `restore_lists` puts `restored_lists`. The loop's invariant: `at` is the place of the next stream, what the streams left put gives what all of them do, and no
-- length changed. The measure is the number of streams left.
use Prim.Native.Nat.{◌+◌, ◌-◌, ◌*◌}
use mathlib.Core.Path.{refl, sym, ◌∙◌}
use native.Mathlib.Omega.{arith}
use Rattle.word.specs.Each.{always}
use Rattle.word.proofs.Each.{each_step, each-end}
use Rattle.stream.specs.Box.{streams}
use Rattle.record.specs.Loads.{stream_at}
use Rattle.parse.specs.States.{place_of}
use Rattle.restore.specs.Restores.{put_positions, restored_lists}
use Rattle.restore.proofs.Places.{read_next, read-room, read-few}
use Rattle.restore.proofs.Turns.{read-fewer, length-positions, positions-put}
use Rattle.restore.proofs.restore_lists.Goals as goal

pub loop-index-init : goal.loop-index-init
unfolding place_of
loop-index-init c =
    (refl, streams, omega arith, refl)

pub load_stream-s-requires : goal.load_stream-s-requires
load_stream-s-requires c =
    let l = c.loop-index in
    let s = c.args.state.now in
    omega (arith, read-room s l.index l.at (stream_at l.at s) l.invariant.0 refl c.requires.0 (omega arith))

pub overflow_add-start : goal.overflow_add-start
overflow_add-start c =
    omega (arith, read-room c.args.state.now c.loop-index.index c.loop-index.at c.load_stream-s.result c.loop-index.invariant.0 c.load_stream-s.ensures c.requires.0 (omega arith))

pub slice_bounds-kept-count : goal.slice_bounds-kept-count
slice_bounds-kept-count c =
    omega (arith, read-room c.args.state.now c.loop-index.index c.loop-index.at c.load_stream-s.result c.loop-index.invariant.0 c.load_stream-s.ensures c.requires.0 (omega arith))

pub slice_bounds-kept-start : goal.slice_bounds-kept-start
slice_bounds-kept-start c =
    omega (arith, read-room c.args.state.now c.loop-index.index c.loop-index.at c.load_stream-s.result c.loop-index.invariant.0 c.load_stream-s.ensures c.requires.0 (omega arith))

pub slice_bounds-kept-end : goal.slice_bounds-kept-end
slice_bounds-kept-end c =
    omega (arith, read-room c.args.state.now c.loop-index.index c.loop-index.at c.load_stream-s.result c.loop-index.invariant.0 c.load_stream-s.ensures c.requires.0 (omega arith))

pub kept-t-requires : goal.kept-t-requires
kept-t-requires c =
    omega (arith, read-room c.args.state.now c.loop-index.index c.loop-index.at c.load_stream-s.result c.loop-index.invariant.0 c.load_stream-s.ensures c.requires.0 (omega arith))

pub overflow_add-end : goal.overflow_add-end
overflow_add-end c =
    omega (arith, read-room c.args.state.now c.loop-index.index c.loop-index.at c.load_stream-s.result c.loop-index.invariant.0 c.load_stream-s.ensures c.requires.0 (omega arith), read-fewer c.args.strict c.args.state.now c.loop-index.index c.loop-index.at c.load_stream-s.result c.kept-t.result c.loop-index.invariant.0 c.load_stream-s.ensures c.kept-t.ensures)

pub slice_bounds-put-end : goal.slice_bounds-put-end
slice_bounds-put-end c =
    omega (arith, read-room c.args.state.now c.loop-index.index c.loop-index.at c.load_stream-s.result c.loop-index.invariant.0 c.load_stream-s.ensures c.requires.0 (omega arith), read-fewer c.args.strict c.args.state.now c.loop-index.index c.loop-index.at c.load_stream-s.result c.kept-t.result c.loop-index.invariant.0 c.load_stream-s.ensures c.kept-t.ensures)

pub put-requires : goal.put-requires
put-requires c =
    let l = c.loop-index in
    let a = c.args in
    let s = a.state.now in
    let t = c.load_stream-s.result in
    let u = c.kept-t.result in
    let own = c.load_stream-s.ensures in
    omega (
      arith,
      length-positions a.strict s l.index l.at t u l.invariant.0 own c.kept-t.ensures (l.at + 34 + 8 * u.pending - (l.at + 34)) (omega arith) c.requires.0 (omega arith),
      read-few s l.index l.at t l.invariant.0 own c.requires.0 (omega arith),
      read-fewer c.args.strict c.args.state.now c.loop-index.index c.loop-index.at c.load_stream-s.result c.kept-t.result c.loop-index.invariant.0 c.load_stream-s.ensures c.kept-t.ensures,
    )

pub overflow_add-at : goal.overflow_add-at
overflow_add-at c =
    omega (arith, read-room c.args.state.now c.loop-index.index c.loop-index.at c.load_stream-s.result c.loop-index.invariant.0 c.load_stream-s.ensures c.requires.0 (omega arith))

pub loop-index-preserved : goal.loop-index-preserved
loop-index-preserved c =
    let l = c.loop-index in
    let a = c.args in
    let s = a.state.now in
    let t = c.load_stream-s.result in
    let u = c.kept-t.result in
    let own = c.load_stream-s.ensures in
    let lists = c.put.new.into in
    let turn = positions-put a.strict s l.index l.at t u l.invariant.0 own c.kept-t.ensures (l.at + 34 + 8 * u.pending - (l.at + 34)) (omega arith) l.lists lists c.put.ensures in
    let k = each_step always (put_positions a.strict s) streams l.index l.invariant.1 l.lists lists l.invariant.2 (omega arith) turn refl in
    (omega (arith, read_next s l.index l.at t l.invariant.0 own), k.0, k.1, sym k.2 ∙ l.invariant.3)

pub returns : goal.returns
unfolding restored_lists
returns c =
    let l = c.loop-index in
    let a = c.args in
    sym (each-end always (put_positions a.strict a.state.now) streams l.index l.invariant.1 l.lists l.invariant.2 (omega arith)) ∙ l.invariant.3
