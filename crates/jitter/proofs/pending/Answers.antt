-- `pending` meets its contract. The invariant: the windows from `index` on make of it what all of them make of it as it was. Assumes nothing.
use Prim.Native.Nat.{ℕ, ◌+◌, ◌-◌, ◌*◌}
use mathlib.Core.Path.{◌≡◌, refl, sym, ap, ◌∙◌}
use native.Mathlib.Omega.{arith}
use lib.ListN.{length}
use Rattle.word.specs.Each.{always, each_of}
use Rattle.word.proofs.Each.{each_step, each-end}
use Rattle.stream.specs.declared.Stream.{Stream}
use Rattle.stream.specs.Streams.{list_size}
use Rattle.stream.specs.Box.{streams}
use Rattle.device.specs.Devices.{stream_at}
use Rattle.record.specs.Loads.{device_at}
use Rattle.record.proofs.Theorems.{stream-loaded}
use Rattle.jitter.specs.Steps.{window_of, windows_of, pending_of}
use borrow.Author.Rules.{rules}
use Rattle.jitter.proofs.pending.Goals as goal

pub loop-index-init : goal.loop-index-init
loop-index-init c =
    (streams, refl, refl)

pub loop-index-preserved : goal.loop-index-preserved
loop-index-preserved c =
    let w = c.window in
    let s = c.load_stream-s in
    let l = c.loop-index in
    let lists = c.args.lists.now in
    let d = c.args.device.now in
    let into = w.new.into in
    let e : s.result.pending ≡ (stream_at (device_at d) l.index).pending = ap (λ (k : Stream). k.pending) (s.ensures ∙ sym (stream-loaded d l.index (omega arith))) in
    let put : into ≡ window_of lists (list_size * l.index) (8 * (stream_at (device_at d) l.index).pending) l.into = w.ensures ∙ ap (λ (k : ℕ). window_of lists (list_size * l.index) (8 * k) l.into) e in
    let k = each_step always (λ (i : ℕ). window_of lists (list_size * i) (8 * (stream_at (device_at d) i).pending)) streams l.index l.invariant.0 l.into into l.invariant.1 c.loop-index-test.true put refl in
    (k.0, k.1, sym k.2 ∙ l.invariant.2)

pub returns : goal.returns
unfolding pending_of
returns c =
    let l = c.loop-index in
    let lists = c.args.lists.now in
    let d = c.args.device.now in
    sym (each-end always (λ (i : ℕ). window_of lists (list_size * i) (8 * (stream_at (device_at d) i).pending)) streams l.index l.invariant.0 l.into l.invariant.1 c.loop-index-test.false) ∙ l.invariant.2
