-- `play` is `play_of`. A turn that cannot be read or differs ends it; any other is one turn more. Assumes nothing.
use Rattle.std.proofs.Common.{◌≡◌, ◌+◌, ◌-◌, length, sym, refl, ap, ◌∙◌, arith}
use Rattle.port_device.specs.Calls.{lent}
use Rattle.rehearse.specs.declared.play.Tally.{Tally}
use Rattle.rehearse.specs.Verdict.{progress, turn_of, played_of}
use Rattle.rehearse.proofs.Verdicts.{turn-short, turn-cut, turn-done, play-more, play-stop, play-end}
use Rattle.rehearse.proofs.play.play.Goals as goal

pub loop-at-init : goal.loop-at-init
loop-at-init c =
    (omega arith, refl, refl, refl, refl, refl, refl, length c.args.all.now, omega arith, refl)

pub returns-then-all-at-lt-HEAD : goal.returns-then-all-at-lt-HEAD
returns-then-all-at-lt-HEAD c =
    let l = c.loop-at in
    let all = c.args.all.now in
    let x = lent l.device l.host l.lists l.queues l.memory in
    let turn = turn-short all l.at l.length l.tally x l.room _ c.if-all-at-lt-HEAD.true c.counted.ensures in
    ap played_of (sym (play-stop all (progress l.at l.length l.tally x l.room) l.invariant.7 _ c.loop-at-test.true l.invariant.8 turn (ap (λ (t : Tally). t.same) c.counted.ensures)) ∙ l.invariant.9)

pub returns-then-all-start : goal.returns-then-all-start
returns-then-all-start c =
    let l = c.loop-at in
    let all = c.args.all.now in
    let x = lent l.device l.host l.lists l.queues l.memory in
    let turn = turn-cut all l.at l.length l.tally x l.room _ _ c.load-call.ensures c.if-all-at-lt-HEAD.false c.if-all-start.true c.counted-then-all-start.ensures in
    ap played_of (sym (play-stop all (progress l.at l.length l.tally x l.room) l.invariant.7 _ c.loop-at-test.true l.invariant.8 turn (ap (λ (t : Tally). t.same) c.counted-then-all-start.ensures)) ∙ l.invariant.9)

pub returns-then-not-same : goal.returns-then-not-same
returns-then-not-same c =
    let l = c.loop-at in
    let all = c.args.all.now in
    let x = lent l.device l.host l.lists l.queues l.memory in
    let after = c.judge-same.new in
    let end = l.at + 35 + c.load-call.result.count in
    let there = progress end c.length_of-length.result c.counted-tally.result (lent after.device after.host after.lists after.queues after.memory) after.room in
    let turn : there ≡ turn_of all (progress l.at l.length l.tally x l.room) =
    turn-done all l.at l.length l.tally x l.room _ _ c.load-call.ensures c.if-all-at-lt-HEAD.false c.if-all-start.false _ c.length_of-length.ensures (end - (l.at + 35)) _ c.judge-same.ensures (omega arith) c.counted-tally.ensures in
    ap played_of (sym (play-stop all (progress l.at l.length l.tally x l.room) l.invariant.7 there c.loop-at-test.true l.invariant.8 turn (ap (λ (t : Tally). t.same) c.counted-tally.ensures ∙ c.if-not-same.true)) ∙ l.invariant.9)

pub loop-at-preserved : goal.loop-at-preserved
loop-at-preserved c =
    let l = c.loop-at in
    let all = c.args.all.now in
    let x = lent l.device l.host l.lists l.queues l.memory in
    let after = c.judge-same.new in
    let end = l.at + 35 + c.load-call.result.count in
    let there = progress end c.length_of-length.result c.counted-tally.result (lent after.device after.host after.lists after.queues after.memory) after.room in
    let turn : there ≡ turn_of all (progress l.at l.length l.tally x l.room) =
    turn-done all l.at l.length l.tally x l.room _ _ c.load-call.ensures c.if-all-at-lt-HEAD.false c.if-all-start.false _ c.length_of-length.ensures (end - (l.at + 35)) _ c.judge-same.ensures (omega arith) c.counted-tally.ensures in
    let k = play-more all (progress l.at l.length l.tally x l.room) l.invariant.7 there c.loop-at-test.true l.invariant.8 turn (ap (λ (t : Tally). t.same) c.counted-tally.ensures ∙ c.if-not-same.false) in
    (omega arith, omega arith, omega arith, omega arith, omega arith, omega arith, omega arith, k.0, omega (arith, k.1, l.invariant.8), sym k.2 ∙ l.invariant.9)

pub returns : goal.returns
returns c =
    let l = c.loop-at in
    let x = lent l.device l.host l.lists l.queues l.memory in
    ap played_of (sym (play-end c.args.all.now (progress l.at l.length l.tally x l.room) l.invariant.7 c.loop-at-test.false) ∙ l.invariant.9)
