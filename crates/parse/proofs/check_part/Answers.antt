-- `check_part` is `step_at`: the numbers are there, then the stream decides. A stream that is taken ends inside the state, so its end is a place.
use mathlib.Core.Path.{◌≡◌, sym, ap, ◌∙◌}
use native.Mathlib.Omega.{arith}
use borrow.Author.Rules.{rules}
use Rattle.parse.specs.States.{stepped_by, step_out, step_at}
use Rattle.parse.proofs.Fields.{run-room, run-passed, run-cut}
use Rattle.std.specs.Prelude.{Err}
use Rattle.refusal.specs.declared.Refusal.{Refusal}
use Rattle.refusal.specs.Refusals.{number_of}
use Rattle.parse.proofs.Parts.{step-refused, step-passed, stream-fits}
use Rattle.parse.proofs.check_part.Goals as goal

pub returns-in_err-list : goal.returns-in_err-list
unfolding step_at
returns-in_err-list c =
    let r = c.in_err-list.field-0.0 in
    let cut = run-cut _ _ _ c.run_end.ensures (step_out 2 c.args.at) _ c.in_err-list.was in
    let same : c.from_residual.result ≡ Err r = search rules in
    ap (stepped_by c.args.at) same ∙ ap (λ (x : Refusal). step_out (number_of x) c.args.at) (sym cut.0) ∙ cut.1

pub load_stream-s-requires : goal.load_stream-s-requires
load_stream-s-requires c =
    (run-room _ _ _ c.run_end.ensures c.in_ok-list.was).0

pub check_stream-requires : goal.check_stream-requires
check_stream-requires c =
    let there = run-room _ _ _ c.run_end.ensures c.in_ok-list.was in
    (c.requires.0, (omega (arith, there.1), omega (arith, there.0, there.1)))

pub returns-in_err-check_stream : goal.returns-in_err-check_stream
unfolding step_at
returns-in_err-check_stream c =
    run-passed _ _ _ c.run_end.ensures _ _ c.in_ok-list.was
    (step-refused _ _ _ _ _ c.load_stream-s.ensures c.check_stream.ensures c.in_err-check_stream.was (search rules))

pub overflow_add-result : goal.overflow_add-result
overflow_add-result c =
    let there = run-room _ _ _ c.run_end.ensures c.in_ok-list.was in
    omega (arith, stream-fits _ _ _ _ _ (sym c.in_ok-check_stream.ensures) (omega (arith, there.0, there.1)))

pub returns : goal.returns
unfolding step_at
returns c =
    run-passed _ _ _ c.run_end.ensures _ _ c.in_ok-list.was
    (step-passed _ _ _ _ _ c.load_stream-s.ensures c.check_stream.ensures c.in_ok-check_stream.was)
