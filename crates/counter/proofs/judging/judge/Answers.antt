-- `judge`: the check's refusal, or the judgement by a plan that passes.
use mathlib.Core.Path.{sym, ◌∙◌}
use Rattle.std.proofs.lemmas.Result.{err_from_is_err_and}
use Rattle.counter.proofs.JudgeLaws.{check_passed, judge_passed-is, judge_refused-is}
use Rattle.counter.proofs.judging.judge.Goals as goal

pub returns-in_err-check : goal.returns-in_err-check
returns-in_err-check c =
    let args = c.args in
    let p = err_from_is_err_and c.from_residual.result c.from_residual.ensures.1 in
    rw (p.1, p.2) (judge_refused-is args.plan.now args.event.now c.check.ensures c.in_err-check.was)

pub judge_passed-requires : goal.judge_passed-requires
judge_passed-requires c =
    let args = c.args in
    check_passed args.plan.now args.event.now c.check.ensures c.in_ok-check.was

pub returns : goal.returns
returns c =
    let args = c.args in
    c.judge_passed.ensures ∙ sym (judge_passed-is args.plan.now args.event.now c.check.ensures c.in_ok-check.was)
