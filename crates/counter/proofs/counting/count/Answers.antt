-- `count`: the check's refusal, or the tally by a plan that passes.
use mathlib.Core.Path.{sym, ◌∙◌}
use Rattle.std.proofs.lemmas.Result.{err_from_is_err_and}
use Rattle.counter.proofs.JudgeLaws.{check_passed}
use Rattle.counter.proofs.TallyLaws.{count-passed-is, count-refused-is}
use Rattle.counter.proofs.counting.count.Goals as goal

pub returns-in_err-check : goal.returns-in_err-check
returns-in_err-check c =
    let args = c.args in
    let p = err_from_is_err_and c.from_residual.result c.from_residual.ensures.1 in
    rw (p.1, p.2) (count-refused-is args.plan.now args.events.now c.check.ensures c.in_err-check.was)

pub count_passed-requires : goal.count_passed-requires
count_passed-requires c =
    let args = c.args in
    check_passed args.plan.now args.events.now c.check.ensures c.in_ok-check.was

pub returns : goal.returns
returns c =
    let args = c.args in
    c.count_passed.ensures ∙ sym (count-passed-is args.plan.now args.events.now c.check.ensures c.in_ok-check.was)
