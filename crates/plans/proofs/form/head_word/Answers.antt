-- `head_word` makes the tests of `head_word` in their order.
use native.Mathlib.Omega.{arith}
use Rattle.plans.proofs.FormLaws.{head-kind, head-region, head-parent, head-length}
use Rattle.plans.proofs.form.head_word.Goals as goal

pub returns-in-0 : goal.returns-in-0
returns-in-0 c =
    let args = c.args in
    head-kind args.plan.now args.regions.count args.regions.set args.at args.j (omega arith) c.kind_at.ensures c.is_known.ensures

pub returns-in-1 : goal.returns-in-1
returns-in-1 c =
    let args = c.args in
    head-region args.plan.now args.regions.count args.regions.set args.at args.j (λ e. omega arith) (omega arith) c.number_at.ensures c.is_free.ensures

pub returns-in-2 : goal.returns-in-2
returns-in-2 c =
    let args = c.args in
    head-parent args.plan.now args.regions.count args.regions.set args.at args.j (λ e. omega arith) (λ e. omega arith) (omega arith) c.is_parent.ensures

pub returns-in_default : goal.returns-in_default
returns-in_default c =
    let args = c.args in
    head-length args.plan.now args.regions.count args.regions.set args.at args.j (λ e. omega arith) (λ e. omega arith) (λ e. omega arith)
    c.kind_at-in_default.ensures c.number_at-in_default.ensures c.is_length.ensures
