-- `step_form`: a bad word of the header, a bad word of the body, or a good step.
use mathlib.Core.Path.{ap}
use Prim.Native.Nat.{◌+◌, ◌≤◌}
use native.Mathlib.Omega.{arith}
use lib.ListN.{length}
use Rattle.plans.proofs.CheckLaws.{run-most, part-most, bad-head, bad-body, good-step}
use Rattle.plans.proofs.form.step_form.Goals as goal
use Rattle.plans.proofs.form.step_form.Goals.{After-body_run-run, After-part_at}

-- a body has at most as many words as the plan, and its good words are no more
short : (c : After-part_at) → length c.part_at.result.now ≤ 4096
short c =
    let a = c.args in
    let h = c.requires.1 in
    let q = ap length c.part_at.ensures in
    let l = part-most a.plan.now (a.at + 4) c.number_at-m.result in
    omega arith

few : (c : After-body_run-run) → c.body_run-run.result ≤ 4096
few c =
    let a = c.args in
    let e = c.body_run-run.ensures in
    let r = run-most c.kind_at.result a.n a.regions.count a.regions.set c.part_at.result.now in
    let l = short c.before in
    omega arith

pub returns-then-head-lt4 : goal.returns-then-head-lt4
returns-then-head-lt4 c =
    let args = c.args in
    bad-head args.plan.now args.n args.regions.count args.regions.set args.at c.head_run-head.ensures c.if-head-lt4.true

pub body_run-run-requires : goal.body_run-run-requires
body_run-run-requires c = short c

pub overflow_add-result-then-run-m-2 : goal.overflow_add-result-then-run-m-2
overflow_add-result-then-run-m-2 c =
    let l = few (goal.at.overflow_add-result-then-run-m-2 c).After-body_run-run in
    let h = c.requires.0 in
    omega arith

pub returns-then-run-m : goal.returns-then-run-m
returns-then-run-m c =
    let args = c.args in
    bad-body args.plan.now args.n args.regions.count args.regions.set args.at c.head_run-head.ensures c.if-head-lt4.false
    c.number_at-m.ensures c.kind_at.ensures c.part_at.ensures c.body_run-run.ensures
    c.if-run-m.true

pub overflow_add-result-3 : goal.overflow_add-result-3
overflow_add-result-3 c =
    let k = c.if-run-m.false in
    let h = c.requires.0 in
    let l = few (goal.at.overflow_add-result-3 c).After-body_run-run in
    omega arith

pub returns : goal.returns
returns c =
    let args = c.args in
    good-step args.plan.now args.n args.regions.count args.regions.set args.at c.head_run-head.ensures c.if-head-lt4.false
    c.number_at-m.ensures c.kind_at.ensures c.part_at.ensures
    c.body_run-run.ensures c.if-run-m.false c.number_at.ensures
