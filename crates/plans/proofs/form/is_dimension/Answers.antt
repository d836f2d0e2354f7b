-- `is_dimension`: the dimensions before the u-th all differ from the t-th.
use mathlib.Core.Path.{◌≡◌, refl}
use Prim.Native.Nat.{◌≤◌}
use native.Mathlib.Omega.{arith}
use native.Mathlib.Nat.{mul-le-mul}
use Rattle.plans.specs.Indices.{all}
use Rattle.plans.proofs.IndexLaws.{all_more}
use Rattle.plans.proofs.FormLaws.{dimension-high, dimension-repeated, dimension-new, differs_yes}
use Rattle.plans.proofs.form.is_dimension.Goals as goal

pub overflow_mul-s : goal.overflow_mul-s
overflow_mul-s c = let l = mul-le-mul c.requires.0 c.requires.1 in omega arith

pub returns-then-n-d : goal.returns-then-n-d
returns-then-n-d c =
    let args = c.args in
    dimension-high args.n args.body.now args.s args.t c.number_at-d.ensures c.if-n-d.true

pub loop-u-init : goal.loop-u-init
unfolding all
loop-u-init c = refl

pub overflow_mul-s-in-loop-u : goal.overflow_mul-s-in-loop-u
overflow_mul-s-in-loop-u c =
    let h = c.loop-u-test.true in
    let k : c.loop-u.u ≤ 4096 = omega (arith, c.requires.1) in
    let l = mul-le-mul c.requires.0 k in
    omega arith

pub returns-then-number_at-d : goal.returns-then-number_at-d
returns-then-number_at-d c =
    let args = c.args in
    dimension-repeated args.n args.body.now args.s args.t c.number_at-d.ensures c.loop-u.u
    c.loop-u-test.true c.number_at.ensures c.if-number_at-d.true

pub loop-u-preserved : goal.loop-u-preserved
loop-u-preserved c =
    let loop = c.loop-u in
    let args = c.args in
    all_more _ loop.u loop.invariant
    (differs_yes args.body.now args.s args.t c.number_at-d.ensures loop.u c.number_at.ensures c.if-number_at-d.false)

pub returns : goal.returns
returns c =
    let loop = c.loop-u in
    let args = c.args in
    let e : loop.u ≡ args.t = omega arith in
    dimension-new args.n args.body.now args.s args.t c.number_at-d.ensures c.if-n-d.false (rw e at loop.invariant)
