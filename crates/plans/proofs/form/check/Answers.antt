-- `check`: what is left of the plan, read from a place on, says what the check says.
use mathlib.Core.Path.{◌≡◌, refl, sym, ◌∙◌}
use Prim.Native.Nat.{◌-◌, ◌+◌, ◌<◌, ◌≤◌}
use native.Mathlib.Omega.{arith}
use borrow.Author.Tests.{not-true, not-false}
use Rattle.std.proofs.lemmas.Result.{err_from_is_err_and}
use Rattle.plans.proofs.CheckLaws.{few-steps, long-plan, bad-width, bad-count, good-head, turn-bad, turn-good, turn_inside, left_over, all_read}
use Rattle.plans.proofs.form.check.Goals as goal

pub returns-then-plan-gt4096 : goal.returns-then-plan-gt4096
returns-then-plan-gt4096 c = long-plan c.args.plan.now c.if-plan-gt4096.true

pub returns-then-not-is_within : goal.returns-then-not-is_within
returns-then-not-is_within c =
    bad-width c.args.plan.now c.if-plan-gt4096.false c.number_at-n.ensures c.is_within.ensures
    (not-true _ c.if-not-is_within.true-raw)

pub returns-then-not-is_within-2 : goal.returns-then-not-is_within-2
returns-then-not-is_within-2 c =
    bad-count c.args.plan.now c.if-plan-gt4096.false c.number_at-n.ensures c.is_within.ensures
    (not-false _ c.if-not-is_within.false-raw) c.number_at-k.ensures c.is_within-2.ensures (not-true _ c.if-not-is_within-2.true-raw)

pub loop-init : goal.loop-init
loop-init c =
    let k = c.number_at-k.result in
    let all : k - 0 ≡ k = omega arith in
    let h =
    good-head c.args.plan.now c.if-plan-gt4096.false c.number_at-n.ensures c.is_within.ensures
    (not-false _ c.if-not-is_within.false-raw) c.number_at-k.ensures c.is_within-2.ensures (not-false _ c.if-not-is_within-2.false-raw) in
    (h.0, refl, rw all h.1)

pub step_form-requires : goal.step_form-requires
step_form-requires c =
    let i = c.loop.invariant.0 in
    let l = c.if-plan-gt4096.false in
    (omega arith, omega arith)

pub returns-in_err-step : goal.returns-in_err-step
returns-in_err-step c =
    let loop = c.loop in
    let k = c.number_at-k.result in
    let more : 0 < k - loop.counter = omega arith in
    let step = rw loop.invariant.1 at c.step_form.ensures in
    let p = err_from_is_err_and c.from_residual.result c.from_residual.ensures.1 in
    rw (p.1, p.2)
    (sym (loop.invariant.2
    ∙ turn-bad c.args.plan.now c.number_at-n.result k loop.regions.set loop.at (k - loop.counter) more step c.in_err-step.was))

pub loop-preserved : goal.loop-preserved
loop-preserved c =
    let j = c.loop in
    let k = c.number_at-k.result in
    let n = c.number_at-n.result in
    let p = c.args.plan.now in
    let more : 0 < k - j.counter = omega arith in
    let fewer : k - j.counter - 1 ≡ k - (j.counter + 1) = omega arith in
    let step = rw j.invariant.1 at c.step_form.ensures in
    let few : k ≤ 64 = few-steps (sym c.is_within-2.ensures ∙ not-false _ c.if-not-is_within-2.false-raw) in (
      turn_inside p n k j.regions.set j.at (k - j.counter) more step few j.invariant.0 c.in_ok-step.was,
      j.invariant.1,
      j.invariant.2
          ∙ (rw fewer at (turn-good p n k j.regions.set j.at (k - j.counter) more step c.in_ok-step.was))
          ∙ rw c.with_bit.ensures,
    )

pub returns-then-at-plan : goal.returns-then-at-plan
returns-then-at-plan c =
    let loop = c.loop in
    let k = c.number_at-k.result in
    let done : k - loop.counter ≤ 0 = omega arith in
    sym (loop.invariant.2
    ∙ left_over c.args.plan.now c.number_at-n.result k loop.regions.set loop.at (k - loop.counter) done c.if-at-plan.true)

pub returns : goal.returns
returns c =
    let loop = c.loop in
    let k = c.number_at-k.result in
    let done : k - loop.counter ≤ 0 = omega arith in
    sym (loop.invariant.2
    ∙ all_read c.args.plan.now c.number_at-n.result k loop.regions.set loop.at (k - loop.counter) done c.if-at-plan.false)
