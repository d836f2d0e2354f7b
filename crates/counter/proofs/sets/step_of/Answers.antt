-- `step_of`: the parent's events that are in the shape of the step that is decoded.
use mathlib.Core.Path.{◌≡◌, refl}
use Prim.Native.Nat.{◌≤◌}
use native.Mathlib.Omega.{arith}
use lib.ListN.{length}
use Rattle.plans.specs.Form.{body_at}
use Rattle.counter.specs.Inner.Steps.{head_at, step_at}
use Rattle.counter.proofs.StepLaws.{body_is, body-places, head-of-step, shaped-step}
use Rattle.counter.proofs.GroupLaws.{step_those, agree_among, candidates_and, those_none}
use Rattle.counter.proofs.sets.step_of.Goals as goal
use Rattle.counter.proofs.sets.step_of.Goals.{After-head_of-head}

pub parent_of-requires : goal.parent_of-requires
parent_of-requires c = (_, c.requires.1)

pub returns-then-among-eq0 : goal.returns-then-among-eq0
returns-then-among-eq0 c bits kept =
    let args = c.args in
    let step = step_at args.plan.now args.at in
    let body = body_at args.plan.now args.at in
    step_those c.requires.1 args.group.now kept c.parent_of.ensures.0 c.parent_set.ensures
    {step = step} refl {body = body} refl (those_none c.if-among-eq0.true)

pub step_at-step-requires : goal.step_at-step-requires
step_at-step-requires c = (_, c.requires.1)

-- the header that the code reads, and the body that it tells
module _ (after-head-of : After-head_of-head) where
  header : after-head-of.head_of-head.result ≡ head_at after-head-of.args.plan.now after-head-of.args.at
  header = head-of-step after-head-of.args.plan.now after-head-of.args.at after-head-of.step_at-step.ensures after-head-of.head_of-head.ensures

  places : (after-head-of.head_of-head.result.start ≤ after-head-of.head_of-head.result.end)
      × (after-head-of.head_of-head.result.end ≤ length after-head-of.args.plan.now)
  places = body-places after-head-of.args.plan.now after-head-of.args.at header after-head-of.requires.1

pub offset_bounds-plan-start : goal.offset_bounds-plan-start
offset_bounds-plan-start c = let b = places c in omega arith

pub slice_bounds-shape_of-count : goal.slice_bounds-shape_of-count
slice_bounds-shape_of-count c = (places c).0

pub slice_bounds-shape_of-start : goal.slice_bounds-shape_of-start
slice_bounds-shape_of-start c = let b = places c in omega arith

pub slice_bounds-shape_of-end : goal.slice_bounds-shape_of-end
slice_bounds-shape_of-end c = let b = places c in omega arith

pub shape_of-requires : goal.shape_of-requires
shape_of-requires c =
    let p = c.requires in
    let args = c.args in (
      candidates_and c.parent_set.result p.0,
      p.1.narrow,
      shaped-step args.plan.now args.at c.step_at-step.ensures p.1
          (body_is args.plan.now args.at (header (goal.at.shape_of-requires c).After-head_of-head)),
      p.2,
    )

pub returns : goal.returns
returns c bits kept =
    let sound = c.requires.1 in
    let args = c.args in
    let group = args.group.now in
    let parent_is = c.parent_of.ensures.0 in
    let set_is = c.parent_set.ensures in
    step_those sound group kept parent_is set_is c.step_at-step.ensures
    (body_is args.plan.now args.at (header (goal.at.returns c).After-head_of-head))
    (c.shape_of.ensures bits (agree_among sound group kept parent_is set_is))
