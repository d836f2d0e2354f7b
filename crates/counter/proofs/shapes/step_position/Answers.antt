-- `step_position`: outside the parent it is outside; else its position to the shape of the step that is decoded.
use mathlib.Core.Path.{◌≡◌}
use Prim.Native.Nat.{◌≤◌}
use native.Mathlib.Omega.{arith}
use lib.ListN.{length}
use borrow.Author.Tests.{not-true, not-false}
use Rattle.counter.specs.Inner.Steps.{head_at}
use Rattle.counter.proofs.StepLaws.{body_is, body-places, head-is, step_out, step_in_lem, step-shaped}
use Rattle.counter.proofs.shapes.step_position.Goals as goal
use Rattle.counter.proofs.shapes.step_position.Goals.{After-head_of-head}

pub parent_of-requires : goal.parent_of-requires
parent_of-requires c = (_, c.requires.1)

pub in_parent-requires : goal.in_parent-requires
in_parent-requires c = c.parent_of.ensures.1

pub returns-then-not-in_parent : goal.returns-then-not-in_parent
returns-then-not-in_parent c =
    let args = c.args in
    step_out args.plan.now args.event.now args.bits args.at c.requires.1 c.parent_of.ensures.0 c.in_parent.ensures (not-true _ c.if-not-in_parent.true-raw)

pub step_at-step-requires : goal.step_at-step-requires
step_at-step-requires c = (_, c.requires.1)

-- the header that the code reads, and the body that it tells
module _ (after-head-of : After-head_of-head) where
  header : after-head-of.head_of-head.result ≡ head_at after-head-of.args.plan.now after-head-of.args.at
  header =
      let args = after-head-of.args in
      head-is args.plan.now args.event.now args.bits args.at after-head-of.requires.1 after-head-of.step_at-step.ensures after-head-of.head_of-head.ensures

  places : (after-head-of.head_of-head.result.start ≤ after-head-of.head_of-head.result.end)
      × (after-head-of.head_of-head.result.end ≤ length after-head-of.args.plan.now)
  places = body-places after-head-of.args.plan.now after-head-of.args.at header after-head-of.requires.1

pub offset_bounds-plan-start : goal.offset_bounds-plan-start
offset_bounds-plan-start c =
    let b = places c in
    let g = c.well_formed in
    omega arith

pub slice_bounds-decoded_position-count : goal.slice_bounds-decoded_position-count
slice_bounds-decoded_position-count c = (places c).0

pub slice_bounds-decoded_position-start : goal.slice_bounds-decoded_position-start
slice_bounds-decoded_position-start c = let b = places c in omega arith

pub slice_bounds-decoded_position-end : goal.slice_bounds-decoded_position-end
slice_bounds-decoded_position-end c = let b = places c in omega arith

pub decoded_position-requires : goal.decoded_position-requires
decoded_position-requires c =
    let pre = c.requires in
    let args = c.args in (
      pre.0,
      pre.1.narrow,
      step-shaped args.plan.now args.event.now args.bits args.at pre.1 c.step_at-step.ensures
          (body_is args.plan.now args.at (header (goal.at.decoded_position-requires c).After-head_of-head)),
    )

pub returns : goal.returns
returns c =
    let args = c.args in
    step_in_lem args.plan.now args.event.now args.bits args.at c.requires.1 c.parent_of.ensures.0 c.in_parent.ensures
    (not-false _ c.if-not-in_parent.false-raw) c.step_at-step.ensures
    (body_is args.plan.now args.at (header (goal.at.returns c).After-head_of-head)) c.decoded_position.ensures
