-- `bits_of`: the steps that are left are sound, and settle both sets that are asked.
use mathlib.Core.Path.{refl, sym, ◌∙◌}
use Prim.Native.Nat.{ℕ, ◌+◌, ◌-◌, ◌<◌, ◌≤◌}
use mathlib.Core.List.{List}
use lib.IntN.{ℤ}
use native.Mathlib.Omega.{arith}
use lib.ListN.{length}
use Rattle.plans.specs.Form.{step_count, region_at, length_at, next_at}
use Rattle.counter.specs.Members.{bits_of}
use Rattle.counter.specs.Outlines.{outline_of}
use Rattle.counter.specs.Inner.Steps.{Sound, AllSound}
use Rattle.counter.proofs.SoundLaws.{passing, four-inside, region-below, length-below}
use Rattle.counter.proofs.StepLaws.{now-sound, settled-more, settled-done, outline-more, outline-done}
use Rattle.counter.proofs.passing.bits_of.Goals as goal
use Rattle.counter.proofs.passing.bits_of.Goals.{After-number_in-region, After-settle-outline, In-loop-left}

-- in the loop: the step at hand, and those after it
module _ (b : In-loop-left) where
  abbrev plan : List ℤ
  plan = b.args.plan.now

  abbrev event : List ℤ
  event = b.args.event.now

  abbrev place : ℕ
  place = b.loop-left.at

  sound : Sound plan (length event) place × AllSound (b.loop-left.left - 1) plan (length event) (next_at plan place)
  sound =
      let loop = b.loop-left in
      now-sound loop.left plan event (length event) loop.members place b.loop-left-test.true loop.invariant.0

  now : Sound plan (length event) place
  now = sound.0

pub number_in-left-requires : goal.number_in-left-requires
unfolding step_count
number_in-left-requires c =
    let w = passing c.args.plan.now c.requires.0 in
    let t = w.two in
    let f = w.few in
    (omega arith, omega arith)

pub loop-left-init : goal.loop-left-init
unfolding bits_of outline_of step_count
loop-left-init c = let w = passing c.args.plan.now c.requires.0 in
    rw (c.number_in-left.ensures, c.requires.1) (w.sound, refl, refl)

pub step_position-position-requires : goal.step_position-position-requires
step_position-position-requires c = (c.requires.2, now c)

pub overflow_add-at : goal.overflow_add-at
overflow_add-at c =
    let h = four-inside (now (goal.at.overflow_add-at c).In-loop-left) in
    let g = c.well_formed in
    omega arith

pub number_in-region-requires : goal.number_in-region-requires
unfolding region_at
number_in-region-requires c =
    let in-loop-left = (goal.at.number_in-region-requires c).In-loop-left in
    let h = four-inside (now in-loop-left) in
    let l = region-below (now in-loop-left) in
    (omega arith, omega arith)

-- the region that is read is below 64
region-small : (c : After-number_in-region) → c.number_in-region.result < 64
unfolding region_at
region-small c =
    let l = region-below (now c.before.before) in
    let e = c.number_in-region.ensures in
    omega arith

pub settle-members-requires : goal.settle-members-requires
settle-members-requires c = region-small (goal.at.settle-members-requires c).After-number_in-region

pub settle-outline-requires : goal.settle-outline-requires
settle-outline-requires c = region-small (goal.at.settle-outline-requires c).After-number_in-region

-- after both sets are raised
module _ (c : After-settle-outline) where
  abbrev in-loop : In-loop-left
  in-loop = c.before.before.before.before.before.before

  step-inside : place in-loop + 4 ≤ length (plan in-loop)
  step-inside = four-inside (now in-loop)

pub overflow_add-at-in-loop-left : goal.overflow_add-at-in-loop-left
overflow_add-at-in-loop-left c =
    let h = step-inside c in
    let g = c.well_formed in
    omega arith

pub overflow_add-at-in-loop-left-2 : goal.overflow_add-at-in-loop-left-2
overflow_add-at-in-loop-left-2 c =
    let h = step-inside c in
    let g = c.well_formed in
    omega arith

pub number_in-requires : goal.number_in-requires
unfolding length_at
number_in-requires c =
    let h = step-inside c in
    let l = length-below (now (goal.at.number_in-requires c).In-loop-left) in
    (omega arith, omega arith)

pub overflow_add-at-in-loop-left-3 : goal.overflow_add-at-in-loop-left-3
unfolding length_at
overflow_add-at-in-loop-left-3 c =
    let e = c.number_in.ensures in
    let g = c.well_formed in
    let h = step-inside (goal.at.overflow_add-at-in-loop-left-3 c).After-settle-outline in
    let l = length-below (now (goal.at.overflow_add-at-in-loop-left-3 c).In-loop-left) in
    omega arith

pub loop-left-preserved : goal.loop-left-preserved
unfolding next_at length_at
loop-left-preserved c =
    let in-loop-left = (goal.at.loop-left-preserved c).In-loop-left in
    let loop = c.loop-left in
    let tells = c.step_position-position.ensures in
    let member = c.not_outside-member.ensures ∙ tells.0 in
    let on = c.is_on_outline-on.ensures ∙ tells.1 in
    let region = c.number_in-region.ensures in
    let members = c.settle-members.ensures in (
      rw c.number_in.ensures (sound in-loop-left).1,
      loop.invariant.1
          ∙ settled-more loop.left (plan in-loop-left) (event in-loop-left) (length (event in-loop-left))
          loop.members (place in-loop-left) c.loop-left-test.true
          member region members c.number_in.ensures,
      loop.invariant.2
          ∙ outline-more loop.left (plan in-loop-left) (event in-loop-left) (length (event in-loop-left))
          loop.members (place in-loop-left) c.loop-left-test.true loop.outline
          member on region members c.settle-outline.ensures c.number_in.ensures,
    )

pub returns : goal.returns
returns c =
    let j = c.loop-left in
    let args = c.args in
    let done = c.loop-left-test.false in (
      sym (j.invariant.1 ∙ settled-done j.left args.plan.now args.event.now 0 j.members j.at done),
      sym (j.invariant.2 ∙ outline-done j.left args.plan.now args.event.now 0 j.members j.at done j.outline),
    )
