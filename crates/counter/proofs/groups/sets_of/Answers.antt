-- `sets_of`: the steps that are left settle what is asked of each event.
use mathlib.Core.Path.{◌≡◌}
use mathlib.Core.List.{List}
use Prim.Native.Nat.{ℕ, ◌+◌, ◌-◌, ◌<◌}
use native.Mathlib.Omega.{arith}
use native.Mathlib.Nat.{sub-zero}
use lib.IntN.{ℤ}
use Rattle.plans.specs.Form.{step_count, region_at, length_at, next_at}
use Rattle.counter.specs.Inner.Steps.{Sound, AllSound}
use Rattle.counter.proofs.SoundLaws.{passing, four-inside, region-below, length-below}
use Rattle.counter.proofs.StepLaws.{now-sound}
use Rattle.counter.proofs.GroupLaws.{settling_start, settling_next, settling_done}
use Rattle.counter.proofs.groups.sets_of.Goals as goal
use Rattle.counter.proofs.groups.sets_of.Goals.{After-number_in-r, In-loop}

pub number_in-end-requires : goal.number_in-end-requires
unfolding step_count
number_in-end-requires c =
    let w = passing c.args.plan.now c.requires.0 in
    (omega arith, omega arith)

pub loop-init : goal.loop-init
unfolding step_count
loop-init c =
    let args = c.args in
    let plan = args.plan.now in
    let sound : AllSound (step_count plan) plan args.n 2 = rw c.requires.1 (passing plan c.requires.0).sound in
    rw (c.number_in-end.ensures, sub-zero) (settling_start plan args.n args.group.now args.taken sound)

-- in the loop: the step at hand, and those after it
module _ (in-loop : In-loop) where
  abbrev plan : List ℤ
  plan = in-loop.args.plan.now

  abbrev n : ℕ
  n = in-loop.args.n

  abbrev place : ℕ
  place = in-loop.loop.at

  sound : Sound plan n place × AllSound (in-loop.number_in-end.result - in-loop.loop.counter - 1) plan n (next_at plan place)
  sound =
      let loop = in-loop.loop in
      now-sound (in-loop.number_in-end.result - loop.counter) plan in-loop.args.group.now n 0 place (omega arith) loop.invariant.sound

  now : Sound plan n place
  now = sound.0

pub step_of-found-requires : goal.step_of-found-requires
step_of-found-requires c =
    (c.requires.2, now (goal.at.step_of-found-requires c).In-loop, c.loop.invariant.long)

pub overflow_add-at : goal.overflow_add-at
overflow_add-at c =
    let h = four-inside (now (goal.at.overflow_add-at c).In-loop) in
    let g = c.well_formed in
    omega arith

pub number_in-r-requires : goal.number_in-r-requires
unfolding region_at
number_in-r-requires c =
    let in-loop = (goal.at.number_in-r-requires c).In-loop in
    let h = four-inside (now in-loop) in
    let l = region-below (now in-loop) in
    (omega arith, omega arith)

-- the region of the step is one of the 64
module _ (after-number-in2 : After-number_in-r) where
  region-low : after-number-in2.number_in-r.result < 64
  unfolding region_at
  region-low =
      let l = region-below (now after-number-in2.before.before.before) in
      omega arith

pub offset_bounds-sets-r : goal.offset_bounds-sets-r
offset_bounds-sets-r c = let l = region-low c in omega arith

pub bounds-sets-r : goal.bounds-sets-r
bounds-sets-r c = region-low c

pub offset_bounds-sets-r-in-loop : goal.offset_bounds-sets-r-in-loop
offset_bounds-sets-r-in-loop c = let l = region-low c in omega arith

pub bounds-sets-r-in-loop : goal.bounds-sets-r-in-loop
bounds-sets-r-in-loop c = region-low c

pub overflow_add-at-in-loop : goal.overflow_add-at-in-loop
overflow_add-at-in-loop c =
    let h = four-inside (now (goal.at.overflow_add-at-in-loop c).In-loop) in
    let g = c.well_formed in
    omega arith

pub overflow_add-at-in-loop-2 : goal.overflow_add-at-in-loop-2
overflow_add-at-in-loop-2 c =
    let h = four-inside (now (goal.at.overflow_add-at-in-loop-2 c).In-loop) in
    let g = c.well_formed in
    omega arith

pub number_in-requires : goal.number_in-requires
unfolding length_at
number_in-requires c =
    let in-loop = (goal.at.number_in-requires c).In-loop in
    let h = four-inside (now in-loop) in
    let l = length-below (now in-loop) in
    (omega arith, omega arith)

pub overflow_add-at-in-loop-3 : goal.overflow_add-at-in-loop-3
unfolding length_at
overflow_add-at-in-loop-3 c =
    let in-loop = (goal.at.overflow_add-at-in-loop-3 c).In-loop in
    let h = four-inside (now in-loop) in
    let l = length-below (now in-loop) in
    let g = c.well_formed in
    omega arith

pub loop-preserved : goal.loop-preserved
unfolding next_at length_at region_at
loop-preserved c =
    let in-loop = (goal.at.loop-preserved c).In-loop in
    let inv = c.loop.invariant in
    let args = c.args in
    let found = c.step_of-found.ensures inv.bits inv.matched in
    let less : c.number_in-end.result - (c.loop.counter + 1) ≡ c.number_in-end.result - c.loop.counter - 1 = omega arith in
    rw (c.number_in.ensures, c.number_in-r.ensures, less)
    (settling_next (plan in-loop) (n in-loop) args.group.now args.taken inv (omega arith) (sound in-loop).1
    (region-below (now in-loop)) found)

pub returns : goal.returns
returns c =
    let args = c.args in
    settling_done args.plan.now args.n args.group.now args.taken c.loop.invariant (omega arith)
