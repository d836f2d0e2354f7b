-- `head_at`: the header lies in the plan and its numbers are in range.
use native.Mathlib.Omega.{arith}
use Rattle.plans.specs.Form.{region_at, length_at, next_at}
use Rattle.counter.specs.Inner.Steps.{head_at}
use Rattle.counter.proofs.SoundLaws.{four-inside, region-below, length-below}
use Rattle.counter.proofs.steps.head_at.Goals as goal

pub overflow_add-at : goal.overflow_add-at
overflow_add-at c =
    let h = four-inside c.requires.1 in
    let g = c.well_formed in
    omega arith

pub number_in-region-requires : goal.number_in-region-requires
unfolding region_at
number_in-region-requires c =
    let h = four-inside c.requires.1 in
    let l = region-below c.requires.1 in
    (omega arith, omega arith)

pub parent_of-parent-requires : goal.parent_of-parent-requires
parent_of-parent-requires c = c.requires

pub overflow_add-start : goal.overflow_add-start
overflow_add-start c =
    let h = four-inside c.requires.1 in
    let g = c.well_formed in
    omega arith

pub overflow_add-at-2 : goal.overflow_add-at-2
overflow_add-at-2 c =
    let h = four-inside c.requires.1 in
    let g = c.well_formed in
    omega arith

pub number_in-requires : goal.number_in-requires
unfolding length_at
number_in-requires c =
    let h = four-inside c.requires.1 in
    let l = length-below c.requires.1 in
    (omega arith, omega arith)

pub overflow_add-end : goal.overflow_add-end
unfolding length_at
overflow_add-end c =
    let e = c.number_in.ensures in
    let g = c.well_formed in
    let h = four-inside c.requires.1 in
    let l = length-below c.requires.1 in
    omega arith

pub returns : goal.returns
unfolding head_at region_at next_at length_at
returns c = rw (c.number_in-region.ensures, c.number_in.ensures, c.parent_of-parent.ensures.0)
