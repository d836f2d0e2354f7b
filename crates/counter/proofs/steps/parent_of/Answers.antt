-- `parent_of`: the header lies in the plan, and its parent is a region.
use mathlib.Core.Path.{◌≡◌, ap, ◌∙◌}
use Prim.Native.Nat.{◌+◌}
use native.Mathlib.Omega.{arith}
use Rattle.plans.specs.Words.{word}
use Rattle.counter.specs.Inner.Steps.{parent_region}
use Rattle.counter.proofs.ReadLaws.{read_word}
use Rattle.counter.proofs.SoundLaws.{four-inside, parent_is}
use Rattle.counter.proofs.steps.parent_of.Goals as goal

pub overflow_add-at : goal.overflow_add-at
overflow_add-at c =
    let h = four-inside c.requires.1 in
    let g = c.well_formed in
    omega arith

pub offset_bounds-plan-at : goal.offset_bounds-plan-at
offset_bounds-plan-at c =
    let h = four-inside c.requires.1 in
    let g = c.well_formed in
    omega arith

pub bounds-plan-at : goal.bounds-plan-at
bounds-plan-at c = let h = four-inside c.requires.1 in omega arith

pub returns : goal.returns
returns c =
    let plan = c.args.plan.now in
    let at = c.args.at in
    let s = c.requires.1 in
    let w = read_word plan (at + 2) (let h = four-inside s in omega arith) c.region_of-arg-1.given in
    let e : c.region_of.result ≡ parent_region (word plan (at + 2)) = c.region_of.ensures ∙ ap parent_region w in
    (e, rw e (parent_is s 0).1)
