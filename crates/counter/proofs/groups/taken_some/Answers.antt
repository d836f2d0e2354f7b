-- `taken_some`: where all values are on the scale, the events are taken without asking each.
use mathlib.Core.Path.{refl, sym, ◌∙◌}
use Prim.Native.Nat.{◌*◌, ◌≤◌}
use native.Mathlib.Omega.{arith}
use native.Mathlib.Nat.{mul-le-mul_right, le_of_lt}
use Rattle.plans.specs.Words.{part}
use Rattle.counter.proofs.GroupLaws.{all_taken, first-from-to}
use Rattle.counter.proofs.groups.taken_some.Goals as goal
use Rattle.counter.proofs.groups.taken_some.Goals.{Start}

-- the events lie in the group
module _ (entry : Start) where
  lies : entry.args.from * entry.args.n ≤ entry.args.to * entry.args.n
  lies = mul-le-mul_right entry.args.n (le_of_lt entry.requires.0)

pub overflow_mul-start : goal.overflow_mul-start
overflow_mul-start c = let l = lies c in let i = c.requires.2 in let g = c.well_formed in omega arith

pub offset_bounds-group-start : goal.offset_bounds-group-start
offset_bounds-group-start c = let l = lies c in let i = c.requires.2 in let g = c.well_formed in omega arith

pub slice_bounds-on_scale-count : goal.slice_bounds-on_scale-count
slice_bounds-on_scale-count c = lies c

pub slice_bounds-on_scale-start : goal.slice_bounds-on_scale-start
slice_bounds-on_scale-start c = let l = lies c in let i = c.requires.2 in omega arith

pub returns-then-on_scale : goal.returns-then-on_scale
unfolding part
returns-then-on_scale c =
    let args = c.args in
    let before = le_of_lt c.requires.0 in
    let flag = sym c.on_scale.ensures ∙ c.if-on_scale.true in
    let each = all_taken args.n args.group.now args.from args.to refl c.requires.2 flag in
    first-from-to _ args.from args.to before each c.requires.3 c.from_to.ensures
